-- The versions of closings, one after another.
use Rattle.std.proofs.Common.{◌≡◌, ℕ, ◌+◌, ◌<◌, ◌≤◌, List, [], ◌∷◌, ◌++◌, length, drop, get_or, map, slice_get, Some, sym, ap, ◌∙◌, append_assoc, append-nil}
use Rattle.std.proofs.lemmas.List.{drop_all, drop_more, map-append}
use Rattle.std.proofs.lemmas.Option.{get_or_from_slice_get}
use Rattle.std.specs.List.{AllByRecursion}
use Rattle.ele_tool_words.specs.declared.zone.Offset.{Offset}
use Rattle.ele_suggest.specs.Versions.{AreVersions, IsRow, number_and_closing, numbered_from}
use Rattle.ele_suggest.specs.declared.version.Version.{Version}

abbrev pub AreSoFar : Offset → List ℕ → List ℕ → ℕ → List Version → Type 0
AreSoFar clock sizes closings place versions =
    (map number_and_closing versions ++ numbered_from (place + 1) (drop place closings) ≡ numbered_from 1 closings) × AllByRecursion (IsRow clock sizes) versions

rows_push : (clock : Offset) (sizes : List ℕ) (versions : List Version) (version : Version) → AllByRecursion (IsRow clock sizes) versions → IsRow clock sizes version → AllByRecursion (IsRow clock sizes) (versions ++ version ∷ [])
rows_push clock sizes [] version all is = (is, tt)
rows_push clock sizes (v ∷ versions) version all is = (all.0, rows_push clock sizes versions version all.1 is)

pair_is : (version : Version) (place closed : ℕ) → version.number ≡ place + 1 → version.closed ≡ closed → number_and_closing version ≡ (place + 1, closed)
pair_is version place closed n e = ap (λ (k : ℕ). (k, version.closed)) n ∙ ap (λ (k : ℕ). (place + 1, k)) e

pub rows_more : (clock : Offset) (sizes closings : List ℕ) (place : ℕ) (versions : List Version) (version : Version) → place < length closings → slice_get closings place ≡ Some version.closed → version.number ≡ place + 1 → IsRow clock sizes version
    → map number_and_closing versions ++ numbered_from (place + 1) (drop place closings) ≡ numbered_from 1 closings → AllByRecursion (IsRow clock sizes) versions → AreSoFar clock sizes closings (place + 1) (versions ++ version ∷ [])
rows_more clock sizes closings place versions version lt there number row far rows =
    let is : version.closed ≡ get_or closings place 0 = sym (get_or_from_slice_get closings place version.closed 0 there) in
    let rest = numbered_from (place + 1 + 1) (drop (place + 1) closings) in
    let pairs = map number_and_closing versions in
    let order : map number_and_closing (versions ++ version ∷ []) ++ rest ≡ numbered_from 1 closings =
    ap (λ (ps : List (ℕ × ℕ)). ps ++ rest) (map-append number_and_closing versions (version ∷ []))
    ∙ append_assoc pairs (number_and_closing version ∷ []) rest
    ∙ ap (λ (p : ℕ × ℕ). pairs ++ p ∷ rest) (pair_is version place (get_or closings place 0) number is)
    ∙ ap (λ (cs : List ℕ). pairs ++ numbered_from (place + 1) cs) (sym (drop_more closings place 0 lt))
    ∙ far in
    (order, rows_push clock sizes versions version rows row)

pub all_numbered : (clock : Offset) (sizes closings : List ℕ) (place : ℕ) (versions : List Version) → length closings ≤ place
    → map number_and_closing versions ++ numbered_from (place + 1) (drop place closings) ≡ numbered_from 1 closings → AllByRecursion (IsRow clock sizes) versions → AreVersions clock sizes closings versions
all_numbered clock sizes closings place versions le far rows = record {
  in_order = sym (append-nil (map number_and_closing versions)) ∙ ap (λ (cs : List ℕ). map number_and_closing versions ++ numbered_from (place + 1) cs) (sym (drop_all place closings le)) ∙ far;
  rows = rows;
}
