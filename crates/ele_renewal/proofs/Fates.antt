-- What becomes of the versions of a renewed world.
use Rattle.ele_renewal.proofs.Found.{IsWhole, found_renewed, versions_whole}
use Rattle.ele_renewal.proofs.Fresh.{file_same, version_one}
use Rattle.ele_renewal.proofs.Marked.{marked_after}
use Rattle.ele_renewal.proofs.Views.{own_rows, same_due, same_marks, same_newer_rows, same_policy, same_ripe, same_rows, unread}
use Rattle.ele_renewal.proofs.Words.{AllByRecursion, IsClosed, IsStart, List, None, Option, Some, VersionRow, World, [], all-found, ap, arith, false, filter, find, find-map, found_passes, is_version, list_any, map, nat_tests, new_file, new_version, option_map, refl, renewed, renewed_version, sym, true, ℕ, ◌==◌, ◌∙◌, ◌∷◌, ◌≡◌}
use Rattle.ele_model.specs.Fate.{HasFate, IsFate, level_reached, newer_version, newer_versions}
use Rattle.ele_model.specs.FileView.{file_view, is_newer, is_protected, is_version_of}
use Rattle.ele_model.specs.World.{is_open}
use Rattle.ele_model.specs.declared.fate.Fate.{Fate}
use Rattle.ele_model.specs.declared.fate.Fate.TheVariants.{Current, Due, Kept, Marked, Open}
use Rattle.ele_policy.specs.Cause.{IsCause, displacing}
use Rattle.ele_policy.specs.Ladder.{Rung, shares}
use Rattle.ele_policy.specs.declared.cause.Cause.{Cause}
use Rattle.ele_policy.specs.declared.cause.Cause.TheVariants.{Age, AtOnce, Displaced}
use Rattle.ele_policy.specs.declared.cause.Newer.{Newer}
use Rattle.ele_policy.specs.declared.policy.Policy.{Policy}
use Rattle.ele_renewal.specs.SameFates.{RenewedHasSameFates, renewed_cause, renewed_fate}

map_agreed : {X Y : Type 0} (f g : X → Y) (xs : List X) → AllByRecursion (λ x. f x ≡ g x) xs → map f xs ≡ map g xs
map_agreed f g [] same = refl
map_agreed f g (x ∷ xs) same = rw (same.0, map_agreed f g xs same.1) refl

map_twice : {X Y Z : Type 0} (g : Y → Z) (h : X → Y) (xs : List X) → map g (map h xs) ≡ map (λ x. g (h x)) xs
map_twice g h [] = refl
map_twice g h (x ∷ xs) = rw (map_twice g h xs) refl

module _ (w : World) (old : IsStart w) (row : VersionRow) (whole : IsWhole w old.formed.versions row) where
  abbrev renewed_newer : Newer → Newer
  renewed_newer other = record other { number = new_version w.versions row.file other.number }

  -- ---- the newer versions

  abbrev own : List VersionRow
  own = filter (is_version_of row.file) w.versions

  newer_agree : AllByRecursion (λ x. newer_version (renewed_version w x) ≡ renewed_newer (newer_version x)) (filter (is_newer row) own)
  newer_agree = by own (own_rows w old row.file w.versions (versions_whole w old.formed.versions)) where
    one : (x : VersionRow) → x.file ≡ row.file → newer_version (renewed_version w x) ≡ renewed_newer (newer_version x)
    one x same = rw same refl

    by : (xs : List VersionRow) → AllByRecursion (λ x. IsWhole w old.formed.versions x × (x.file ≡ row.file)) xs → AllByRecursion (λ x. newer_version (renewed_version w x) ≡ renewed_newer (newer_version x)) (filter (is_newer row) xs)
    by [] all = tt
    by (x ∷ xs) all = elim (is_newer row x) as (λ t. is_newer row x ≡ t → AllByRecursion (λ x. newer_version (renewed_version w x) ≡ renewed_newer (newer_version x)) (filter (is_newer row) (x ∷ xs))) [
      | true ↦ λ e. rw e (one x all.0.1, by xs all.1)
      | false ↦ λ e. rw e (by xs all.1)
    ] refl

  same_newers : newer_versions (file_view (renewed w) (new_file w.files row.file)) (renewed_version w row) ≡ map renewed_newer (newer_versions (file_view w row.file) row)
  same_newers = ap (λ (xs : List VersionRow). map newer_version (filter (is_newer (renewed_version w row)) xs)) (same_rows w old row.file whole.0)
      ∙ ap (map newer_version) (same_newer_rows w old row whole)
      ∙ map_twice newer_version (renewed_version w) (filter (is_newer row) own)
      ∙ map_agreed (λ x. newer_version (renewed_version w x)) (λ x. renewed_newer (newer_version x)) (filter (is_newer row) own) newer_agree
      ∙ sym (map_twice renewed_newer newer_version (filter (is_newer row) own))

  -- ---- the cause

  numbered : (o : Option Newer) → option_map (λ other. other.number) (option_map renewed_newer o) ≡ option_map (new_version w.versions row.file) (option_map (λ other. other.number) o)
  numbered None = refl
  numbered (Some other) = refl

  same_displacing : (newer : List Newer) (rung : Rung) → displacing (map renewed_newer newer) row.closed rung ≡ option_map (new_version w.versions row.file) (displacing newer row.closed rung)
  same_displacing newer rung = ap (option_map (λ (other : Newer). other.number)) (find-map renewed_newer (λ other. shares row.closed other.closed rung) newer) ∙ numbered (find (λ other. shares row.closed other.closed rung) newer)

  same_cause : (policy : Policy) (ended at : ℕ) (cause : Cause) → IsCause policy row.closed ended (newer_versions (file_view w row.file) row) at cause
      → IsCause policy row.closed ended (newer_versions (file_view (renewed w) (new_file w.files row.file)) (renewed_version w row)) at (renewed_cause w row.file cause)
  same_cause policy ended at AtOnce is = is
  same_cause policy ended at (Age seconds) is = is
  same_cause policy ended at (Displaced level by) is = record {
    rungs = is.rungs;
    ladder = is.ladder;
    reached = is.reached;
    rung = is.rung;
    at_level = is.at_level;
    by_is = ap (λ (newer : List Newer). displacing newer row.closed is.rung) same_newers ∙ same_displacing (newer_versions (file_view w row.file) row) is.rung ∙ ap (option_map (new_version w.versions row.file)) is.by_is;
  }

  -- ---- the fate

  module _ (closed : IsClosed w) where
    not_open : is_open w.handles row.file row.number ≡ false
    not_open = rw closed.handles refl

    same_protected : (at : ℕ) → is_protected (file_view (renewed w) (new_file w.files row.file)) (renewed_version w row) at ≡ is_protected (file_view w row.file) row at
    same_protected at = rw (same_marks w old row.file whole.0, unread w old closed row whole) refl

    same_fate : (fate : Fate) → IsFate w row fate → IsFate (renewed w) (renewed_version w row) (renewed_fate w row.file fate)
    same_fate Current is = is
    same_fate Open is = absurd cc (not_open, is.1)
    same_fate (Marked group mark) is = (is.0, refl, marked_after w old row whole.0 w.now group mark is.2)
    same_fate (Kept until level) is = record {
      has_ended = is.has_ended;
      unprotected = same_protected w.now ∙ is.unprotected;
      not_due = same_due w old closed row whole w.now ∙ is.not_due;
      until_is = is.until_is ∙ sym (same_ripe w old closed row whole);
      level_is = is.level_is ∙ ap (λ (policy : Option Policy). level_reached policy row.ended w.now) (sym (same_policy w old row.file whole.0));
    }
    same_fate (Due since cause) is = record {
      due = same_due w old closed row whole w.now ∙ is.due;
      ripe = same_ripe w old closed row whole ∙ is.ripe;
      why = record {
        policy = is.why.policy;
        policy_is = same_policy w old row.file whole.0 ∙ is.why.policy_is;
        ended = is.why.ended;
        has_ended = is.why.has_ended;
        why = same_cause is.why.policy is.why.ended since cause is.why.why;
      };
    }

-- a held version is found by its fresh number
module _ (w : World) (old : IsStart w) (row : VersionRow) (whole : IsWhole w old.formed.versions row) where
  same_number : (x : VersionRow) → IsWhole w old.formed.versions x → x.file ≡ row.file → (new_version w.versions x.file x.number == new_version w.versions row.file row.number) ≡ (x.number == row.number)
  same_number x other same =
      let there : list_any (is_version row.file x.number) w.versions ≡ true = rw (← same) other.1 in
      rw same (grind (arith, nat_tests, version_one w.versions row.file x.number row.number there whole.1))

  same_version : (x : VersionRow) → IsWhole w old.formed.versions x → is_version (new_file w.files row.file) (new_version w.versions row.file row.number) (renewed_version w x) ≡ is_version row.file row.number x
  same_version x other = elim (x.file == row.file) as (λ t. (x.file == row.file) ≡ t → is_version (new_file w.files row.file) (new_version w.versions row.file row.number) (renewed_version w x) ≡ is_version row.file row.number x) [
    | true ↦ λ e. rw (file_same w.files x.file row.file other.0 whole.0, same_number x other (grind (arith, nat_tests, e))) refl
    | false ↦ λ e. rw (file_same w.files x.file row.file other.0 whole.0, e) refl
  ] refl

  found_again : find (is_version row.file row.number) w.versions ≡ Some row → find (is_version (new_file w.files row.file) (new_version w.versions row.file row.number)) (map (renewed_version w) w.versions) ≡ Some (renewed_version w row)
  found_again held = found_renewed w old.formed.versions (is_version (new_file w.files row.file) (new_version w.versions row.file row.number)) (is_version row.file row.number) same_version ∙ ap (option_map (renewed_version w)) held

fates_of : (w : World) (old : IsStart w) → IsClosed w → (row : VersionRow) → IsWhole w old.formed.versions row → find (is_version row.file row.number) w.versions ≡ Some row → (fate : Fate) → IsFate w row fate
    → HasFate (renewed w) (new_file w.files row.file) (new_version w.versions row.file row.number) (renewed_fate w row.file fate)
fates_of w old closed row whole held fate is = record { row = renewed_version w row; held = found_again w old row whole held; is = same_fate w old row whole closed fate is }

fates_at : (w : World) (old : IsStart w) → IsClosed w → (row : VersionRow) → IsWhole w old.formed.versions row → (file number : ℕ) → row.file ≡ file → row.number ≡ number → find (is_version file number) w.versions ≡ Some row → (fate : Fate) → IsFate w row fate
    → HasFate (renewed w) (new_file w.files file) (new_version w.versions file number) (renewed_fate w file fate)
fates_at w old closed row whole file number same counted held fate is =
    let found : find (is_version row.file row.number) w.versions ≡ Some row = ap (λ (file : ℕ). find (is_version file row.number) w.versions) same ∙ ap (λ (number : ℕ). find (is_version file number) w.versions) counted ∙ held in
    rw (← same, ← counted) (fates_of w old closed row whole found fate is)

pub same_fates : RenewedHasSameFates
same_fates w old closed file number fate has =
    let is : is_version file number has.row ≡ true = found_passes (is_version file number) w.versions has.row has.held in
    fates_at w old closed has.row (all-found (is_version file number) (IsWhole w old.formed.versions) w.versions has.row has.held (versions_whole w old.formed.versions)) file number (grind (arith, nat_tests, is)) (grind (arith, nat_tests, is)) has.held fate has.is
