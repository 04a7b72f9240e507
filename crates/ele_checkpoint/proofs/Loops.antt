-- Writing and reading rows one after the other, as loops do.
use Rattle.std.proofs.Common.{◌≡◌, ℕ, suc, ◌+◌, ◌-◌, ◌<◌, ◌≤◌, List, [], ◌∷◌, ◌++◌, length, get_or, drop, Option, Some, true, false, Result, Ok, Err, refl, sym, ap, ◌∙◌, append_assoc, arith, inl, inr}
use Rattle.std.specs.Prelude.{slice_get}
use Rattle.std.specs.List.{flat_map}
use Rattle.std.proofs.lemmas.Bool.{eq-eqb, ne_eqb, cases_Bool, MatchBool-at_true, MatchBool-at_false}
use Rattle.std.proofs.lemmas.List.{append-nil, length_push, at_drop_more, at_drop_all}
use Rattle.ele_content.specs.declared.cell.Cell.{Cell}
use Rattle.ele_model.specs.declared.rows.VersionRow.{VersionRow}
use Rattle.ele_checkpoint.specs.declared.fault.Flaw.TheVariants as flaws
use Rattle.ele_checkpoint.specs.declared.fault.Mistake.{Mistake}
use Rattle.ele_checkpoint.specs.declared.fault.Stop.{Stop}
use Rattle.ele_checkpoint.specs.declared.fault.Stop.TheVariants as stop
use Rattle.ele_checkpoint.specs.Cells.{cell_text, content_text, is_kept, joined, runs}
use Rattle.ele_checkpoint.specs.PartsRead.{IsPut, slot_at, slots_at, version_at, each_version_at, items_at}
use Rattle.ele_checkpoint.specs.Contents.{version_text, each_version}
use Rattle.ele_checkpoint.specs.Number.{number_text}
use Rattle.ele_checkpoint.specs.Reading.{◌>>=◌, Fails, mistake}
use Rattle.ele_checkpoint.proofs.Cells.{runs_keep, runs_tell}

-- ---- writing

-- one more part was added
pub part_more : {X : Type 0} (f : X → List ℕ) (xs : List X) (i : ℕ) (x : X) (out out' all : List ℕ) → i < length xs → x ≡ get_or xs i x → out' ≡ out ++ f x
    → out ++ flat_map f (drop i xs) ≡ all → out' ++ flat_map f (drop (i + 1) xs) ≡ all
part_more f xs i x out out' all lt is more so_far =
    let front : flat_map f (drop i xs) ≡ f x ++ flat_map f (drop (i + 1) xs) = at_drop_more (flat_map f) xs i x lt ∙ ap (λ y. f y ++ flat_map f (drop (i + 1) xs)) (sym is) in
    ap (λ (t : List ℕ). t ++ flat_map f (drop (i + 1) xs)) more ∙ append_assoc out (f x) (flat_map f (drop (i + 1) xs)) ∙ ap (λ (t : List ℕ). out ++ t) (sym front) ∙ so_far

-- all parts were added
pub part_done : {X : Type 0} (f : X → List ℕ) (xs : List X) (i : ℕ) (out all : List ℕ) → length xs ≤ i → out ++ flat_map f (drop i xs) ≡ all → out ≡ all
part_done f xs i out all le so_far =
    sym (append-nil out) ∙ ap (λ (t : List ℕ). out ++ t) (sym (at_drop_all (flat_map f) xs i le)) ∙ so_far

pub version_more : (before : Option VersionRow) (xs : List VersionRow) (i : ℕ) (x : VersionRow) (out out' all : List ℕ) → i < length xs → x ≡ get_or xs i x → out' ≡ out ++ version_text before x
    → out ++ each_version before (drop i xs) ≡ all → out' ++ each_version (Some x) (drop (i + 1) xs) ≡ all
version_more before xs i x out out' all lt is more so_far =
    let front : each_version before (drop i xs) ≡ version_text before x ++ each_version (Some x) (drop (i + 1) xs) = at_drop_more (each_version before) xs i x lt ∙ ap (λ (y : VersionRow). version_text before y ++ each_version (Some y) (drop (i + 1) xs)) (sym is) in
    ap (λ (t : List ℕ). t ++ each_version (Some x) (drop (i + 1) xs)) more ∙ append_assoc out (version_text before x) (each_version (Some x) (drop (i + 1) xs)) ∙ ap (λ (t : List ℕ). out ++ t) (sym front) ∙ so_far

pub version_done : (before : Option VersionRow) (xs : List VersionRow) (i : ℕ) (out all : List ℕ) → length xs ≤ i → out ++ each_version before (drop i xs) ≡ all → out ≡ all
version_done before xs i out all le so_far =
    sym (append-nil out) ∙ ap (λ (t : List ℕ). out ++ t) (sym (at_drop_all (each_version before) xs i le)) ∙ so_far

-- the runs, with some cells kept before the first
abbrev pub plus : ℕ → ℕ × List ℕ → ℕ × List ℕ
plus kept run = (kept + run.0, run.1)

abbrev pub left : List Cell → List Cell → ℕ → ℕ → List ℕ
left base cells slot kept = joined (plus kept (runs base slot (drop slot cells)))

one_left : (base cells : List Cell) (slot kept : ℕ) (c : Cell) → slot < length cells → c ≡ get_or cells slot c → left base cells slot kept ≡ joined (plus kept (runs base slot (c ∷ drop (slot + 1) cells)))
one_left base cells slot kept c lt is =
    at_drop_more (λ (cs : List Cell). joined (plus kept (runs base slot cs))) cells slot c lt ∙ ap (λ (y : Cell). joined (plus kept (runs base slot (y ∷ drop (slot + 1) cells)))) (sym is)

pub keep_more : (base cells : List Cell) (slot kept : ℕ) (c : Cell) → slot < length cells → c ≡ get_or cells slot c → is_kept (slice_get base slot) c ≡ true → left base cells slot kept ≡ left base cells (slot + 1) (kept + 1)
keep_more base cells slot kept c lt is keeps =
    let next = runs base (slot + 1) (drop (slot + 1) cells) in
    let counts : kept + suc next.0 ≡ kept + 1 + next.0 = omega arith in
    one_left base cells slot kept c lt is ∙ ap (λ (r : ℕ × List ℕ). joined (plus kept r)) (runs_keep base slot c (drop (slot + 1) cells) keeps) ∙ ap (λ (n : ℕ). number_text n ++ next.1) counts

pub tell_more : (base cells : List Cell) (slot kept : ℕ) (c : Cell) → slot < length cells → c ≡ get_or cells slot c → is_kept (slice_get base slot) c ≡ false → left base cells slot kept ≡ number_text kept ++ (cell_text c ++ left base cells (slot + 1) 0)
tell_more base cells slot kept c lt is tells =
    let next = runs base (slot + 1) (drop (slot + 1) cells) in
    let none : kept + 0 ≡ kept = omega arith in
    let same : next.0 ≡ 0 + next.0 = omega arith in
    one_left base cells slot kept c lt is ∙ ap (λ (r : ℕ × List ℕ). joined (plus kept r)) (runs_tell base slot c (drop (slot + 1) cells) tells)
    ∙ ap (λ (n : ℕ). number_text n ++ (cell_text c ++ joined next)) none ∙ ap (λ (n : ℕ). number_text kept ++ (cell_text c ++ (number_text n ++ next.1))) same

pub none_left : (base cells : List Cell) (slot kept : ℕ) → length cells ≤ slot → left base cells slot kept ≡ number_text kept
none_left base cells slot kept le =
    let none : kept + 0 ≡ kept = omega arith in
    at_drop_all (λ (cs : List Cell). joined (plus kept (runs base slot cs))) cells slot le ∙ append-nil (number_text (kept + 0)) ∙ ap number_text none

left_start : (base cells : List Cell) → left base cells 0 0 ≡ joined (runs base 0 cells)
left_start base cells =
    let same : 0 + (runs base 0 cells).0 ≡ (runs base 0 cells).0 = omega arith in
    ap (λ (n : ℕ). number_text n ++ (runs base 0 cells).1) same

pub content_start : (base cells : List Cell) (out out' : List ℕ) → out' ≡ out ++ number_text (length cells) → out' ++ left base cells 0 0 ≡ out ++ content_text base cells
unfolding content_text
content_start base cells out out' is =
    ap (λ (t : List ℕ). t ++ left base cells 0 0) is ∙ append_assoc out (number_text (length cells)) (left base cells 0 0) ∙ ap (λ (t : List ℕ). out ++ (number_text (length cells) ++ t)) (left_start base cells)

pub record Goes (base cells : List Cell) (slot next : ℕ) (out all : List ℕ) : Type 0 where
  pub written : out ++ left base cells slot next ≡ all
  pub few : next ≤ slot

pub put_more : (base cells : List Cell) (slot kept : ℕ) (c : Cell) (out out' all : List ℕ) (next : ℕ) → slot < length cells → c ≡ get_or cells slot c → IsPut (slice_get base slot) c kept out next out'
    → Goes base cells slot kept out all → Goes base cells (slot + 1) next out' all
put_more base cells slot kept c out out' all next lt is put so_far =
    let few = so_far.few in
    elim (cases_Bool (is_kept (slice_get base slot) c)) [
      | inl e ↦
          let p = MatchBool-at_true ((next ≡ kept + 1) × (out' ≡ out)) ((next ≡ 0) × (out' ≡ out ++ (number_text kept ++ cell_text c))) e put in
          record {
            written = ap (λ (n : ℕ). out' ++ left base cells (slot + 1) n) p.0 ∙ ap (λ (t : List ℕ). t ++ left base cells (slot + 1) (kept + 1)) p.1 ∙ ap (λ (t : List ℕ). out ++ t) (sym (keep_more base cells slot kept c lt is e)) ∙ so_far.written;
            few = omega (arith, p.0);
          }
      | inr e ↦
          let p = MatchBool-at_false ((next ≡ kept + 1) × (out' ≡ out)) ((next ≡ 0) × (out' ≡ out ++ (number_text kept ++ cell_text c))) e put in
          let rest = left base cells (slot + 1) 0 in
          record {
            written = ap (λ (n : ℕ). out' ++ left base cells (slot + 1) n) p.0 ∙ ap (λ (t : List ℕ). t ++ rest) p.1 ∙ append_assoc out (number_text kept ++ cell_text c) rest ∙ ap (λ (t : List ℕ). out ++ t) (append_assoc (number_text kept) (cell_text c) rest ∙ sym (tell_more base cells slot kept c lt is e)) ∙ so_far.written;
            few = omega (arith, p.0);
          }
    ]

-- ---- reading

-- what was read before, and what is still read
abbrev pub with_front : {X : Type 0} → List X → Result (List X × List ℕ) Mistake → Result (List X × List ℕ) Mistake
with_front front read = read >>= λ x. Ok (front ++ x.0, x.1)

regroup : {X : Type 0} (front : List X) (n : X) (read : Result (List X × List ℕ) Mistake) → with_front front (read >>= λ x. Ok (n ∷ x.0, x.1)) ≡ with_front (front ++ n ∷ []) read
regroup front n (Ok x) = ap (λ ns. Ok (ns, x.1)) (simp append_assoc)
regroup front n (Err f) = refl

module _ {X : Type 0} (at : List ℕ → Result (X × List ℕ) Mistake) where
  pub goes_on : (front : List X) (count i : ℕ) (bytes : List ℕ) (x : X) (after : List ℕ) (total : Result (List X × List ℕ) Mistake) → i < count → at bytes ≡ Ok (x, after)
      → with_front front (items_at at (count - i) bytes) ≡ total → with_front (front ++ x ∷ []) (items_at at (count - (i + 1)) after) ≡ total
  unfolding items_at
  goes_on front count i bytes x after total lt h so_far =
      let k : count - i ≡ suc (count - (i + 1)) = omega arith in
      let one : with_front front (items_at at (count - i) bytes) ≡ with_front (front ++ x ∷ []) (items_at at (count - (i + 1)) after) = rw (k, h) (regroup front x (items_at at (count - (i + 1)) after)) in
      sym one ∙ so_far

  pub ends : (e : Stop) (front : List X) (count i : ℕ) (bytes : List ℕ) (total : Result (List X × List ℕ) Mistake) → i < count → Fails e (at bytes)
      → with_front front (items_at at (count - i) bytes) ≡ total → Fails e total
  unfolding items_at
  ends stop.Memory front count i bytes total lt h so_far = tt
  ends (stop.At m) front count i bytes total lt h so_far =
      let k : count - i ≡ suc (count - (i + 1)) = omega arith in
      let one : with_front front (items_at at (count - i) bytes) ≡ Err m = rw (k, h) refl in
      sym so_far ∙ one

  pub is_done : (front : List X) (count i : ℕ) (bytes : List ℕ) (total : Result (List X × List ℕ) Mistake) → count ≤ i → with_front front (items_at at (count - i) bytes) ≡ total → total ≡ Ok (front, bytes)
  unfolding items_at
  is_done front count i bytes total le so_far =
      let k : count - i ≡ 0 = omega arith in
      let one : with_front front (items_at at (count - i) bytes) ≡ Ok (front, bytes) = rw k (ap (λ xs. Ok (xs, bytes)) (append-nil front)) in
      sym so_far ∙ one

last_at : {X : Type 0} (xs : List X) (x : X) → slice_get (xs ++ x ∷ []) (length xs) ≡ Some x
last_at [] x = refl
last_at (y ∷ ys) x = last_at ys x

pub last_pushed : {X : Type 0} (xs : List X) (x : X) → slice_get (xs ++ x ∷ []) (length (xs ++ x ∷ []) - 1) ≡ Some x
last_pushed xs x =
    let n : length (xs ++ x ∷ []) - 1 ≡ length xs = omega (arith, length_push xs x) in
    ap (slice_get (xs ++ x ∷ [])) n ∙ last_at xs x

pub versions_go_on : (before : Option VersionRow) (front : List VersionRow) (count i : ℕ) (bytes : List ℕ) (x : VersionRow) (after : List ℕ) (total : Result (List VersionRow × List ℕ) Mistake) → i < count → version_at before bytes ≡ Ok (x, after)
    → with_front front (each_version_at before (count - i) bytes) ≡ total → with_front (front ++ x ∷ []) (each_version_at (Some x) (count - (i + 1)) after) ≡ total
unfolding each_version_at
versions_go_on before front count i bytes x after total lt h so_far =
    let k : count - i ≡ suc (count - (i + 1)) = omega arith in
    let one : with_front front (each_version_at before (count - i) bytes) ≡ with_front (front ++ x ∷ []) (each_version_at (Some x) (count - (i + 1)) after) = rw (k, h) (regroup front x (each_version_at (Some x) (count - (i + 1)) after)) in
    sym one ∙ so_far

pub versions_end : (before : Option VersionRow) (e : Stop) (front : List VersionRow) (count i : ℕ) (bytes : List ℕ) (total : Result (List VersionRow × List ℕ) Mistake) → i < count → Fails e (version_at before bytes)
    → with_front front (each_version_at before (count - i) bytes) ≡ total → Fails e total
unfolding each_version_at
versions_end before stop.Memory front count i bytes total lt h so_far = tt
versions_end before (stop.At m) front count i bytes total lt h so_far =
    let k : count - i ≡ suc (count - (i + 1)) = omega arith in
    let one : with_front front (each_version_at before (count - i) bytes) ≡ Err m = rw (k, h) refl in
    sym so_far ∙ one

pub versions_done : (before : Option VersionRow) (front : List VersionRow) (count i : ℕ) (bytes : List ℕ) (total : Result (List VersionRow × List ℕ) Mistake) → count ≤ i → with_front front (each_version_at before (count - i) bytes) ≡ total → total ≡ Ok (front, bytes)
unfolding each_version_at
versions_done before front count i bytes total le so_far =
    let k : count - i ≡ 0 = omega arith in
    let one : with_front front (each_version_at before (count - i) bytes) ≡ Ok (front, bytes) = rw k (ap (λ xs. Ok (xs, bytes)) (append-nil front)) in
    sym so_far ∙ one

module _ (base : List Cell) where
  pub slots_go_on : (front : List Cell) (count i kept : ℕ) (bytes : List ℕ) (c : Cell) (next : ℕ) (after : List ℕ) (total : Result (List Cell × List ℕ) Mistake) → i < count → slot_at (slice_get base i) kept bytes ≡ Ok ((c, next), after)
      → with_front front (slots_at base (count - i) i kept bytes) ≡ total → with_front (front ++ c ∷ []) (slots_at base (count - (i + 1)) (i + 1) next after) ≡ total
  unfolding slots_at
  slots_go_on front count i kept bytes c next after total lt h so_far =
      let k : count - i ≡ suc (count - (i + 1)) = omega arith in
      let one : with_front front (slots_at base (count - i) i kept bytes) ≡ with_front (front ++ c ∷ []) (slots_at base (count - (i + 1)) (i + 1) next after) = rw (k, h) (regroup front c (slots_at base (count - (i + 1)) (i + 1) next after)) in
      sym one ∙ so_far

  pub slots_end : (e : Stop) (front : List Cell) (count i kept : ℕ) (bytes : List ℕ) (total : Result (List Cell × List ℕ) Mistake) → i < count → Fails e (slot_at (slice_get base i) kept bytes)
      → with_front front (slots_at base (count - i) i kept bytes) ≡ total → Fails e total
  unfolding slots_at
  slots_end stop.Memory front count i kept bytes total lt h so_far = tt
  slots_end (stop.At m) front count i kept bytes total lt h so_far =
      let k : count - i ≡ suc (count - (i + 1)) = omega arith in
      let one : with_front front (slots_at base (count - i) i kept bytes) ≡ Err m = rw (k, h) refl in
      sym so_far ∙ one

  pub slots_done : (front : List Cell) (count i kept : ℕ) (bytes : List ℕ) (total : Result (List Cell × List ℕ) Mistake) → count ≤ i → kept ≡ 0 → with_front front (slots_at base (count - i) i kept bytes) ≡ total → total ≡ Ok (front, bytes)
  unfolding slots_at
  slots_done front count i kept bytes total le none so_far =
      let k : count - i ≡ 0 = omega arith in
      let one : with_front front (slots_at base (count - i) i kept bytes) ≡ Ok (front, bytes) = rw (k, eq-eqb kept 0 none) (ap (λ xs. Ok (xs, bytes)) (append-nil front)) in
      sym so_far ∙ one

  pub slots_left : (front : List Cell) (count i kept : ℕ) (bytes : List ℕ) (total : Result (List Cell × List ℕ) Mistake) → count ≤ i → (kept ≡ 0 → ⊥) → with_front front (slots_at base (count - i) i kept bytes) ≡ total → total ≡ Err (mistake (length bytes) flaws.Kept)
  unfolding slots_at
  slots_left front count i kept bytes total le some so_far =
      let k : count - i ≡ 0 = omega arith in
      let one : with_front front (slots_at base (count - i) i kept bytes) ≡ Err (mistake (length bytes) flaws.Kept) = rw (k, ne_eqb kept 0 some) refl in
      sym so_far ∙ one
