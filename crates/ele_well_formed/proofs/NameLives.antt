-- The lives of a name, one after another.
use Rattle.ele_well_formed.proofs.Words.{AllByRecursion, AllLater, AreApart, Bool, IfSome, IsDeadBy, IsLife, IsMisplaced, List, NameRow, None, Some, [], all-both, all-weaker, arith, bytes_eq-Decides, false, is_named, last_passing, nat_tests, refl, slice_get, suc, sym, take, true, zero, ℕ, ◌+◌, ◌∙◌, ◌<◌, ◌∷◌, ◌≡◌, ◌≤◌}
use Rattle.std.proofs.lemmas.Option.{IfSome_then}
use Rattle.ele_well_formed.proofs.Words.{FileRow, IsNameRow}
use Rattle.ele_lists.proofs.Lasts.{last_has}
use Rattle.ele_well_formed.proofs.Rows.{IsAt, later_more, there}

-- no row passes
last_none : {X : Type 0} (p : X → Bool) (xs : List X) → last_passing p xs ≡ None → AllByRecursion (λ x. p x ≡ false) xs
last_none p [] none = tt
last_none p (x ∷ xs) none = grind (arith, nat_tests, last_none p xs)

-- the last that passes is at a place
last_place : {X : Type 0} (p : X → Bool) (xs : List X) (at : ℕ) (y : X) → last_passing p (take at xs) ≡ Some y → (place : ℕ) × (place < at) × (slice_get xs place ≡ Some y)
last_place p [] zero y last = absurd cc
last_place p [] (suc at) y last = absurd cc
last_place p (x ∷ xs) zero y last = absurd cc
last_place p (x ∷ xs) (suc at) y last = elim (last_passing p (take at xs)) as (λ o. last_passing p (take at xs) ≡ o → (place : ℕ) × (place < suc at) × (slice_get (x ∷ xs) place ≡ Some y)) [
  | Some z ↦ λ e. let rest = last_place p xs at y (rw e (rw e at last)) in (suc rest.0, omega (arith, rest.1), rest.2)
  | None ↦ λ e. (0, omega arith, grind (arith, nat_tests))
] refl

-- the row and the other have one directory and name
named : (x y : NameRow) → is_named x.directory x.name y ≡ true → (y.directory ≡ x.directory) × (y.name ≡ x.name)
named x y h = grind (arith, nat_tests, bytes_eq-Decides)

-- a row that is apart from the last one of its name, which was dead by the birth of the next, is apart from the next
apart_on : (z y x : NameRow) → AreApart z y → IsLife y → IsDeadBy y x.birth → is_named x.directory x.name y ≡ true → AreApart z x
apart_on z y x apart life dead is d n =
    let same = named x y is in
    let a = apart (d ∙ sym same.0) (n ∙ sym same.1) in
    let order : y.birth ≤ dead.0 = rw dead.1 at life in
    (a.0, a.1, omega (arith, a.2, dead.2, order))

-- without an earlier row of its name a row is apart from all
apart_first : (rows : List NameRow) (x : NameRow) → AllByRecursion (λ z. is_named x.directory x.name z ≡ false) rows → AllByRecursion (λ z. AreApart z x) rows
apart_first rows x none = all-weaker (λ z. is_named x.directory x.name z ≡ false) (λ z. AreApart z x) rows (λ z no d n. absurd (grind (arith, nat_tests, bytes_eq-Decides))) none

-- and with one, if the last was dead by its birth
apart_next : (rows : List NameRow) (y x : NameRow) → AllByRecursion IsLife rows → AllLater AreApart rows → last_passing (is_named x.directory x.name) rows ≡ Some y → IsDeadBy y x.birth → AllByRecursion (λ z. AreApart z x) rows
apart_next [] y x lives later last dead = tt
apart_next (z ∷ zs) y x lives later last dead = elim (last_passing (is_named x.directory x.name) zs) as (λ o. last_passing (is_named x.directory x.name) zs ≡ o → AllByRecursion (λ z. AreApart z x) (z ∷ zs)) [
  | Some w ↦ λ e.
      let last_is : last_passing (is_named x.directory x.name) zs ≡ Some y = rw e (rw e at last) in
      let h = last_has (is_named x.directory x.name) (λ y. AreApart z y × IsLife y) zs y (all-both (AreApart z) IsLife zs later.0 lives.1) last_is in
      (apart_on z y x h.0.0 h.0.1 dead h.1, apart_next zs y x lives.1 later.1 last_is dead)
  | None ↦ λ e.
      let is : z ≡ y = grind (arith, nat_tests) in
      ((λ d n. rw is dead), apart_first zs x (last_none (is_named x.directory x.name) zs e))
] refl

-- the newest row of the name, if there is one, was dead by the moment
abbrev pub IsFree : List NameRow → NameRow → Type 0
IsFree rows x = IfSome (last_passing (is_named x.directory x.name) rows) (λ y. IsDeadBy y x.birth)

module _ (rows : List NameRow) (at : ℕ) (x : NameRow) (here : IsAt rows at x) where
  pub name_more : AllByRecursion IsLife (take at rows) → AllLater AreApart (take at rows) → IsFree (take at rows) x → AllLater AreApart (take (at + 1) rows)
  name_more lives later free = later_more rows at x here AreApart later (elim (last_passing (is_named x.directory x.name) (take at rows)) as (λ o. last_passing (is_named x.directory x.name) (take at rows) ≡ o → AllByRecursion (λ z. AreApart z x) (take at rows)) [
    | Some y ↦ λ e. apart_next (take at rows) y x lives later e (rw e at free)
    | None ↦ λ e. apart_first (take at rows) x (last_none (is_named x.directory x.name) (take at rows) e)
  ] refl)

  pub name_wrong : (IsFree (take at rows) x → ⊥) → IsMisplaced AreApart rows at
  name_wrong wrong = elim (last_passing (is_named x.directory x.name) (take at rows)) as (λ o. last_passing (is_named x.directory x.name) (take at rows) ≡ o → IsMisplaced AreApart rows at) [
    | Some y ↦ λ e.
        let place = last_place (is_named x.directory x.name) rows at y e in
        let same = named x y (last_has (is_named x.directory x.name) (λ z. Unit {0}) (take at rows) y (all_unit (take at rows)) e).1 in
        record { place = place.0; before = place.1; earlier = y; row = x; found = place.2; there = there rows at x here; wrong = λ apart. wrong (rw e (apart same.0 same.1)) }
    | None ↦ λ e. absurd (wrong (rw e tt))
  ] refl where
    all_unit : (xs : List NameRow) → AllByRecursion (λ z. Unit {0}) xs
    all_unit [] = tt
    all_unit (y ∷ ys) = (tt, all_unit ys)

-- a name that fits wasn't dead before its birth
pub life_of : (files : List FileRow) (now : ℕ) (row : NameRow) → IsNameRow files now row → IsLife row
life_of files now row fits = IfSome_then row.death fits.dead (λ death h. h.0)
