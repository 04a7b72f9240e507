-- The births of rows after a change of the rows.
use Rattle.ele_names.proofs.Words.{◌≡◌, ℕ, Bool, true, false, cond, ◌&&◌, Some, None, Option, refl, sym, ap, ◌∙◌, arith, at_itself, exact_unsigned, is_at, is_entry, is_eq, is_placed, nat_cmp, option_map_or, ordering_then, Ordering, AreBelow, AreBirthsOf, BirthIndex, has_birth}

both : (x y : Ordering) → is_eq (ordering_then x y) ≡ (is_eq y && is_eq x)
both x y = grind arith

module _ {X : Type 0} {name birth : X → ℕ} {at : ℕ → Option X} (n : ℕ) where
  -- what a change at one serial number leaves, if there it is right
  step : (old new : BirthIndex) (to : ℕ → Option X) (b : Bool) (v : X) → AreBirthsOf name birth at old → (AreBelow old → AreBelow new)
      → ((q r s : ℕ) → has_birth new q r s ≡ cond (is_entry nat_cmp (name v) (birth v) n q r s) b (has_birth old q r s))
      → ((s : ℕ) → is_at (nat_cmp n) s ≡ false → to s ≡ at s)
      → ((q r : ℕ) → cond (is_placed nat_cmp (name v) (birth v) q r) b (has_birth old q r n) ≡ option_map_or (λ x. is_placed nat_cmp (name x) (birth x) q r) (to n) false)
      → AreBirthsOf name birth to new
  step old new to b v was below changed elsewhere here = record {
    each = λ q r s. changed q r s ∙ rw (both (ordering_then (nat_cmp (name v) q) (nat_cmp (birth v) r)) (nat_cmp n s)) (cases q r s (is_at (nat_cmp n) s) refl);
    below = below was.below;
  } where
    cases : (q r s : ℕ) (t : Bool) → is_at (nat_cmp n) s ≡ t → cond (t && is_placed nat_cmp (name v) (birth v) q r) b (has_birth old q r s) ≡ option_map_or (λ x. is_placed nat_cmp (name x) (birth x) q r) (to s) false
    cases q r s true e = let same : n ≡ s = exact_unsigned n s (grind arith) in rw (← same) (here q r)
    cases q r s false e = was.each q r s ∙ ap (λ o. option_map_or (λ x. is_placed nat_cmp (name x) (birth x) q r) o false) (sym (elsewhere s e))

  -- a new row
  pub births_insert : (old new : BirthIndex) (v : X) → AreBirthsOf name birth at old → at n ≡ None → (AreBelow old → AreBelow new)
      → ((q r s : ℕ) → has_birth new q r s ≡ cond (is_entry nat_cmp (name v) (birth v) n q r s) true (has_birth old q r s))
      → AreBirthsOf name birth (λ s. cond (is_at (nat_cmp n) s) (Some v) (at s)) new
  births_insert old new v was fresh below changed =
      step old new (λ s. cond (is_at (nat_cmp n) s) (Some v) (at s)) true v was below changed (λ s e. rw e refl) (λ q r. grind (arith, at_itself n, was.each q r n))

  -- a row taken out
  pub births_remove : (old new : BirthIndex) (v : X) → AreBirthsOf name birth at old → at n ≡ Some v → (AreBelow old → AreBelow new)
      → ((q r s : ℕ) → has_birth new q r s ≡ cond (is_entry nat_cmp (name v) (birth v) n q r s) false (has_birth old q r s))
      → AreBirthsOf name birth (λ s. cond (is_at (nat_cmp n) s) None (at s)) new
  births_remove old new v was there below changed =
      step old new (λ s. cond (is_at (nat_cmp n) s) None (at s)) false v was below changed (λ s e. rw e refl) (λ q r. grind (arith, at_itself n, was.each q r n))

-- rows with the same places
pub births_same : {X : Type 0} {name birth : X → ℕ} (at to : ℕ → Option X) (old new : BirthIndex) → AreBirthsOf name birth at old → (AreBelow old → AreBelow new)
    → ((q r s : ℕ) → has_birth new q r s ≡ has_birth old q r s)
    → ((q r s : ℕ) → option_map_or (λ x. is_placed nat_cmp (name x) (birth x) q r) (at s) false ≡ option_map_or (λ x. is_placed nat_cmp (name x) (birth x) q r) (to s) false)
    → AreBirthsOf name birth to new
births_same at to old new was below same values = record { each = λ q r s. same q r s ∙ was.each q r s ∙ values q r s; below = below was.below }

-- a row put in and taken out again
pub births_undo : {X : Type 0} {name birth : X → ℕ} {at : ℕ → Option X} (n : ℕ) (old mid new : BirthIndex) (v : X) → AreBirthsOf name birth at old → at n ≡ None
    → (AreBelow old → AreBelow mid) → (AreBelow mid → AreBelow new)
    → ((q r s : ℕ) → has_birth mid q r s ≡ cond (is_entry nat_cmp (name v) (birth v) n q r s) true (has_birth old q r s))
    → ((q r s : ℕ) → has_birth new q r s ≡ cond (is_entry nat_cmp (name v) (birth v) n q r s) false (has_birth mid q r s))
    → AreBirthsOf name birth at new
births_undo {at = at} n old mid new v was fresh then back put taken =
    births_same (λ s. cond (is_at (nat_cmp n) s) None (cond (is_at (nat_cmp n) s) (Some v) (at s))) at new new
    (births_remove n mid new v (births_insert n old mid v was fresh then put) (rw (at_itself n) refl) back taken) (λ below. below) (λ q r s. refl) (λ q r s. grind (arith, exact_unsigned n s))

-- a row changed that keeps its place
pub births_change : {X : Type 0} {name birth : X → ℕ} {at : ℕ → Option X} (to : ℕ → Option X) (n : ℕ) (v w : X) (birth_index : BirthIndex) → AreBirthsOf name birth at birth_index → at n ≡ Some v
    → ((q r : ℕ) → is_placed nat_cmp (name w) (birth w) q r ≡ is_placed nat_cmp (name v) (birth v) q r)
    → ((s : ℕ) → to s ≡ cond (is_at (nat_cmp n) s) (Some w) (at s))
    → AreBirthsOf name birth to birth_index
births_change {at = at} to n v w birth_index was there place changed = births_same at to birth_index birth_index was (λ below. below) (λ q r s. refl) (λ q r s. grind (arith, exact_unsigned n s, changed s, place q r))
