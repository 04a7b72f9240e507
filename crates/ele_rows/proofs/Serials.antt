-- Values in order of their serial numbers.
use Rattle.ele_lists.proofs.Basics.{AllByRecursion, AllLater, Bool, Equal, Greater, Less, List, None, Some, [], ap, arith, exact_unsigned, false, inl, inr, insert_entry, is_at, is_eq, keys_of, last_passing, nat_cmp, nat_cmp_total, nat_tests, refl, remove_entry, tied_itself, true, values_of, ℕ, ◌++◌, ◌<◌, ◌∷◌, ◌≡◌, ◌≤◌, ◌⊎◌}
use Rattle.ele_rows.proofs.Basics.{value_at}
use Rattle.std.specs.List.Sorted.{IsStrictlySortedBy}

pub at_itself : (n : ℕ) → is_at (nat_cmp n) n ≡ true
at_itself n = ap is_eq (tied_itself nat_cmp_total n)

pub not_true : (b : Bool) → (b ≡ true → ⊥) → b ≡ false
not_true b h = grind arith

module _ {X : Type 0} where
  -- each serial number is below those after it
  abbrev pub IsRising : List (ℕ × X) → Type 0
  IsRising es = IsStrictlySortedBy nat_cmp (keys_of es)

  -- what all serial numbers have, that of a value has
  pub found_key : (P : ℕ → Type 0) (es : List (ℕ × X)) (s : ℕ) (v : X) → AllByRecursion P (keys_of es) → value_at es s ≡ Some v → P s
  found_key P [] s v all h = absurd cc
  found_key P (e ∷ es) s v all h = grind (arith, exact_unsigned, found_key P es s v)

  pub after_head : (e : ℕ × X) (es : List (ℕ × X)) (s : ℕ) (v : X) → IsRising (e ∷ es) → value_at es s ≡ Some v → (e.0 < s) × (value_at (e ∷ es) s ≡ Some v)
  unfolding IsStrictlySortedBy
  after_head e es s v up h = grind (arith, nat_tests, found_key (λ k. nat_cmp e.0 k ≡ Less) es s v up.0 h)

  pub rest_rises : (e : ℕ × X) (es : List (ℕ × X)) → IsRising (e ∷ es) → IsRising es
  unfolding IsStrictlySortedBy
  rest_rises e es up = up.1

  -- the value is the first, or one after it
  pub head_or_later : (e : ℕ × X) (es : List (ℕ × X)) (s : ℕ) (v : X) → IsRising (e ∷ es) → value_at (e ∷ es) s ≡ Some v → ((s ≡ e.0) × (e.1 ≡ v)) ⊎ ((e.0 < s) × (value_at es s ≡ Some v))
  head_or_later e es s v up h = grind (arith, exact_unsigned, after_head e es s v)

  found_value : (P : X → Type 0) (es : List (ℕ × X)) (s : ℕ) (v : X) → AllByRecursion P (values_of es) → value_at es s ≡ Some v → P v
  found_value P [] s v all h = absurd cc
  found_value P (e ∷ es) s v all h = grind (arith, found_value P es s v)

  -- what each value is to each later one, by serial numbers
  pub later_at : (R : X → X → Type 0) (es : List (ℕ × X)) (s t : ℕ) (v w : X) → IsRising es → AllLater R (values_of es) → value_at es s ≡ Some v → value_at es t ≡ Some w → s < t → R v w
  later_at R [] s t v w up later a b h = absurd cc
  later_at R (e ∷ es) s t v w up later a b h = grind (arith, head_or_later e es s v, head_or_later e es t w, found_value (R e.1) es t w, later_at R es s t v w, rest_rises e es)

  module _ (p : X → Bool) where
    pub none_last : (es : List (ℕ × X)) → IsRising es → ((t : ℕ) (w : X) → value_at es t ≡ Some w → p w ≡ false) → last_passing p (values_of es) ≡ None
    none_last [] up none = refl
    none_last (e ∷ es) up none = grind (arith, none e.0 e.1, at_itself e.0, none_last es (rest_rises e es up) (λ t w h. none t w (after_head e es t w up h).1))

    -- the value that passes with the greatest serial number is the last
    pub is_last : (es : List (ℕ × X)) (s : ℕ) (v : X) → IsRising es → value_at es s ≡ Some v → p v ≡ true → ((t : ℕ) (w : X) → value_at es t ≡ Some w → p w ≡ true → t ≤ s) → last_passing p (values_of es) ≡ Some v
    is_last [] s v up there passes last = absurd cc
    is_last (e ∷ es) s v up there passes last = elim (head_or_later e es s v up there) as (λ _. last_passing p (values_of (e ∷ es)) ≡ Some v) [
      | inl is ↦ grind (arith, none_last es (rest_rises e es up) (λ t w h. grind (arith, last t w, after_head e es t w up h)))
      | inr behind ↦ grind (arith, is_last es s v (rest_rises e es up) behind.1 passes (λ t w h. last t w (after_head e es t w up h).1))
    ]

  -- the values before and after that of a serial number, and what a change of it or its removal leaves
  pub record IsSplitAt (es : List (ℕ × X)) (n : ℕ) (v : X) : Type 0 where
    pub before : List X
    pub behind : List X
    pub values : values_of es ≡ before ++ v ∷ behind
    pub set : (w : X) → values_of (insert_entry nat_cmp es n w) ≡ before ++ w ∷ behind
    pub set_keys : (w : X) → keys_of (insert_entry nat_cmp es n w) ≡ keys_of es
    pub without : values_of (remove_entry (is_at (nat_cmp n)) es) ≡ before ++ behind

  pub split_at : (es : List (ℕ × X)) (n : ℕ) (v : X) → IsRising es → value_at es n ≡ Some v → IsSplitAt es n v
  split_at [] n v up there = absurd cc
  split_at (e ∷ es) n v up there = elim (nat_cmp n e.0) as (λ o. nat_cmp n e.0 ≡ o → IsSplitAt (e ∷ es) n v) [
    | Less ↦ λ f. absurd (grind (arith, nat_tests, after_head e es n v))
    | Equal ↦ λ f. record { before = []; behind = values_of es; values = grind arith; set = λ w. rw f refl; set_keys = λ w. rw f refl; without = rw f refl }
    | Greater ↦ λ f.
        let c = split_at es n v (rest_rises e es up) (rw f at there) in
        record { before = e.1 ∷ c.before; behind = c.behind; values = grind arith; set = λ w. grind (arith, c.set w); set_keys = λ w. grind (arith, c.set_keys w); without = grind (arith, c.without) }
  ] refl

  pub all_keys_without : (P : ℕ → Type 0) (test : ℕ → Bool) (es : List (ℕ × X)) → AllByRecursion P (keys_of es) → AllByRecursion P (keys_of (remove_entry test es))
  all_keys_without P test [] all = tt
  all_keys_without P test (e ∷ es) all = grind (arith, all_keys_without P test es)

  -- a serial number above all
  pub pushed : (n : ℕ) (v : X) (es : List (ℕ × X)) → AllByRecursion (λ k. k < n) (keys_of es) → insert_entry nat_cmp es n v ≡ es ++ (n, v) ∷ []
  pushed n v [] below = refl
  pushed n v (e ∷ es) below = grind (arith, nat_tests, pushed n v es)

  pub not_yet : (n : ℕ) (es : List (ℕ × X)) → AllByRecursion (λ k. k < n) (keys_of es) → value_at es n ≡ None
  not_yet n [] below = refl
  not_yet n (e ∷ es) below = grind (arith, nat_tests, not_yet n es)

  -- what holds of the value at each serial number holds of all values
  pub all_from_each : (P : X → Type 0) (es : List (ℕ × X)) → IsRising es → ((s : ℕ) (v : X) → value_at es s ≡ Some v → P v) → AllByRecursion P (values_of es)
  all_from_each P [] up each = tt
  all_from_each P (e ∷ es) up each =
      (each e.0 e.1 (rw (at_itself e.0) refl), all_from_each P es (rest_rises e es up) (λ s v h. each s v (after_head e es s v up h).1))
