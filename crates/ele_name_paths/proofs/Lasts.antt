-- The last element that passes a test, element after element.
use Rattle.ele_name_paths.proofs.Basics.{List, ◌≡◌, ◌≤◌, ◌<◌, ◌+◌, ◌∙◌, ℕ, Bool, Option, Some, None, ap, refl, sym, option_or, cond, drop, get_or, length}
use Rattle.ele_name_paths.proofs.Gathers.{left_more, left_none}
use Rattle.ele_lists.specs.Last.{last_passing}

pub or_none : {X : Type 0} (a : Option X) → option_or a None ≡ a
or_none None = refl
or_none (Some x) = refl

pub or_assoc : {X : Type 0} (a b c : Option X) → option_or (option_or a b) c ≡ option_or a (option_or b c)
or_assoc None b c = refl
or_assoc (Some x) b c = refl

-- what was found so far is the last, if no other passes after it
abbrev pub IsLastSoFar : {X : Type 0} → (X → Bool) → List X → List X → Option X → Type 0
IsLastSoFar p all left last = option_or (last_passing p left) last ≡ last_passing p all

pub last_begin : {X : Type 0} (p : X → Bool) (xs : List X) → IsLastSoFar p xs xs None
last_begin p xs = or_none (last_passing p xs)

pub last_more : {X : Type 0} (p : X → Bool) (xs : List X) (i : ℕ) (x : X) (before after : Option X) → i < length xs → x ≡ get_or xs i x → after ≡ option_or (cond (p x) (Some x) None) before
    → IsLastSoFar p xs (drop i xs) before → IsLastSoFar p xs (drop (i + 1) xs) after
last_more {X} p xs i x before after lt is after_is so =
    rw after_is (sym (or_assoc (last_passing p (drop (i + 1) xs)) (cond (p x) (Some x) None) before) ∙ (ap (λ (left : List X). option_or (last_passing p left) before) (sym (left_more xs i x lt is)) ∙ so))

pub last_done : {X : Type 0} (p : X → Bool) (xs : List X) (i : ℕ) (last : Option X) → length xs ≤ i → IsLastSoFar p xs (drop i xs) last → last ≡ last_passing p xs
last_done {X} p xs i last le so = sym (ap (λ (left : List X). option_or (last_passing p left) last) (left_none xs i le)) ∙ so
