-- Which of some weighed policies is the best.
use Rattle.std.specs.Prelude.{◌≡◌, ℕ, ◌==◌, nat_lt, Bool, true, false, ◌&&◌, ◌||◌, List, length, slice_get, take, Option, Some, None}
use Rattle.std.specs.List.{AllByRecursion}
use Rattle.ele_suggest.specs.declared.weighed.Weighed.{Weighed}

-- the first keeps fewer bytes, or as many bytes and fewer versions
abbrev pub costs_less : Weighed → Weighed → Bool
costs_less a b = nat_lt a.bytes b.bytes || (a.bytes == b.bytes && nat_lt (length a.numbers.items) (length b.numbers.items))

-- the one at the place keeps what is asked, no other that does so costs less, and each before it that does so costs more
pub record IsBest (weighed : List Weighed) (place : ℕ) : Type 0 where
  pub best : Weighed
  pub there : slice_get weighed place ≡ Some best
  pub keeps : best.keeps ≡ true
  pub least : AllByRecursion (λ other. other.keeps ≡ true → costs_less other best ≡ false) weighed
  pub first : AllByRecursion (λ other. other.keeps ≡ true → costs_less best other ≡ true) (take place weighed)

-- the place of the best of those that keep what is asked; none only if none does
abbrev pub IsBestOf : List Weighed → Option ℕ → Type 0
IsBestOf weighed None = AllByRecursion (λ other. other.keeps ≡ false) weighed
IsBestOf weighed (Some place) = IsBest weighed place
