-- Rows of rising keys are parted before a key, and after it.
use Rattle.ele_lists.proofs.Basics.{AllLater, List, Rises, arith, leb, ltb, nat_tests, ℕ, ◌<◌}
use Rattle.ele_lists.proofs.Alls.{later-weaker}
use Rattle.ele_rows.proofs.Basics.{Sinks}

-- rows of rising keys are parted before a key, and after it
module _ {X : Type 0} (key : X → ℕ) (this : ℕ) (xs : List X) (rises : Rises key xs) where
  pub before_sinks : AllLater (Sinks (λ x. ltb (key x) this)) xs
  before_sinks = later-weaker (λ x y. key x < key y) (Sinks (λ x. ltb (key x) this)) xs (λ x y lt h. grind (arith, nat_tests, lt, h)) rises

  pub behind_sinks : AllLater (Sinks (λ x. leb (key x) this)) xs
  behind_sinks = later-weaker (λ x y. key x < key y) (Sinks (λ x. leb (key x) this)) xs (λ x y lt h. grind (arith, nat_tests, lt, h)) rises
