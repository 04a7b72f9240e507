-- The seats of a new object, one after another. No public clause cites this module.
use Rattle.std.specs.Prelude.{◌≡◌, ℕ, List, [], ◌∷◌, true, false}
use Rattle.ele_shared_history.specs.Knowledge.{Knowledge, Object}
use Rattle.ele_shared_history.specs.Running.{has}
use Rattle.ele_shared_history.specs.Seats.{AreApart, AreNew, IsNew}

-- the first seat: number 0, an empty view, no calls
pub record IsFirst (object : Object) (k : Knowledge) : Type 0 where
  pub of : k.object ≡ object
  pub numbers : k.numbers ≡ 0 ∷ []
  pub view : k.view ≡ []
  pub own : k.own ≡ []
  pub known : k.known ≡ 0 ∷ []

-- one more new seat, with a number apart from these, which knows all of them
pub record IsNext (object : Object) (ns : List ℕ) (k : Knowledge) : Type 0 where
  pub number : ℕ
  pub new : IsNew object number k
  pub other : has ns number ≡ false
  pub itself : has k.known number ≡ true
  pub others : (n : ℕ) → has ns n ≡ true → has k.known n ≡ true

-- new seats, followed by one more
abbrev pub AreDealt : Object → List Knowledge → Knowledge → Type 0
AreDealt object ks last = (ns : List ℕ) × AreNew object ns ks × AreApart ns × IsNext object ns last
