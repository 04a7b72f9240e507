-- New seats, and seats that are split off and joined.
use Rattle.std.specs.Prelude.{◌≡◌, ℕ, List, [], ◌∷◌, ◌++◌, true, false}
use Rattle.ele_shared_history.specs.Knowledge.{Knowledge, Object}
use Rattle.ele_shared_history.specs.Running.{has, own_of, StartsWith}

-- a new seat with this number
pub record IsNew (object : Object) (number : ℕ) (k : Knowledge) : Type 0 where
  pub of : k.object ≡ object
  pub numbers : k.numbers ≡ number ∷ []
  pub view : k.view ≡ []
  pub own : k.own ≡ []

-- new seats with these numbers
abbrev pub AreNew : Object → List ℕ → List Knowledge → Type 0
AreNew object [] [] = Unit {0}
AreNew object (n ∷ ns) (k ∷ ks) = IsNew object n k × AreNew object ns ks
AreNew object [] (k ∷ ks) = ⊥
AreNew object (n ∷ ns) [] = ⊥

-- the list has each number once
abbrev pub AreApart : List ℕ → Type 0
AreApart [] = Unit {0}
AreApart (n ∷ ns) = (has ns n ≡ false) × AreApart ns

-- new seats, each with a number of its own
abbrev pub AreAllNew : Object → List Knowledge → Type 0
AreAllNew object ks = (ns : List ℕ) × AreNew object ns ks × AreApart ns

-- a seat with a number of its own and no calls, which has seen what the old one has
pub record SplitOff (old new : Knowledge) : Type 0 where
  pub number : ℕ
  pub numbers : new.numbers ≡ number ∷ []
  pub other : has old.known number ≡ false
  pub known : new.known ≡ number ∷ old.known
  pub object : new.object ≡ old.object
  pub view : new.view ≡ old.view
  pub own : new.own ≡ []

-- a seat has seen what both have, and has the numbers of both, which are apart; it has the same calls under each number
pub record Joined (first second both : Knowledge) : Type 0 where
  pub object : both.object ≡ first.object
  pub numbers : both.numbers ≡ first.numbers ++ second.numbers
  pub known : both.known ≡ first.known ++ second.known
  pub view_first : StartsWith both.view first.view
  pub view_second : StartsWith both.view second.view
  pub own_first : own_of first.numbers both.view ≡ first.own
  pub own_second : own_of second.numbers both.view ≡ second.own
  pub apart : (n : ℕ) → has first.numbers n ≡ true → has second.numbers n ≡ false
  pub own : own_of both.numbers both.view ≡ both.own
