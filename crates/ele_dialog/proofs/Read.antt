-- A line that is read byte after byte.
use Rattle.ele_dialog.proofs.Basics.{Consumes, Consumes-nil, List, Option, [], ℕ, ◌≡◌}
use Rattle.ele_runs.specs.Lines.{IsUnbroken}

-- the bytes of a line so far
pub record Reading (input rest : Option (List ℕ)) (line : List ℕ) : Type 0 where
  pub whole : IsUnbroken line
  pub taken : Consumes input rest line

pub reading_none : (input : Option (List ℕ)) (line : List ℕ) → line ≡ [] → Reading input input line
reading_none input line is = rw is (record { whole = tt; taken = Consumes-nil input })
