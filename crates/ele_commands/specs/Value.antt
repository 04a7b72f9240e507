-- The values of the words after a command.
use Rattle.std.specs.Prelude.{ℕ, List, [], ◌∷◌, Option, Some, None}
use Rattle.ele_policy.specs.declared.policy.Policy.{Policy as AnyPolicy}
use Rattle.ele_path.specs.declared.path_at.PathAt.{PathAt}
use Rattle.ele_path.specs.declared.tagged.TaggedPath.{TaggedPath}
use Rattle.ele_model.specs.declared.event.Source.{Source as AnySource}

pub data Value : Type 0 where
  Number : ℕ → Value
  Handle : ℕ → Value
  Version : ℕ → Value
  Moment : ℕ → Value
  End : ℕ → Value
  Name : List ℕ → Value
  Path : List (List ℕ) → Value
  Tagged : TaggedPath → Value
  Timed : PathAt → Value
  Source : AnySource → Value
  Bytes : List ℕ → Value
  Policy : AnyPolicy → Value

-- the values for the end of a mark: none if it has no end
abbrev pub end_values : Option ℕ → List Value
end_values None = []
end_values (Some end) = End end ∷ []
