-- Whether the limit of a kind is reached.
use Rattle.std.specs.Prelude.{ℕ, nat_le, Bool}
use Rattle.ele_model.specs.LimitsOf.{limit_of}
use Rattle.ele_model.specs.declared.refusal.Which.{Which}
use Rattle.ele_model.specs.declared.refusal.Which.TheVariants.{Files, Directories, Names, Versions, Handles, Groups, Members, Marks}
use Rattle.ele_model.specs.Step.{versions_made}
use Rattle.ele_model.specs.World.{World}

-- how many were ever made; open drafts count as versions
abbrev pub made_of : World → Which → ℕ
made_of w Files = w.made.files
made_of w Directories = w.made.directories
made_of w Names = w.made.names
made_of w Versions = versions_made w
made_of w Handles = w.made.handles
made_of w Groups = w.made.groups
made_of w Members = w.made.members
made_of w Marks = w.made.marks

abbrev pub is_full : World → Which → Bool
is_full w which = nat_le (limit_of w.limits which) (made_of w which)
