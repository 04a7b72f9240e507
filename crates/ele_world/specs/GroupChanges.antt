-- After a change of one group every other group is as it was, and nothing else has changed except the counts.
use Rattle.std.specs.Prelude.{◌≡◌, ℕ, Bool, false, List, Option, Some}
use Rattle.std.specs.Str.{bytes_eq}
use Rattle.ele_model.specs.declared.rows.GroupRow.{GroupRow}
use Rattle.ele_model.specs.declared.rows.MarkRow.{MarkRow}
use Rattle.ele_model.specs.GroupRows.{group_named, is_member, mark_at}
use Rattle.ele_model.specs.World.{World}

pub record ChangesGroup (before : World) (name : List ℕ) (is : Option GroupRow → Type 0) (after : World) : Type 0 where
  pub named : is (group_named after.groups name)
  pub others : (other : List ℕ) → bytes_eq name other ≡ false → group_named after.groups other ≡ group_named before.groups other
  pub rest : after ≡ record before { groups = after.groups; made = after.made }

-- the group had a row before; it has exactly these files, and at each moment this mark, if any
pub record IsGroupOf (was : Option GroupRow) (members : GroupRow → ℕ → Bool) (marks : GroupRow → ℕ → Option MarkRow) (is : Option GroupRow) : Type 0 where
  pub row : GroupRow
  pub later : GroupRow
  pub found : was ≡ Some row
  pub changed : is ≡ Some later
  pub member : (file : ℕ) → is_member file later ≡ members row file
  pub mark : (moment : ℕ) → mark_at moment later ≡ marks row moment
