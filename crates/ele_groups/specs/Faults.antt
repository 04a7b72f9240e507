-- Which changes of groups fail, and why.
use Rattle.std.specs.Prelude.{◌≡◌, ℕ, List, Option, Some, None, Result, Ok, Err, ◌⊎◌, if◌then◌else◌}
use Rattle.ele_model.specs.declared.rows.GroupRow.{GroupRow}
use Rattle.ele_model.specs.GroupRows.{has_group, has_member, is_marked_at}
use Rattle.ele_groups.specs.declared.fault.GroupFault.{GroupFault}
use Rattle.ele_groups.specs.declared.fault.GroupFault.TheVariants as fault

-- to make a group of that name
abbrev pub make_fault : List GroupRow → List ℕ → Option GroupFault
make_fault rows name = if has_group rows name then Some fault.GroupExists else None

-- to drop the group of that name
abbrev pub drop_fault : List GroupRow → List ℕ → Option GroupFault
drop_fault rows name = if has_group rows name then None else Some fault.NoGroup

-- to add the file to that group
abbrev pub add_fault : List GroupRow → List ℕ → ℕ → Option GroupFault
add_fault rows name file =
    if has_group rows name then (if has_member rows name file then Some fault.AlreadyMember else None) else Some fault.NoGroup

-- to remove the file from that group
abbrev pub remove_fault : List GroupRow → List ℕ → ℕ → Option GroupFault
remove_fault rows name file =
    if has_group rows name then (if has_member rows name file then None else Some fault.NotMember) else Some fault.NoGroup

-- to mark that group
abbrev pub mark_fault : List GroupRow → List ℕ → ℕ → Option GroupFault
mark_fault rows name mark =
    if has_group rows name then (if is_marked_at rows name mark then Some fault.MarkExists else None) else Some fault.NoGroup

-- to remove the mark from that group
abbrev pub unmark_fault : List GroupRow → List ℕ → ℕ → Option GroupFault
unmark_fault rows name mark =
    if has_group rows name then (if is_marked_at rows name mark then None else Some fault.NoMark) else Some fault.NoGroup

-- the fault, if there is one, or else refused memory
abbrev pub Fails : Option GroupFault → GroupFault → Type 0
Fails found answer = (found ≡ Some answer) ⊎ ((found ≡ None) × (answer ≡ fault.NoMemory))

-- the fault, if there is one, or else success
abbrev pub answer_of : Option GroupFault → Result Unit GroupFault
answer_of None = Ok tt
answer_of (Some answer) = Err answer
