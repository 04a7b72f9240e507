-- After a `group make` there is a group of that name, without files and marks; after a `group drop` there is none.
use Rattle.std.specs.Prelude.{◌≡◌, ℕ, List, [], Some, None}
use Rattle.ele_model.specs.declared.event.Event.TheVariants.{GroupMake, GroupDrop}
use Rattle.ele_model.specs.declared.reply.Reply.TheVariants.{Done}
use Rattle.ele_world.specs.GroupChanges.{ChangesGroup}
use Rattle.ele_model.specs.Step.{step}
use Rattle.ele_model.specs.WellFormed.{IsWellFormed}
use Rattle.ele_model.specs.World.{World}

abbrev pub GroupComes : Type 0
GroupComes =
    (w : World) (name : List ℕ) → IsWellFormed w → (step w (GroupMake name)).0 ≡ Done
    → ChangesGroup w name (λ is. is ≡ Some (record { name = name; members = []; marks = [] })) ((step w (GroupMake name)).1)

abbrev pub GroupGoes : Type 0
GroupGoes =
    (w : World) (name : List ℕ) → IsWellFormed w → (step w (GroupDrop name)).0 ≡ Done
    → ChangesGroup w name (λ is. is ≡ None) ((step w (GroupDrop name)).1)
