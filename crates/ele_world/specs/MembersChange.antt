-- After a `group add` the group has the file at the path and its others, after a `group remove` only the others; its marks stay.
use Rattle.std.specs.Prelude.{◌≡◌, ℕ, ◌==◌, ◌&&◌, ◌||◌, not, List, Ok}
use Rattle.ele_model.specs.declared.event.Event.TheVariants.{GroupAdd, GroupRemove}
use Rattle.ele_model.specs.declared.reply.Reply.TheVariants.{Done}
use Rattle.ele_world.specs.GroupChanges.{ChangesGroup, IsGroupOf}
use Rattle.ele_model.specs.GroupRows.{group_named, is_member, mark_at}
use Rattle.ele_model.specs.Step.{step}
use Rattle.ele_model.specs.Walk.{file_now}
use Rattle.ele_model.specs.WellFormed.{IsWellFormed}
use Rattle.ele_model.specs.World.{World}

abbrev pub MemberComes : Type 0
MemberComes =
    (w : World) (name : List ℕ) (path : List (List ℕ)) (file : ℕ) → IsWellFormed w → file_now w.names path ≡ Ok file
    → (step w (GroupAdd name path)).0 ≡ Done
    → ChangesGroup w name (IsGroupOf (group_named w.groups name) (λ row other. is_member other row || (file == other)) (λ row moment. mark_at moment row)) ((step w (GroupAdd name path)).1)

abbrev pub MemberGoes : Type 0
MemberGoes =
    (w : World) (name : List ℕ) (path : List (List ℕ)) (file : ℕ) → IsWellFormed w → file_now w.names path ≡ Ok file
    → (step w (GroupRemove name path)).0 ≡ Done
    → ChangesGroup w name (IsGroupOf (group_named w.groups name) (λ row other. is_member other row && not (file == other)) (λ row moment. mark_at moment row)) ((step w (GroupRemove name path)).1)
