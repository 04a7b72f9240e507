-- Each change that may be made keeps a world well formed, and so do all changes of a plan.
use Rattle.ele_model.proofs.Basics.{nat_tests, arith, ◌≡◌, List, [], ◌∷◌, refl}
use Rattle.ele_model.proofs.Words.{Change, Time, SetDirectoryDefault, SetFilePolicy, Revive, Append, Take, WriteDraft, TruncateDraft, EndDraft, after_change, after_changes, Plan, outcome, IsEvent, HasParts, World, Event}
use Rattle.ele_model.proofs.KeptDrafts.{start_keeps, write_keeps, truncate_keeps, end_keeps, open_keeps, shut_keeps}
use Rattle.ele_model.proofs.KeptDirectories.{make_directory_keeps, end_name_keeps, add_name_keeps, end_file_name_keeps, move_name_keeps}
use Rattle.ele_model.proofs.KeptNames.{time_keeps, govern_keeps, put_under_keeps, make_keeps}
use Rattle.ele_model.proofs.Dropped.{drop_keeps}
use Rattle.ele_model.proofs.KeptGroups.{make_group_keeps, drop_group_keeps, add_member_keeps, remove_member_keeps, add_mark_keeps, remove_mark_keeps}
use Rattle.ele_model.proofs.KeptRevived.{revive_keeps}
use Rattle.ele_model.proofs.KeptVersions.{append_keeps, take_keeps}
use Rattle.ele_model.proofs.May.{May, MayBy, MayAll, MayPlan}
use Rattle.ele_model.proofs.PlanOutcomes.{outcome_of}

pub change_keeps : (w : World) (change : Change) → May w change → HasParts w → HasParts (after_change w change)
change_keeps w (Take file number) may k = take_keeps w file number may.ended may.unread k
change_keeps w (Append file opened cells) may k = append_keeps w file opened cells may k
change_keeps w (Revive directory name file number) may k = revive_keeps w directory name file number may k
change_keeps w (WriteDraft file offset bytes) may k = write_keeps w file offset bytes may k
change_keeps w (TruncateDraft file size) may k = truncate_keeps w file size may k
change_keeps w (EndDraft file) may k = end_keeps w file may k
change_keeps w change may k = grind (arith, nat_tests, time_keeps, govern_keeps, make_directory_keeps, end_name_keeps, add_name_keeps, move_name_keeps, end_file_name_keeps, make_keeps, put_under_keeps, start_keeps, open_keeps, shut_keeps, drop_keeps, make_group_keeps, drop_group_keeps, add_member_keeps, remove_member_keeps, add_mark_keeps, remove_mark_keeps)

-- what an event's types say of it makes up for what the world needn't know
may_by : (event : Event) (first w : World) (change : Change) → IsEvent event → MayBy event first w change → May w change
may_by event first w (Time to) is may = (may.0, may.1 is)
may_by event first w (SetDirectoryDefault directory policy) is may = may is
may_by event first w (SetFilePolicy file policy) is may = may is
may_by event first w (Take file number) is may = record { ended = λ row found. grind (arith, nat_tests); unread = may.unread }
may_by event first w change is may = may

pub event_keeps : (event : Event) (first w : World) (change : Change) → IsEvent event → MayBy event first w change → HasParts w → HasParts (after_change w change)
event_keeps event first w change is may k = change_keeps w change (may_by event first w change is may) k

pub all_keep : (event : Event) (first w : World) (changes : List Change) → IsEvent event → MayAll event first w changes → HasParts w → HasParts (after_changes w changes)
all_keep event first w [] is may k = k
all_keep event first w (change ∷ changes) is may k = all_keep event first (after_change w change) changes is may.1 (event_keeps event first w change is may.0 k)

-- the world after is reached by changes that may be made
pub record IsReached (event : Event) (w after : World) : Type 0 where
  pub changes : List Change
  pub may : MayAll event w w changes
  pub is : after ≡ after_changes w changes

pub reached : (event : Event) (w : World) (plan : Plan) → MayPlan event w plan → IsReached event w ((outcome w plan).1)
reached event w = outcome_of w (λ reply changes. MayAll event w w changes) (λ answer. IsReached event w (answer.1)) (λ reply changes may. record { changes = changes; may = may; is = refl }) (λ refusal. record { changes = []; may = tt; is = refl })
