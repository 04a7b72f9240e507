use Rattle.ele_state.proofs.Words.{AreChanges, cover_after, is_touched, moments_by, ripe_at, take, world_of}
use Rattle.ele_state.proofs.Marked.{so_far}
use Rattle.ele_state.proofs.mark.changes_by.Given as goal

abbrev pub invariant-loop-file : goal.invariant-loop-file
invariant-loop-file l = AreChanges (is_touched (take l.file-index l.files) l.marks l.rows.files.versions) (ripe_at (world_of l.rows)) (moments_by (world_of l.rows) (cover_after l.change l.rows.groups)) l.changes.items

abbrev pub invariant-loop-mark : goal.invariant-loop-mark
invariant-loop-mark l = AreChanges (so_far l.rows.files.versions l.files l.marks l.file-index l.file l.mark-index) (ripe_at (world_of l.rows)) (moments_by (world_of l.rows) (cover_after l.change l.rows.groups)) l.changes.items
