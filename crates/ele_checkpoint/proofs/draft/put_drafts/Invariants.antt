use Rattle.std.proofs.Common.{◌≡◌, ◌++◌, drop}
use Rattle.std.specs.List.{flat_map}
use Rattle.ele_checkpoint.specs.Contents.{draft_text, drafts_text}
use Rattle.ele_checkpoint.proofs.draft.put_drafts.Given as goal

-- the drafts so far are written, and the others are left
abbrev pub invariant-loop-row : goal.invariant-loop-row
invariant-loop-row l = l.out.items ++ flat_map (draft_text l.rows) (drop l.row-index l.made) ≡ l.fn.out.items ++ drafts_text l.rows l.made
