use Rattle.ele_model.proofs.Basics.{◌≡◌, ◌+◌, drop, []}
use Rattle.ele_model.proofs.Words.{is_file_of, different_of}
use Rattle.ele_model.proofs.sums.draft_blocks.Given as goal

abbrev pub invariant-loop-i : goal.invariant-loop-i
invariant-loop-i l = l.blocks + different_of (is_file_of l.files l.kind) [] (drop l.i l.drafts) ≡ different_of (is_file_of l.files l.kind) [] l.drafts
