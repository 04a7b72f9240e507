use Rattle.std.specs.Prelude.{length}
use Rattle.ele_recording.specs.Recording.{HasHeard}
use Rattle.ele_recording.proofs.recording.answer_lines.Given as goal

-- the lines so far were answered
abbrev pub invariant-lines : goal.invariant-lines
invariant-lines g l = HasHeard l.initial.history l.script l.history l.rest

abbrev pub decreases-lines : goal.decreases-lines
decreases-lines g l = length l.rest
