use Rattle.std.proofs.Common.{◌≡◌, length, map}
use Rattle.ele_path.specs.Path.{IsPath}
use Rattle.ele_path.proofs.path.check_pieces.Given as goal

-- the pieces so far are names
abbrev pub invariant-loop-piece : goal.invariant-loop-piece
invariant-loop-piece l = (l.before ≡ length l.yielded) × IsPath (map (λ piece. piece.now) l.yielded)
