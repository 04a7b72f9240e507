use Rattle.std.specs.Prelude.{◌≡◌}
use Rattle.std.proofs.Common.{sym}
use Rattle.ele_time_path.specs.Faults.{refusal_of}
use Rattle.ele_time_path.specs.declared.fault.WalkFault.{WalkFault}
use Rattle.ele_time_path.specs.declared.fault.WalkFault.TheVariants.{Future, IsRoot, NoEntry, NotDirectory}
use Rattle.ele_time_path.proofs.walk.fault_of.Goals as goal

pub unreachable-requires : goal.unreachable-requires
unreachable-requires c = by c.requires.fault c.requires.is where
  by : (f : WalkFault) → refusal_of f ≡ c.args.refusal → ⊥
  by Future is = c.in_default.not-Future (sym is)
  by IsRoot is = c.in_default.not-IsRoot (sym is)
  by NoEntry is = c.in_default.not-NoEntry (sym is)
  by NotDirectory is = c.in_default.not-NotDirectory (sym is)
