use Rattle.std.proofs.Common.{arith}
use Rattle.ele_path.specs.declared.fault.PathFault.TheVariants.{NoMemory}
use Rattle.ele_storm.specs.Rounds.{file_of}
use Rattle.ele_storm.proofs.Paths.{read_is, spells_file}
use Rattle.ele_storm.proofs.events.file_of.Goals as goal

pub returns : goal.returns
returns c =
    rw c.or.ensures (read_is c.read.result (file_of c.args.writer) NoMemory (record {})
    (c.read.ensures.only (file_of c.args.writer) (rw (c.as_bytes.ensures.value, c.in_ok-text.ensures.ok) (spells_file c.args.writer (omega arith)))))
