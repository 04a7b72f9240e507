use Rattle.std.proofs.Common.{take, arith}
use Rattle.std.proofs.lemmas.List.{length-take}
use Rattle.std.proofs.lemmas.Nat.{be_bytes_8}
use Rattle.ele_journal.proofs.Starts.{bytes_taken}
use Rattle.ele_journal.proofs.start.number_in.Goals as goal

pub returns : goal.returns
returns c = be_bytes_8 (take 8 c.args.bytes.now) c.from_eight.result (omega (arith, length-take 8 c.args.bytes.now, c.requires)) (bytes_taken 8 c.args.bytes.now (λ i. omega (arith, c.type_inv.bytes i))) c.from_eight.ensures
