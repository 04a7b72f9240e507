use Rattle.ele_commands.proofs.Basics.{ℕ, ◌<◌, arith}
use Rattle.std.proofs.lemmas.List.Elements.{All-from_get_or}
use Rattle.ele_commands.proofs.word.lemma_bytes.Goals as goal

pub returns : goal.returns
returns c = All-from_get_or (λ (byte : ℕ). byte < 256) c.args.bytes.now 0 (λ i inside. let fits = c.type_inv.bytes i in omega arith)
