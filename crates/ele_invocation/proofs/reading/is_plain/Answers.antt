use Rattle.std.proofs.Common.{List, ℕ, subst}
use Rattle.ele_script.specs.PolicyWord.{ReadsPolicy}
use Rattle.ele_invocation.proofs.Spelled.{read_or_not}
use Rattle.ele_invocation.proofs.reading.is_plain.Goals as goal

pub returns : goal.returns
returns c =
    rw c.is_ok.ensures.value (read_or_not c.args.word.now c.policy.result (subst (λ (w : List ℕ). ReadsPolicy w c.policy.result) c.as_bytes.ensures.value c.policy.ensures))
