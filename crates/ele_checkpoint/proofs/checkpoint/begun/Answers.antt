use Rattle.std.proofs.Common.{◌≡◌, ◌++◌, List, ℕ}
use Rattle.std.proofs.lemmas.Result.{IfErr-weaker}
use Rattle.ele_checkpoint.specs.Checkpoint.{head, sealed}
use Rattle.ele_checkpoint.proofs.checkpoint.begun.Goals as goal

pub returns-clause-none : goal.returns-clause-none
returns-clause-none c =
    IfErr-weaker c.unsealed.result (λ _. (body : List ℕ) → c.args.bytes.now ≡ sealed body → ⊥) (λ _. (rest : List ℕ) → c.args.bytes.now ≡ sealed (head ++ rest) → ⊥) (λ _ h rest e. h (head ++ rest) e) c.unsealed.ensures.none
