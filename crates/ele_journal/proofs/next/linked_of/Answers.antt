use Rattle.std.proofs.Common.{sym, ◌∙◌}
use Rattle.ele_journal.proofs.Steps.{no_links}
use Rattle.ele_journal.proofs.next.linked_of.Goals as goal

pub returns-then-not-is_same-clause-none : goal.returns-then-not-is_same-clause-none
returns-then-not-is_same-clause-none c = λ body after is e.
    no_links c.args.bytes.now c.split_at.result.0.now c.split_at.result.1.now c.split_at-2.result.0.now body after c.args.size c.requires c.split_at.ensures.front c.split_at.ensures.back c.split_at-2.ensures.front
    (λ same. let held = c.is_same.ensures.1 (same ∙ sym c.check_of-wanted.ensures) in let failed = c.if-not-is_same.true in cc) is e
