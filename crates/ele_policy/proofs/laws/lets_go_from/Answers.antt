use Rattle.std.proofs.Common.{ap, ◌∙◌}
use Rattle.ele_policy.proofs.Waits.{case_tells, lets_go_from, reached, wait_case}
use Rattle.ele_policy.proofs.laws.lets_go_from.Goals as goal

pub returns : goal.returns
returns c = λ case given. (
  wait_case case,
  λ beside age stands.
      lets_go_from case.policy case.closed beside age given ∙ ap (λ o. reached o age) (case_tells case.policy case.closed case.next_closed case.enough beside stands),
)
