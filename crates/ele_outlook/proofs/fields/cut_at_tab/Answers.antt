use Rattle.std.proofs.Common.{ℕ, ◌+◌, take, drop, sym, ap, ◌∙◌}
use Rattle.ele_outlook.proofs.Tabs.{after_none, before_none, tab_found}
use Rattle.ele_outlook.proofs.fields.cut_at_tab.Goals as goal

pub returns-in-Some-clause-before : goal.returns-in-Some-clause-before
returns-in-Some-clause-before c = c.cut_line.ensures.line ∙ ap (λ (n : ℕ). take n c.args.text.now) (sym (tab_found _ _ c.in-Some.ensures))

pub returns-in-Some-clause-behind : goal.returns-in-Some-clause-behind
returns-in-Some-clause-behind c = c.cut_line.ensures.behind ∙ ap (λ (n : ℕ). drop (n + 1) c.args.text.now) (sym (tab_found _ _ c.in-Some.ensures))

pub returns-in-None-clause-before : goal.returns-in-None-clause-before
returns-in-None-clause-before c = before_none _ c.in-None.ensures

pub returns-in-None-clause-behind : goal.returns-in-None-clause-behind
returns-in-None-clause-behind c = after_none _ c.in-None.ensures
