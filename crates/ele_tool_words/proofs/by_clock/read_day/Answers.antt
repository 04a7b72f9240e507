use Rattle.std.proofs.Common.{◌∙◌, ℕ, sym, subst}
use Rattle.std.proofs.lemmas.Option.{none-some, same_Some}
use Rattle.ele_tool_words.specs.Time.{IsShown}
use Rattle.ele_tool_words.proofs.ByClocks.{day_parts, same_clocked}
use Rattle.ele_tool_words.proofs.by_clock.read_day.Goals as goal

pub returns-in_err-local-clause-only : goal.returns-in_err-local-clause-only
returns-in_err-local-clause-only c = λ m offset h.
    let parts = day_parts c.args.home c.args.word.now m offset c.requires.ten c.requires.dash h in
    absurd (none-some parts.0 (sym c.in_err-local.was ∙ c.read_date.ensures.only parts.0 parts.1))

pub returns-clause-only : goal.returns-clause-only
returns-clause-only c = λ m offset h.
    let parts = day_parts c.args.home c.args.word.now m offset c.requires.ten c.requires.dash h in
    let same = same_Some parts.0 c.in_ok-local.local (sym (c.read_date.ensures.only parts.0 parts.1) ∙ c.in_ok-local.was) in
    c.shown_by.ensures.only m h.in_range (subst (λ (l : ℕ). IsShown l c.args.home m) same parts.2) ∙ same_clocked m c.args.home offset (sym parts.3)
