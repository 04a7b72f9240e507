use Rattle.ele_names.proofs.Lemmas.{sym, ◌∙◌, has_number}
use Rattle.ele_names.proofs.live_names.LiveNames.has.Goals as goal

pub returns-then-number-len : goal.returns-then-number-len
returns-then-number-len c = λ so.
    let its = has_number c.args.self.now.by_name.entries c.args.number (c.in-Some.key.now, c.in-Some.field-0-1.now) (c.args.directory, c.args.name.now) c.len-len.ensures.unique (sym c.in-Some.ensures.entry) (sym c.eq.ensures ∙ so) in
    (sym its.0, its.1)
