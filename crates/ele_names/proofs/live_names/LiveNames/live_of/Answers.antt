use Rattle.ele_names.proofs.Lemmas.{sym, ◌∙◌, ap, option_and_then, valued}
use Rattle.ele_names.proofs.live_names.LiveNames.live_of.Goals as goal

pub returns : goal.returns
returns c = λ d n is. ap (option_and_then (λ live. live)) (sym c.index.ensures ∙ rw is at (valued (d, n) c.args.self.now.by_name.entries (rw is c.requires)))
