use Rattle.ele_names.proofs.Lemmas.{numbered_without, others_live}
use Rattle.ele_names.proofs.live_names.LiveNames.end.Goals as goal

pub returns-clause-numbered : goal.returns-clause-numbered
returns-clause-numbered c = λ row at to serial its there elsewhere numbered.
    numbered_without row serial at _ _ numbered to there elsewhere (λ d n live. others_live row d n _ _ live (c.set.ensures.live row.directory row.name its d n))
