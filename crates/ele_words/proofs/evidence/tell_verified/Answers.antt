use Rattle.std.proofs.KnownBytes.{Keeps-refl}
use Rattle.ele_words.specs.Evidence.{untold, unverified, verified}
use Rattle.ele_words.proofs.evidence.tell_verified.Goals as goal

pub returns-in_default : goal.returns-in_default
returns-in_default g c =
    unverified _ (rw c.requires.start at c.in_default.ensures.err) (Keeps-refl _) c.tell.ensures.told c.tell.ensures.status

pub returns-in_default-verdict_line : goal.returns-in_default-verdict_line
returns-in_default-verdict_line g c =
    untold c.in-Ok.verdict (rw c.requires.start at c.in-Ok.ensures.ok) (Keeps-refl _) c.tell-in_default-verdict_line.ensures.told c.tell-in_default-verdict_line.ensures.status

pub returns : goal.returns
returns g c = verified c.in-Ok.verdict (rw c.requires.start at c.in-Ok.ensures.ok) c.tell_verdict.ensures
