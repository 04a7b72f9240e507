use Rattle.std.proofs.Common.{◌∙◌}
use Rattle.ele_storm.proofs.Audits.{last_is_new}
use Rattle.ele_storm.proofs.audited.share_fresh.Goals as goal

pub returns : goal.returns
returns g c =
    let all = c.in-Ok.ensures.ok.2 in
    let new = last_is_new c.in-Ok.shared all.0 c.pop.new.self.items c.in-Some.seat (rw c.in-Some.ensures.items at all.1) in
    record { opening = c.in-Ok.ensures.ok.0 ∙ c.in_ok-history.ensures; of = new.1.of; own = new.1.own }
