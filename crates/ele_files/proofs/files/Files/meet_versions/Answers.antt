use Rattle.ele_files.proofs.Lemmas.{List, Meets, VersionRow, [], meets_none, none_shown, own_places, places, subst, sym}
use Rattle.ele_files.proofs.files.Files.meet_versions.Goals as goal

pub returns-in_default-clause-met : goal.returns-in_default-clause-met
returns-in_default-clause-met c =
    let none = none_shown _ _ _ c.self.invariant c.args.file (sym (rw c.deref.ensures.value at c.in_default.ensures)) in
    rw (← c.self.view_is) (subst (λ (rows : List VersionRow). Meets c.args.file c.args.met.now.keys c.args.met.now.keys (places rows [])) (sym none) (meets_none c.args.file c.args.met.now.keys))

pub returns-clause-met : goal.returns-clause-met
returns-clause-met c =
    let is = own_places _ _ _ c.self.invariant c.args.file c.in-Some.held.now (sym (rw c.deref.ensures.value at c.in-Some.ensures)) in
    rw (← c.self.view_is) (subst (Meets c.args.file c.args.met.now.keys c.meet_log.new.met.keys) is (c.in_ok-meet_log.ensures c.args.file))
