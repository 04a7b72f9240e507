use Rattle.ele_names.proofs.Newest.{below_less, has_place}
use Rattle.ele_names.proofs.Words.{refl, sym, ◌∙◌}
use Rattle.ele_names.proofs.birth_index.BirthIndex.remove.Goals as goal

pub returns-in_default-clause-below : goal.returns-in_default-clause-below
returns-in_default-clause-below c = below_less _ _ c.args.number c.args.birth c.args.serial (λ q. refl) c.remove.ensures

pub renew-requires : goal.renew-requires
renew-requires c = has_place c.args.self.now c.args.number c.in-Some.newest (sym c.newest.ensures ∙ c.in-Some.is)

pub returns-then-newest-serial-clause-below : goal.returns-then-newest-serial-clause-below
returns-then-newest-serial-clause-below c = λ was. c.renew.ensures.below (below_less c.args.self.now _ c.args.number c.args.birth c.args.serial (λ q. refl) c.remove.ensures was)

pub returns-else-newest-birth-clause-below : goal.returns-else-newest-birth-clause-below
returns-else-newest-birth-clause-below c = below_less _ _ c.args.number c.args.birth c.args.serial (λ q. refl) c.remove.ensures
