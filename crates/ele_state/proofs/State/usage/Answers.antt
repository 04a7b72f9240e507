use Rattle.ele_state.proofs.Words.{refl}
use Rattle.ele_policy.specs.declared.policy.Kind.TheVariants as kind
use Rattle.ele_state.proofs.Booked.{booked}
use Rattle.ele_state.proofs.State.usage.Goals as goal

pub returns : goal.returns
returns c = rw (← c.self.view_is) (rw (c.all.ensures, booked c.self.inside.rows c.self.invariant.sound.tracked kind.One, booked c.self.inside.rows c.self.invariant.sound.tracked kind.All, booked c.self.inside.rows c.self.invariant.sound.tracked kind.Safe, booked c.self.inside.rows c.self.invariant.sound.tracked kind.Landmarks) refl)
