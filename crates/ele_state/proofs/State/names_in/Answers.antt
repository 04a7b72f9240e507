use Rattle.ele_state.proofs.Words.{arith, Names}
use Rattle.ele_model.proofs.Listed.{listing_is}
use Rattle.ele_state.proofs.State.names_in.Goals as goal

pub returns : goal.returns
returns c = rw (← c.self.view_is) (grind (arith, c.name_list.ensures, c.as_slice.ensures, listing_is c.self.inside.rows.names c.args.directory c.args.moment c.in_ok-names.names.items (c.self.invariant.sound.formed.holds Names).lives c.in_ok-names.ensures.sorted c.in_ok-names.ensures.found))
