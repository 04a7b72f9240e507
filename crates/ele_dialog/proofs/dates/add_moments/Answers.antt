use Rattle.std.proofs.Common.{rules, tests}
use Rattle.std.proofs.lemmas.List.{map-append}
use Rattle.std.proofs.lemmas.Iterator.Splits.{YieldsList-from_slice_split}
use Rattle.std.proofs.lemmas.Iterator.Consumers.{YieldsList-at, YieldsList-end}
use Rattle.std.specs.Prelude.{◌||◌}
use Rattle.ele_dialog.proofs.Basics.{List, subst, ℕ, ◌==◌}
use Rattle.ele_dialog.proofs.Dated.{add_dates_then, add_no_dates}
use Rattle.ele_dialog.specs.Walk.{AddsDates}
use Rattle.ele_dialog.proofs.dates.add_moments.Goals as goal

pub loop-part-init : goal.loop-part-init
loop-part-init c = add_no_dates _ _

pub loop-part-preserved : goal.loop-part-preserved
loop-part-preserved c = rw map-append (add_dates_then c.loop-part.invariant c.in_ok-front.ensures)

pub returns : goal.returns
returns c =
    let all = (YieldsList-end (YieldsList-at c.into_iter-part-iterator.ensures.into_iter_gives (YieldsList-from_slice_split _ (λ byte. byte == 47 || byte == 44) c.args.word.now c.split-part-items.ensures.rest c.split-part-items.ensures.done c.split-part-items.ensures.closure (λ x b q h. search (rules, tests)))) c.loop-part.yielded _ c.loop-part.yielded_by _ _ c.in-None.is c.next.ensures.steps).0 in
    subst (λ (words : List (List ℕ)). AddsDates c.args.first.now words c.loop-part.front.now c.args.shown.now.items c.loop-part.shown.items) all c.loop-part.invariant
