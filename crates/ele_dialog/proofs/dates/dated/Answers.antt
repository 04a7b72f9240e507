use Rattle.std.proofs.Common.{rules, tests}
use Rattle.std.proofs.lemmas.List.{map-append}
use Rattle.std.proofs.lemmas.Iterator.Splits.{YieldsList-from_slice_split}
use Rattle.std.proofs.lemmas.Iterator.Consumers.{YieldsList-at, YieldsList-end}
use Rattle.std.specs.List.{AllZip}
use Rattle.ele_dialog.proofs.Basics.{List, subst, ℕ, ◌==◌}
use Rattle.ele_dialog.proofs.Dated.{lines_more, no_lines}
use Rattle.ele_dialog.specs.Dates.{IsDatedLine}
use Rattle.ele_dialog.proofs.dates.dated.Goals as goal

pub loop-line-init : goal.loop-line-init
loop-line-init c = no_lines _ _ c.new-shown.ensures.items

pub loop-line-preserved : goal.loop-line-preserved
loop-line-preserved c =
    rw map-append (lines_more _ _ _ _ _ _ _ c.loop-line.invariant c.in_ok-extend_from_slice.ensures.items c.in_ok-add_dated_line.ensures)

pub returns : goal.returns
returns c =
    let all = (YieldsList-end (YieldsList-at c.into_iter-line-iterator.ensures.into_iter_gives (YieldsList-from_slice_split _ (λ byte. byte == 10) c.args.text.now c.split-line-items.ensures.rest c.split-line-items.ensures.done c.split-line-items.ensures.closure (λ x b q h. search (rules, tests)))) c.loop-line.yielded _ c.loop-line.yielded_by _ _ c.in-None.is c.next.ensures.steps).0 in
    let so = c.loop-line.invariant in
    (so.shown, subst (λ (lines : List (List ℕ)). AllZip (IsDatedLine c.args.places) lines so.shown) all so.each, so.text_is)
