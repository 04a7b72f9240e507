use Rattle.std.proofs.Common.{rules, tests}
use Rattle.std.proofs.lemmas.List.{map-append}
use Rattle.std.proofs.lemmas.Iterator.Splits.{YieldsList-from_slice_split}
use Rattle.std.proofs.lemmas.Iterator.Consumers.{YieldsList-at, YieldsList-end}
use Rattle.ele_dialog.proofs.Basics.{List, subst, ℕ, ◌==◌}
use Rattle.ele_dialog.proofs.Dated.{add_no_words, add_words_then, dates_text_of}
use Rattle.ele_dialog.specs.Dates.{before_dates}
use Rattle.ele_dialog.specs.Walk.{AddsWords}
use Rattle.ele_dialog.proofs.dates.add_dates.Goals as goal

pub loop-word-init : goal.loop-word-init
loop-word-init c = add_no_words _ _ _

pub loop-word-preserved : goal.loop-word-preserved
loop-word-preserved c = rw map-append (add_words_then c.loop-word.invariant c.in_ok-columns_left.ensures)

pub returns : goal.returns
returns c =
    let all = (YieldsList-end (YieldsList-at c.into_iter-word-iterator.ensures.into_iter_gives (YieldsList-from_slice_split _ (λ byte. byte == 32) c.args.line.now c.split-word-items.ensures.rest c.split-word-items.ensures.done c.split-word-items.ensures.closure (λ x b q h. search (rules, tests)))) c.loop-word.yielded _ c.loop-word.yielded_by _ _ c.in-None.is c.next.ensures.steps).0 in
    dates_text_of _ _ c.args.line.now _ _ _ (subst (λ (words : List (List ℕ)). AddsWords c.args.columns.now before_dates words c.loop-word.left.now c.loop-word.front.now c.args.shown.now.items c.loop-word.shown.items) all c.loop-word.invariant)
