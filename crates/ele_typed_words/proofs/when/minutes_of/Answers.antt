use Rattle.std.proofs.Common.{◌≡◌, List, ℕ, Option, ap, subst, sym, ◌∙◌, IfSome, ◌<◌}
use Rattle.ele_tool_words.specs.Zone.{SpellsClock, SpellsZone}
use Rattle.ele_tool_words.specs.declared.zone.Offset.{Offset}
use Rattle.ele_tool_words.specs.declared.zone.Offset.TheVariants.{Ahead}
use Rattle.ele_typed_words.specs.When.{minutes_ahead}
use Rattle.ele_typed_words.proofs.Sums.{ahead_few, ahead_found, clock_zone}
use Rattle.ele_typed_words.proofs.when.minutes_of.Goals as goal

pub returns-clause-found : goal.returns-clause-found
returns-clause-found c =
    let zone = rw c.behind_plus.ensures at c.read_offset.ensures.found in
    subst (λ (r : Option ℕ). IfSome r (SpellsClock c.args.word.now)) (sym c.minutes_ahead.ensures) (ahead_found c.args.word.now c.read_offset.result zone)

pub returns-clause-few : goal.returns-clause-few
returns-clause-few c =
    let zone = rw c.behind_plus.ensures at c.read_offset.ensures.found in
    subst (λ (r : Option ℕ). IfSome r (λ (minutes : ℕ). minutes < 1440)) (sym c.minutes_ahead.ensures) (ahead_few c.args.word.now c.read_offset.result zone)

pub returns-clause-only : goal.returns-clause-only
returns-clause-only c = λ minutes h.
    c.minutes_ahead.ensures ∙ ap minutes_ahead (c.read_offset.ensures.only (Ahead minutes) (subst (λ (w : List ℕ). SpellsZone w (Ahead minutes)) (sym c.behind_plus.ensures) (clock_zone c.args.word.now minutes h)))
