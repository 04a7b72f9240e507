use Rattle.std.proofs.Common.{◌≡◌, ◌∙◌, Some, ap, sym, subst}
use Rattle.std.proofs.lemmas.Option.{IfSome_then, none-some, same_Some}
use Rattle.ele_tool_words.specs.ByClock.{SpellsBy}
use Rattle.ele_tool_words.specs.ReadParts.{zone_by}
use Rattle.ele_tool_words.specs.declared.zone.Offset.{Offset}
use Rattle.ele_tool_words.proofs.ByClocks.{IsReadBy, long_found, long_only, long_parts, same_clocked, zone_none, zone_some}
use Rattle.ele_tool_words.proofs.Locals.{stamp_moment}
use Rattle.ele_tool_words.proofs.Times.{stamp_long}
use Rattle.ele_tool_words.proofs.by_clock.read_long.Goals as goal

pub returns-then-not-is_mark-clause-only : goal.returns-then-not-is_mark-clause-only
returns-then-not-is_mark-clause-only c = λ m offset h.
    let parts = long_parts c.args.home c.args.word.now m offset c.requires h in
    let marked = c.is_mark.ensures.1 parts.mark in
    let not_marked = c.if-not-is_mark.true in
    absurd cc

pub returns-in_err-local-clause-only : goal.returns-in_err-local-clause-only
returns-in_err-local-clause-only c = λ m offset h.
    let parts = long_parts c.args.home c.args.word.now m offset c.requires h in
    absurd (none-some parts.local (sym c.in_err-local.was ∙ c.read_local.ensures.only parts.local (stamp_moment _ parts.local parts.stamp)))

pub returns-in_err-zone-clause-only : goal.returns-in_err-zone-clause-only
returns-in_err-zone-clause-only c = λ m offset h.
    let parts = long_parts c.args.home c.args.word.now m offset c.requires h in
    absurd (none-some parts.zone (sym (zone_none c.zone_behind.result _ c.zone_behind.ensures c.in_err-zone.was) ∙ parts.zone_is))

pub returns-in_err-offset-clause-only : goal.returns-in_err-offset-clause-only
returns-in_err-offset-clause-only c = λ m offset h.
    let parts = long_parts c.args.home c.args.word.now m offset c.requires h in
    let zone = zone_some c.zone_behind.result c.in_ok-zone.zone _ c.zone_behind.ensures c.in_ok-zone.was in
    let same = same_Some c.in_ok-zone.zone.now parts.zone (sym zone ∙ parts.zone_is) in
    absurd (none-some offset (sym c.in_err-offset.was ∙ c.offset_by.ensures ∙ ap (zone_by c.args.home) same ∙ parts.offset))

pub returns-clause-found : goal.returns-clause-found
returns-clause-found c =
    let zone = zone_some c.zone_behind.result c.in_ok-zone.zone _ c.zone_behind.ensures c.in_ok-zone.was in
    let read : IsReadBy c.args.word.now c.in_ok-local.local c.in_ok-zone.zone.now =
    record { long = c.requires; twenty = stamp_long _ c.requires; mark = c.is_mark.ensures.0 c.if-not-is_mark.false; stamp = c.in_ok-local.ensures.found; zone = zone } in
    let by : zone_by c.args.home c.in_ok-zone.zone.now ≡ Some c.in_ok-offset.offset = sym c.offset_by.ensures ∙ c.in_ok-offset.was in
    IfSome_then c.shown_by.result c.shown_by.ensures.found (λ time is. subst (λ (o : Offset). SpellsBy c.args.home c.args.word.now time.moment o) (sym is.2)
    (long_found c.args.home c.args.word.now c.in_ok-local.local c.in_ok-zone.zone.now c.in_ok-offset.offset time.moment read by is.0 is.1))

pub returns-clause-only : goal.returns-clause-only
returns-clause-only c = λ m offset h.
    let parts = long_parts c.args.home c.args.word.now m offset c.requires h in
    let zone = zone_some c.zone_behind.result c.in_ok-zone.zone _ c.zone_behind.ensures c.in_ok-zone.was in
    let read : IsReadBy c.args.word.now c.in_ok-local.local c.in_ok-zone.zone.now =
    record { long = c.requires; twenty = stamp_long _ c.requires; mark = c.is_mark.ensures.0 c.if-not-is_mark.false; stamp = c.in_ok-local.ensures.found; zone = zone } in
    let by : zone_by c.args.home c.in_ok-zone.zone.now ≡ Some c.in_ok-offset.offset = sym c.offset_by.ensures ∙ c.in_ok-offset.was in
    let shown = long_only c.args.home c.args.word.now c.in_ok-local.local c.in_ok-zone.zone.now c.in_ok-offset.offset offset m read by parts in
    c.shown_by.ensures.only m h.in_range shown.0 ∙ same_clocked m c.in_ok-offset.offset offset shown.1
