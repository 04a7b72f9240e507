use Rattle.std.proofs.Common.{◌≡◌, Some, drop}
use Rattle.ele_tool_words.specs.ReadParts.{rest_of}
use Rattle.ele_tool_words.proofs.Locals.{stamp_moment, zoned_local, zoned_rest}
use Rattle.ele_tool_words.proofs.Times.{read_found, read_only, stamp_long}
use Rattle.ele_tool_words.proofs.time.read_zoned.Goals as goal

pub returns-in_err-local-clause-only : goal.returns-in_err-local-clause-only
returns-in_err-local-clause-only c = λ m fits h.
    let e = c.read_local.ensures.only h.local (stamp_moment _ h.local (zoned_local c.args.word.now m h)) in
    let none = c.in_err-local.was in
    absurd cc

pub returns-in_err-offset-clause-only : goal.returns-in_err-offset-clause-only
returns-in_err-offset-clause-only c = λ m fits h.
    let e = zoned_rest c.args.word.now m h in
    let none = c.in_err-offset.was in
    let is = c.read_rest.ensures in
    absurd cc

pub returns-clause-found : goal.returns-clause-found
returns-clause-found c =
    let cut = c.split_at.ensures in
    let is = c.read_rest.ensures in
    let was = c.in_ok-offset.was in
    let rest : rest_of (drop 19 c.args.word.now) ≡ Some c.in_ok-offset.offset = cc in
    read_found c.args.word.now _ _ c.moment_at.result
    (record { long = c.requires; twenty = stamp_long _ c.requires; mark = c.is_mark.ensures.0 c.if-not-is_mark.false; stamp = c.in_ok-local.ensures.found; rest = rest })
    c.moment_at.ensures.found

pub returns-clause-only : goal.returns-clause-only
returns-clause-only c = λ m fits h.
    let cut = c.split_at.ensures in
    let is = c.read_rest.ensures in
    let was = c.in_ok-offset.was in
    let rest : rest_of (drop 19 c.args.word.now) ≡ Some c.in_ok-offset.offset = cc in
    c.moment_at.ensures.only m fits (read_only c.args.word.now _ _ m c.in_ok-local.ensures.found rest (stamp_long _ c.requires) h)
