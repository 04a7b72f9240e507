use Rattle.std.proofs.Common.{◌≡◌, ◌≤◌, Some, None, length, drop, arith}
use Rattle.std.proofs.lemmas.Bool.Decides.{nat_tests}
use Rattle.ele_tool_words.specs.ReadParts.{rest_of}
use Rattle.ele_tool_words.proofs.Clocks.{long_clock, some_clock}
use Rattle.ele_tool_words.proofs.clock.read_clock.Goals as goal

pub returns-in-Some : goal.returns-in-Some
returns-in-Some c = λ m h.
    let cut = c.split_at.ensures in
    let is = c.in-Some.ensures in
    let long : 19 ≤ length c.args.word.now = grind (arith, nat_tests) in
    let rest : rest_of (drop 19 c.args.word.now) ≡ Some c.in-Some.offset = cc in
    long_clock c.args.word.now m c.in-Some.offset long rest h

pub returns-in-None : goal.returns-in-None
returns-in-None c = λ m h.
    let cut = c.split_at.ensures in
    let is = c.in-None.ensures in
    let long : 19 ≤ length c.args.word.now = grind (arith, nat_tests) in
    let rest : rest_of (drop 19 c.args.word.now) ≡ None = cc in
    some_clock c.args.word.now m long rest h
