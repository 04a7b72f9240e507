use Rattle.std.proofs.Common.{ap, ◌∙◌}
use Rattle.ele_storm.specs.Rounds.{file_of}
use Rattle.ele_storm.proofs.Works.{written}
use Rattle.ele_storm.proofs.worker.write.Goals as goal

pub returns-clause-ok : goal.returns-clause-ok
returns-clause-ok g c =
    written c.args.seat.now c.make.new.seat c.ask.new.seat c.make-2.new.seat c.make-3.new.seat c.args.writer c.args.round c.handle_in-handle.result c.in_ok-path.path c.in_ok-bytes.bytes c.in_ok-opened.opened
    (c.in_ok-path.ensures ∙ ap file_of c.from.ensures) c.in_ok-bytes.ensures
    c.handle_in-handle.ensures c.in_ok-make.ensures.ok c.in_ok-opened.ensures.ok c.in_ok-make-2.ensures.ok c.in_ok-make-3.ensures.ok
