use Rattle.ele_files.proofs.Lemmas.{LogRow, Precedes, all_last, all_precede, refl}
use Rattle.ele_files.proofs.file.File.append.Goals as goal

pub append-requires-clause-last : goal.append-requires-clause-last
append-requires-clause-last c last is =
    let new : LogRow = record { number = c.end_before.new.self.next; opened = c.args.opened; closed = c.args.now; ended = c.if-is_live.ended; cells = c.args.cells } in
    all_last (λ row. Precedes row new) c.end_before.new.self.log.rows last is (rw c.end_before.ensures.ended.rows (all_precede c.args.self.now.next c.args.now new c.end_before.ensures.ended.next refl c.args.self.now.log.rows c.requires.kept.order.order c.requires.kept.rows c.requires.past))
