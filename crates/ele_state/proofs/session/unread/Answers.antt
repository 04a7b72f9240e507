use Rattle.ele_state.proofs.Words.{◌≡◌, [], ◌∷◌, false, true, ap, arith, is_open, nat_tests, ◌∙◌, left_of, changed_at, ShutHandle}
use Rattle.ele_state.proofs.OpenedKeys.{read_on_queue, unread_queue}
use Rattle.ele_state.proofs.session.unread.Goals as goal

pub returns-then-not-is_open-clause-tracked : goal.returns-then-not-is_open-clause-tracked
returns-then-not-is_open-clause-tracked c =
    let rows = c.args.rows.now in
    let left : c.leave.new.self ≡ changed_at rows.files 0 (ShutHandle c.args.handle.now.row.number ∷ []) = c.leave.ensures ∙ ap (left_of rows.files c.args.handle.now.row.number) c.requires.reads in
    let shut : is_open c.leave.new.self.handles c.args.file c.args.number ≡ false = grind (arith, nat_tests, c.is_open.ensures, c.if-not-is_open.true) in
    rw left (record {
      queue = unread_queue rows c.args.handle.now.row.number c.args.file c.args.number c.requires.reads c.requires.sound c.put.new.queue (rw left at shut) (rw c.free_moment.ensures at c.in_ok-put.ensures.ok);
      book = c.requires.sound.tracked.book;
      bounds = c.requires.sound.tracked.bounds;
    })

pub returns-clause-tracked : goal.returns-clause-tracked
returns-clause-tracked c =
    let rows = c.args.rows.now in
    let left : c.leave.new.self ≡ changed_at rows.files 0 (ShutHandle c.args.handle.now.row.number ∷ []) = c.leave.ensures ∙ ap (left_of rows.files c.args.handle.now.row.number) c.requires.reads in
    let still : is_open c.leave.new.self.handles c.args.file c.args.number ≡ true = grind (arith, nat_tests, c.is_open.ensures, c.if-not-is_open.false) in
    rw left (record {
      queue = read_on_queue rows c.args.handle.now.row.number c.args.file c.args.number c.requires.reads c.requires.sound c.put.new.queue c.take.new.queue (rw left at still)
          (rw c.free_moment.ensures at c.in_ok-put.ensures.ok) (rw c.free_moment.ensures at c.take.ensures);
      book = c.requires.sound.tracked.book;
      bounds = c.requires.sound.tracked.bounds;
    })
