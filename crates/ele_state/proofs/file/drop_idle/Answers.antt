use Rattle.ele_state.proofs.Words.{arith, ◌≡◌, true, sym, ◌∙◌, world_of, is_idle}
use Rattle.ele_state.proofs.DroppedFiles.{dropped_book, dropped_queue}
use Rattle.ele_state.proofs.file.drop_idle.Goals as goal

pub returns-clause-tracked : goal.returns-clause-tracked
returns-clause-tracked c =
    let rows = c.args.rows.now in
    let idle : is_idle (world_of rows) c.args.file ≡ true = grind (arith, c.is_live.ensures, c.if-is_live.false, c.is_bare.ensures, c.if-not-is_bare.false) in
    rw (c.drop_file.ensures, c.drop_file-2.ensures, c.forget_file.ensures) (record {
      queue = dropped_queue rows c.args.file c.requires idle;
      book = dropped_book rows c.args.file c.in-Some.policy c.requires (sym c.policy_of.ensures ∙ c.in-Some.is) idle c.sub.new.self (rw (← c.kind.ensures) c.sub.ensures.each);
      bounds = c.requires.tracked.bounds;
    })
