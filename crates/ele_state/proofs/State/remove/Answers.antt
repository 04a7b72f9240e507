use Rattle.ele_state.proofs.Words.{is_version_of, list_any, sym, true, CleanOne, Take, after_change, arith, first_is_due, nat_tests, placed_of, refl, with_rows, world_of, ◌≡◌}
use Rattle.ele_state.proofs.Booked.{few}
use Rattle.ele_state.proofs.Removed.{held_stays, removed_bytes, removed_keeps, removed_owed, removed_queue, removed_step, removed_within}
use Rattle.ele_state.proofs.SoundAfter.{stepped}
use Rattle.ele_state.proofs.State.remove.Goals as goal

pub unreachable-requires : goal.unreachable-requires
unreachable-requires c =
    let w = world_of c.self.inside.rows in
    let first = first_is_due w c.args.key.now (placed_of w c.self.invariant.sound.formed) (rw (← c.self.view_is) at c.requires.first) in
    let none = rw first.found at c.in_default.ensures.bytes in
    cc

pub sub-requires : goal.sub-requires
sub-requires c =
    let w = world_of c.self.inside.rows in
    let first = first_is_due w c.args.key.now (placed_of w c.self.invariant.sound.formed) (rw (← c.self.view_is) at c.requires.first) in
    let bytes = removed_bytes w c.args.key.now first c.in-Some.removed.bytes c.in-Some.ensures.bytes in
    rw (c.one_version.ensures, bytes) (removed_within c.self.inside.rows c.args.key.now.file c.args.key.now.number c.in-Some.removed.kind first.row c.remove_version.new.self c.self.invariant.sound first.found c.remove_version.ensures.rows c.in-Some.ensures.kind)

pub charge_blocks-requires-clause-owed : goal.charge_blocks-requires-clause-owed
charge_blocks-requires-clause-owed c =
    let w = world_of c.self.inside.rows in
    let first = first_is_due w c.args.key.now (placed_of w c.self.invariant.sound.formed) (rw (← c.self.view_is) at c.requires.first) in
    let bytes = removed_bytes w c.args.key.now first c.in-Some.removed.bytes c.in-Some.ensures.bytes in
    removed_owed c.self.inside.rows c.args.key.now.file c.args.key.now.number c.in-Some.removed.kind first.row c.remove_version.new.self c.self.invariant.sound first.found c.remove_version.ensures.rows c.in-Some.ensures.kind c.blocks-before.result c.sub.new.self c.blocks-before.ensures.value (rw (c.one_version.ensures, bytes) at c.sub.ensures.each)

pub charge_blocks-requires-clause-fits : goal.charge_blocks-requires-clause-fits
charge_blocks-requires-clause-fits c = λ k. grind (arith, nat_tests, few c.self.inside.rows c.self.invariant.sound k, c.sub.ensures.each k)

pub drop_idle-requires : goal.drop_idle-requires
drop_idle-requires c = record {
  formed = removed_keeps c.self.inside.rows c.args.key.now _ c.self.invariant.sound (rw (← c.self.view_is) at c.requires.first) (rw c.remove_version.ensures.rows refl);
  tracked = record {
    queue = rw c.remove_version.ensures.rows (removed_queue c.self.inside.rows c.args.key.now c.take.new.queue c.self.invariant.sound (rw (← c.self.view_is) at c.requires.first) c.take.ensures);
    book = c.charge_blocks.ensures;
    bounds = c.self.invariant.sound.tracked.bounds;
  };
}

pub invariant_of-self : goal.invariant_of-self
invariant_of-self c =
    let w = world_of c.self.inside.rows in
    let taken : with_rows w c.remove_version.new.self ≡ after_change w (Take c.args.key.now.file c.args.key.now.number) = rw c.remove_version.ensures.rows refl in
    stepped c.self.inside.rows _ c.self.view_is c.self.invariant CleanOne tt c.drop_idle.new.rows (removed_step c.self.inside.rows c.args.key.now _ (world_of c.drop_idle.new.rows) (rw (← c.self.view_is) at c.requires.first) taken c.drop_idle.ensures.world) c.drop_idle.ensures.tracked

pub invariant_of-self-else-removed : goal.invariant_of-self-else-removed
invariant_of-self-else-removed c =
    let w = world_of c.self.inside.rows in
    let taken : with_rows w c.remove_version.new.self ≡ after_change w (Take c.args.key.now.file c.args.key.now.number) = rw c.remove_version.ensures.rows refl in
    let held : list_any (is_version_of c.args.key.now.file) c.remove_version.new.self.versions ≡ true = grind (arith, nat_tests, c.in-Some.ensures.last) in
    let stays = held_stays (with_rows w c.remove_version.new.self) c.args.key.now.file held in
    stepped c.self.inside.rows _ c.self.view_is c.self.invariant CleanOne tt _ (removed_step c.self.inside.rows c.args.key.now _ _ (rw (← c.self.view_is) at c.requires.first) taken (sym stays)) (record {
      queue = rw c.remove_version.ensures.rows (removed_queue c.self.inside.rows c.args.key.now c.take.new.queue c.self.invariant.sound (rw (← c.self.view_is) at c.requires.first) c.take.ensures);
      book = c.charge_blocks.ensures;
      bounds = c.self.invariant.sound.tracked.bounds;
    })
