use Rattle.ele_state.proofs.Words.{arith, origin, refl, sym, world_of}
use Rattle.ele_state.proofs.ClosedSums.{added_fits, version_fits}
use Rattle.ele_state.proofs.Grown.{grown_owed_by, grown_world}
use Rattle.ele_state.proofs.append.append.Goals as goal

pub add-requires : goal.add-requires
add-requires c = rw c.one_version.ensures (version_fits c.args.rows.now c.requires.booked c.requires.roomy c.in-Ok.made.length c.blocks-before.result (rw c.in-Ok.ensures.length c.requires.ready.short) c.blocks-before.ensures.value c.blocks-before.ensures.bound c.kind-kind.result)

pub charge_blocks-requires-clause-owed : goal.charge_blocks-requires-clause-owed
charge_blocks-requires-clause-owed c =
    let after = c.in-Ok.ensures.ok (world_of c.args.rows.now) refl (sym c.is_live-is_live.ensures) in
    rw c.kind-kind.ensures (grown_owed_by c.args.rows.now c.args.file c.requires.booked (origin c.args.source c.args.bytes.now) c.put_version-put.new.files c.add.new.self c.in-Ok.made.length c.blocks-before.result c.args.head.now.policy c.requires.stands.policy
    after c.in-Ok.ensures.length c.blocks-before.ensures.value (rw (c.kind-kind.ensures, c.one_version.ensures) at c.add.ensures.each))

pub charge_blocks-requires-clause-fits : goal.charge_blocks-requires-clause-fits
charge_blocks-requires-clause-fits c = added_fits c.args.rows.now c.kind-kind.result c.add.new.self c.in-Ok.made.length c.requires.roomy (rw c.in-Ok.ensures.length c.requires.ready.short) (rw c.one_version.ensures at c.add.ensures.each)

pub returns-clause-ok : goal.returns-clause-ok
returns-clause-ok c = grown_world c.args.rows.now c.args.file (origin c.args.source c.args.bytes.now) c.put_version-put.new.files (c.in-Ok.ensures.ok (world_of c.args.rows.now) refl (sym c.is_live-is_live.ensures))

pub overflow_add-rows : goal.overflow_add-rows
overflow_add-rows c = omega (arith, c.requires.roomy.versions)
