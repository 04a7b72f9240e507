use Rattle.std.specs.Prelude.{filter}
use Rattle.ele_audit.proofs.Basics.{arith, sym, ◌∙◌, ap}
use Rattle.ele_audit.proofs.Gathers.{adds_done, adds_more, adds_none}
use Rattle.ele_audit.specs.Story.{IsHeldNow}
use Rattle.ele_model.specs.FileView.{is_version_of}
use Rattle.ele_audit.proofs.stories.add_held.Goals as goal

pub loop-version-init : goal.loop-version-init
loop-version-init g c = adds_none (IsHeldNow (g.C.Step.world c.args.core.now)) (filter (is_version_of c.args.file) c.as_slice-versions.result.now) c.args.rows.now.items

pub loop-version-preserved : goal.loop-version-preserved
loop-version-preserved g c =
    adds_more (IsHeldNow (g.C.Step.world c.args.core.now)) (is_version_of c.args.file) (filter (is_version_of c.args.file) c.as_slice-versions.result.now) c.as_slice-versions.result.now c.loop-version.version-index c.version-item.result
    c.args.rows.now.items c.loop-version.rows.items c.in_ok-add_if_held.ensures.0 c.add_if_held.new.rows.items (omega arith) c.version-item.is c.in_ok-add_if_held.ensures.1 c.in_ok-add_if_held.ensures.2 c.loop-version.invariant

pub returns : goal.returns
returns g c =
    rw (sym (c.as_slice-versions.ensures ∙ ap (λ w. w.versions) c.requires)) (adds_done (IsHeldNow (g.C.Step.world c.args.core.now)) (is_version_of c.args.file) (filter (is_version_of c.args.file) c.as_slice-versions.result.now) c.as_slice-versions.result.now c.loop-version.version-index
    c.args.rows.now.items c.loop-version.rows.items c.loop-version-test.false c.loop-version.invariant)
