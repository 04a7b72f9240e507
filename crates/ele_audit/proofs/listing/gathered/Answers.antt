use Rattle.ele_audit.proofs.Basics.{arith, ◌∙◌, ap, subst, List}
use Rattle.ele_audit.proofs.Gathers.{each_done, each_more, gathers_new}
use Rattle.std.specs.List.{AllZip}
use Rattle.ele_audit.specs.Open.{IsOpen}
use Rattle.ele_model.specs.declared.rows.HandleRow.{HandleRow}
use Rattle.ele_audit.proofs.listing.gathered.Goals as goal

pub loop-row-init : goal.loop-row-init
loop-row-init g c = gathers_new (IsOpen c.args.history.now) c.handles-rows.result.now c.new-handles.result.items c.new-handles.ensures.items

pub loop-row-preserved : goal.loop-row-preserved
loop-row-preserved g c =
    each_more (IsOpen c.args.history.now) c.handles-rows.result.now c.loop-row.row-index c.row-item.result c.loop-row.handles.items c.push.new.self.items c.in_ok-handle.handle (omega arith) c.row-item.is c.in_ok-handle.ensures c.in_ok-push.ensures.items c.loop-row.invariant

pub returns : goal.returns
returns g c =
    let rows = c.handles-rows.ensures ∙ ap (λ w. w.handles) c.core-2.ensures in
    subst (λ (rows : List HandleRow). AllZip (IsOpen c.args.history.now) rows c.loop-row.handles.items) rows (each_done (IsOpen c.args.history.now) c.handles-rows.result.now c.loop-row.row-index c.loop-row.handles.items c.loop-row-test.false c.loop-row.invariant)
