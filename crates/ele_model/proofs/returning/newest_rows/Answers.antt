use Rattle.ele_model.proofs.Basics.{ap, sym, ◌∙◌, insert_entry}
use Rattle.ele_model.proofs.Words.{name_cmp}
use Rattle.ele_model.proofs.Newest.{newest_more}
use Rattle.ele_model.proofs.returning.newest_rows.Goals as goal

pub loop-row-preserved : goal.loop-row-preserved
loop-row-preserved c =
    c.in_ok-_older.ensures.entries
    ∙ ap (λ es. insert_entry name_cmp es (c.row-item.result.directory, c.row-item.result.name) c.row-item.result) c.loop-row.invariant
    ∙ sym (newest_more c.args.rows.now c.loop-row.row-index c.row-item.result c.loop-row-test.true c.row-item.is)
