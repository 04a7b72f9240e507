use Rattle.ele_files.proofs.Words.{ap, take_all, ◌∙◌}
use Rattle.ele_files.proofs.Added.{no_versions, version_next, versions_more}
use Rattle.ele_files.specs.Adding.{with_versions}
use Rattle.ele_files.proofs.files.next_file.NextFile.add_versions.Goals as goal

pub loop-row-init : goal.loop-row-init
loop-row-init c = record { added = no_versions c.args.self; left = c.requires }

pub add_version-requires : goal.add_version-requires
add_version-requires c = (version_next c.args.self c.loop-row.next c.args.rows.now c.loop-row.row-index c.row-item.result c.loop-row-test.true c.row-item.is c.loop-row.invariant.left).0

pub loop-row-preserved : goal.loop-row-preserved
loop-row-preserved c =
    rw c.in_ok-next.ensures (record {
      added = versions_more c.args.self c.loop-row.next c.args.rows.now c.loop-row.row-index c.row-item.result c.loop-row-test.true c.row-item.is c.loop-row.invariant.added;
      left = (version_next c.args.self c.loop-row.next c.args.rows.now c.loop-row.row-index c.row-item.result c.loop-row-test.true c.row-item.is c.loop-row.invariant.left).1;
    })

pub returns : goal.returns
returns c = c.loop-row.invariant.added ∙ ap (with_versions c.args.self) (take_all c.loop-row.row-index c.args.rows.now c.loop-row-test.false)
