use Rattle.ele_files.proofs.Flat.{all_made, is_next, left_behind, more_made}
use Rattle.ele_files.proofs.files.flat.make_files.Goals as goal

pub add_file-requires : goal.add_file-requires
add_file-requires c =
    rw (c.own_versions-closed.ensures.count, c.own_drafts-unsaved.ensures.count, left_behind c.loop-file.version c.args.versions.now, left_behind c.loop-file.draft c.args.drafts.now) (is_next c.args.files.now c.args.versions.now c.args.drafts.now c.requires c.loop-file.file-index c.loop-file.version c.loop-file.draft c.loop-file.made c.loop-file.invariant c.file-item.result c.loop-file-test.true c.file-item.is)

pub loop-file-preserved : goal.loop-file-preserved
loop-file-preserved c =
    rw (c.in_ok-made.ensures, c.own_versions-closed.ensures.count, c.own_drafts-unsaved.ensures.count, left_behind c.loop-file.version c.args.versions.now, left_behind c.loop-file.draft c.args.drafts.now) (more_made c.args.files.now c.args.versions.now c.args.drafts.now c.requires c.loop-file.file-index c.loop-file.version c.loop-file.draft c.loop-file.made c.loop-file.invariant c.file-item.result c.loop-file-test.true c.file-item.is)

pub returns : goal.returns
returns c = all_made c.args.files.now c.args.versions.now c.args.drafts.now c.requires c.loop-file.file-index c.loop-file.version c.loop-file.draft c.loop-file.made c.loop-file.invariant c.loop-file-test.false
