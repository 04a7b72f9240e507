use Rattle.ele_files.proofs.Words.{File}
use Rattle.ele_files.proofs.Begun.{begun}
use Rattle.ele_files.proofs.files.made.MadeFiles.begin.Goals as goal

pub invariant_of-result : goal.invariant_of-result
invariant_of-result c =
    let file : File = record { id = c.args.row.now.id; policy = c.args.row.now.policy; next = c.args.row.now.next; log = c.new.result } in
    begun c.self.inside.store c.self.inside.files.items c.self.inside.drafts c.self.invariant file c.new.ensures c.requires.next (rw (← c.self.view_is) at c.requires.rises) c.places.ensures c.new-2.result c.new-2.ensures
