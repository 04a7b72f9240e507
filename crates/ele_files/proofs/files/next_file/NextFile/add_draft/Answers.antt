use Rattle.ele_files.proofs.Making.{draft_grows, draft_seen}
use Rattle.ele_files.proofs.files.next_file.NextFile.add_draft.Goals as goal

pub invariant_of-result : goal.invariant_of-result
invariant_of-result c =
    rw c.in_ok-push.ensures.ok (draft_grows c.self.inside.store c.self.inside.placed c.self.inside.files.items c.self.inside.file c.self.inside.drafts c.self.invariant c.args.row.now (rw (← c.self.view_is) at c.requires) c.in_ok-map.map c.new_map.new.store _ (rw c.as_slice.ensures at c.in_ok-map.ensures) c.add.new.self c.in_ok-add.ensures)

pub returns : goal.returns
returns c =
    rw (← c.self.view_is, c.in_ok-push.ensures.ok) (draft_seen c.self.inside.store c.self.inside.placed c.self.inside.files.items c.self.inside.file c.self.inside.drafts c.self.invariant c.args.row.now (rw (← c.self.view_is) at c.requires) c.in_ok-map.map c.new_map.new.store _ (rw c.as_slice.ensures at c.in_ok-map.ensures) c.add.new.self c.in_ok-add.ensures)
