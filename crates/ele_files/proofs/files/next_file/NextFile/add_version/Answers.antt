use Rattle.ele_files.proofs.Words.{LogRow, Precedes, all_last}
use Rattle.ele_files.proofs.Making.{all_precede, version_grows, version_seen}
use Rattle.ele_files.specs.Adding.{logged}
use Rattle.ele_files.proofs.files.next_file.NextFile.add_version.Goals as goal

pub push-requires-clause-last : goal.push-requires-clause-last
push-requires-clause-last c = λ last is.
    all_last (λ (r : LogRow). Precedes r (logged c.args.row.now c.in_ok-map.map)) c.self.inside.file.log.rows last is
    (all_precede c.self.inside.store c.self.inside.placed c.self.inside.files.items c.self.inside.file c.self.inside.drafts c.self.invariant c.args.row.now (rw (← c.self.view_is) at c.requires) c.in_ok-map.map)

pub invariant_of-result : goal.invariant_of-result
invariant_of-result c =
    version_grows c.self.inside.store c.self.inside.placed c.self.inside.files.items c.self.inside.file c.self.inside.drafts c.self.invariant c.args.row.now (rw (← c.self.view_is) at c.requires) c.in_ok-map.map c.new_map.new.store _ (rw c.as_slice.ensures at c.in_ok-map.ensures) c.add.new.self c.in_ok-add.ensures c.push.new.self c.in_ok-push.ensures

pub returns : goal.returns
returns c =
    rw (← c.self.view_is) (version_seen c.self.inside.store c.self.inside.placed c.self.inside.files.items c.self.inside.file c.self.inside.drafts c.self.invariant c.args.row.now (rw (← c.self.view_is) at c.requires) c.in_ok-map.map c.new_map.new.store _ (rw c.as_slice.ensures at c.in_ok-map.ensures) c.add.new.self c.in_ok-add.ensures c.push.new.self c.in_ok-push.ensures)
