use Rattle.ele_files.proofs.Lemmas.{none_count, usage_counts}
use Rattle.ele_files.proofs.files.Files.usage_of.Goals as goal

pub returns : goal.returns
returns c =
    let h = c.args.self.now in
    let none = none_count c.args.file c.new-met.result.keys c.new-met.ensures.empty in
    usage_counts h.versions h.drafts c.args.file c.new-met.result.keys c.meet_versions.new.met.keys c.meet_draft.new.met.keys none c.in_ok-own.ensures.met c.in_ok-meet_draft.ensures c.in_ok-own.own.count c.in_ok-own.own.bytes c.len.result c.in_ok-own.ensures.count c.in_ok-own.ensures.bytes c.len.ensures.len
