use Rattle.ele_well_formed.proofs.Words.{endless, filter_map, is_endless, list_any, nat_cmp, ℕ, ◌==◌, ◌∙◌, ◌≡◌}
use Rattle.std.proofs.lemmas.Result.{IfOk-weaker}
use Rattle.std.specs.BTreeSet.{contains}
use Rattle.ele_well_formed.proofs.NumberSets.{endless_files_are}
use Rattle.ele_well_formed.proofs.lives.endless_files.Goals as goal

pub returns : goal.returns
returns c =
    let items : c.deref.result.now ≡ filter_map endless c.args.versions.now = c.deref.ensures.value ∙ c.in_ok-ids.ensures in
    IfOk-weaker c.set_of.result (λ set. (q : ℕ) → contains nat_cmp set q ≡ list_any (λ n. n == q) c.deref.result.now) (λ set. (q : ℕ) → contains nat_cmp set q ≡ list_any (is_endless q) c.args.versions.now) (λ set has q. (rw items at (has q)) ∙ endless_files_are c.args.versions.now q) c.set_of.ensures
