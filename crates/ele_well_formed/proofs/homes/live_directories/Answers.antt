use Rattle.ele_well_formed.proofs.Words.{filter_map, is_live_directory, list_any, live_directory, nat_cmp, ℕ, ◌==◌, ◌∙◌, ◌≡◌}
use Rattle.std.proofs.lemmas.Result.{IfOk-weaker}
use Rattle.std.specs.BTreeSet.{contains}
use Rattle.ele_well_formed.proofs.NumberSets.{live_directories_are}
use Rattle.ele_well_formed.proofs.homes.live_directories.Goals as goal

pub returns : goal.returns
returns c =
    let items : c.deref.result.now ≡ filter_map live_directory c.args.names.now = c.deref.ensures.value ∙ c.in_ok-ids.ensures in
    IfOk-weaker c.set_of.result (λ set. (q : ℕ) → contains nat_cmp set q ≡ list_any (λ n. n == q) c.deref.result.now) (λ set. (q : ℕ) → contains nat_cmp set q ≡ list_any (is_live_directory q) c.args.names.now) (λ set has q. (rw items at (has q)) ∙ live_directories_are c.args.names.now q) c.set_of.ensures
