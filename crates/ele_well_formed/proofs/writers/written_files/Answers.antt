use Rattle.ele_well_formed.proofs.Words.{HandleRow, file_written, filter_map, is_writer, list_any, nat_cmp, ℕ, ◌==◌, ◌∙◌, ◌≡◌}
use Rattle.std.proofs.lemmas.Result.{IfOk-weaker}
use Rattle.std.specs.BTreeSet.{contains}
use Rattle.ele_well_formed.proofs.NumberSets.{written_files_are}
use Rattle.ele_well_formed.proofs.writers.written_files.Goals as goal

pub returns : goal.returns
returns c =
    let items : c.deref.result.now ≡ filter_map (λ (row : HandleRow). file_written row.reads) c.args.handles.now = c.deref.ensures.value ∙ c.in_ok-ids.ensures in
    IfOk-weaker c.set_of.result (λ set. (q : ℕ) → contains nat_cmp set q ≡ list_any (λ n. n == q) c.deref.result.now) (λ set. (q : ℕ) → contains nat_cmp set q ≡ list_any (is_writer q) c.args.handles.now) (λ set has q. (rw items at (has q)) ∙ written_files_are c.args.handles.now q) c.set_of.ensures
