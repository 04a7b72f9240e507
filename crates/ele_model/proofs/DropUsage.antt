-- What the files of each kind use after the dropping of an idle file: as much as before, but for the file.
use Rattle.ele_model.proofs.Basics.{nat_tests, ◌≡◌, ◌==◌, ℕ, true, Some, refl, arith, filter-none, length-filter_removed}
use Rattle.ele_model.proofs.Words.{Kind, Policy, kind_of, Usage, only_at, plus, is_idle, without_file, is_of, is_file_of, World, is_file, policy_of, DraftRow, VersionRow}
use Rattle.ele_model.specs.Usage.{usage_of}
use Rattle.ele_model.proofs.Dropped.{idle_is, idle_versions, idle_drafts, policy_of-removed}
use Rattle.ele_model.proofs.Splits.{file_moves}
use Rattle.ele_model.proofs.Usages.{only_at_is}

-- a file, and nothing of it
abbrev pub one_file : Usage
one_file = record { files = 1; versions = 0; bytes = 0; blocks = 0 }

-- the file goes with all that it used, by its policy
pub dropped_at : (w : World) (file : ℕ) (policy : Policy) → policy_of w.files file ≡ Some policy → is_idle w file ≡ true → (k : Kind) → plus (usage_of (without_file w file) k) (only_at (kind_of policy) one_file k) ≡ usage_of w k
unfolding usage_of
dropped_at w file policy filed is k =
    let idle = idle_is w file is in
    let moves = file_moves file (is_file_of w.files k) (is_file_of (without_file w file).files k) (λ other apart. grind (arith, policy_of-removed w.files file other apart)) w.versions w.versions w.drafts w.drafts refl refl in
    grind (arith, nat_tests, only_at_is, filed, moves, length-filter_removed (is_of k) (is_file file) w.files, filter-none (λ (row : VersionRow). row.file == file) w.versions (idle_versions w file idle), filter-none (λ (row : DraftRow). row.file == file) w.drafts (idle_drafts w file idle))
