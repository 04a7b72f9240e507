-- What the files of each kind use when a file gets another policy: what it uses moves from the one kind to the other.
use Rattle.ele_model.proofs.Basics.{nat_tests, ◌≡◌, ◌==◌, ℕ, ◌+◌, false, cond, List, length, Some, refl, arith, filter, find, length-filter, update_first, sum_by-update_first, sum_by-found}
use Rattle.ele_model.proofs.Words.{Kind, Policy, kind_of, is_kind, only_at, plus, IsWithin, SetFilePolicy, set_policy, after_change, FileRow, file_usage, is_of, is_file_of, HasParts, World, is_file, policy_of}
use Rattle.ele_model.specs.Usage.{usage_of}
use Rattle.ele_model.proofs.Elements.{find-updated}
use Rattle.ele_model.proofs.Files.{policy_of-put_other}
use Rattle.ele_model.proofs.Splits.{file_moves, passing_split}
use Rattle.ele_model.proofs.Usages.{only_at_is}

module _ (w : World) (file : ℕ) (was policy : Policy) (k : HasParts w) (filed : policy_of w.files file ≡ Some was) where
  abbrev files : List FileRow
  files = update_first (is_file file) (set_policy policy) w.files

  its : (row : FileRow) × (find (is_file file) w.files ≡ Some row) × (row.policy ≡ was)
  its = grind (arith, nat_tests)

  -- no other file is of another kind
  others_of : (kind : Kind) (id : ℕ) → (id == file) ≡ false → is_file_of files kind id ≡ is_file_of w.files kind id
  others_of kind id apart = grind (arith, policy_of-put_other w.files file id policy apart)

  files_move : (kind : Kind) → length (filter (is_of kind) files) + cond (is_kind kind (kind_of was)) 1 0 ≡ length (filter (is_of kind) w.files) + cond (is_kind kind (kind_of policy)) 1 0
  files_move kind = rw (length-filter (is_of kind) files, length-filter (is_of kind) w.files, ← its.2) (sum_by-update_first (λ (row : FileRow). cond (is_of kind row) 1 0) (is_file file) (set_policy policy) w.files its.0 its.1)

  pub policy_usage : (kind : Kind) → plus (usage_of (after_change w (SetFilePolicy file policy)) kind) (only_at (kind_of was) (file_usage w.versions w.drafts file) kind) ≡ plus (usage_of w kind) (only_at (kind_of policy) (file_usage w.versions w.drafts file) kind)
  unfolding usage_of
  policy_usage kind =
      let moves = file_moves file (is_file_of w.files kind) (is_file_of files kind) (others_of kind) w.versions w.versions w.drafts w.drafts refl refl in
      grind (arith, nat_tests, only_at_is, moves, filed, find-updated, files_move kind)

  -- that much is there
  pub file_within : IsWithin (file_usage w.versions w.drafts file) (usage_of w (kind_of was))
  unfolding usage_of
  file_within =
      let whole = passing_split file (is_file_of w.files (kind_of was)) w.versions w.drafts in
      grind (arith, nat_tests, whole, filed, its, length-filter, sum_by-found)
