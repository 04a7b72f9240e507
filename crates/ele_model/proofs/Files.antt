-- The next number and the policy of a file, after changes of the file rows.
use Rattle.ele_model.proofs.Basics.{◌≡◌, ◌≢◌, ◌==◌, ℕ, ◌+◌, ◌<◌, ◌≤◌, false, List, [], ◌∷◌, ◌++◌, refl, arith, AllByRecursion, option_map, option_map_or, nat_tests, update_first, find-update_other, find-append, all-found, found_passes, all-weaker}
use Rattle.ele_model.proofs.Basics.{not_found}
use Rattle.ele_model.proofs.Words.{FileRow, Policy, numbered_on, set_policy, IsFile, is_file, next_of, policy_of}
use Rattle.ele_model.proofs.Elements.{find-update_still, find-updated}

-- a file that is there keeps its number when rows are added after it
pub next_of-push : (files : List FileRow) (row : FileRow) (file : ℕ) → 0 < next_of files file → next_of (files ++ row ∷ []) file ≡ next_of files file
next_of-push files row file h = grind (arith, nat_tests, find-append)

-- a file that is there has a number that was given
pub next_of-given : (given versions : ℕ) (files : List FileRow) (file : ℕ) → AllByRecursion (IsFile given versions) files → 0 < next_of files file → file ≤ given
next_of-given given versions files file all h = grind (arith, nat_tests, all-found, found_passes)

-- a number not given yet is no file's
pub next_of-new : (given versions : ℕ) (files : List FileRow) (row : FileRow) → AllByRecursion (IsFile given versions) files → given < row.id → next_of (files ++ row ∷ []) row.id ≡ row.next
next_of-new given versions files row all h = grind (arith, nat_tests, find-append, not_found, all-weaker)

-- the file's number rises
pub next_of-numbered_on : (files : List FileRow) (file : ℕ) → 0 < next_of files file → next_of (update_first (is_file file) numbered_on files) file ≡ next_of files file + 1
next_of-numbered_on files file h = grind (arith, nat_tests, find-updated)

-- and no other's
pub next_of-numbered_other : (files : List FileRow) (file other : ℕ) → other ≢ file → next_of (update_first (is_file file) numbered_on files) other ≡ next_of files other
next_of-numbered_other files file other ne = grind (arith, nat_tests, find-update_other)

-- so none falls
pub next_of-numbered_le : (files : List FileRow) (file other : ℕ) → next_of files other ≤ next_of (update_first (is_file file) numbered_on files) other
next_of-numbered_le files file other = grind (arith, nat_tests, next_of-numbered_on files file, next_of-numbered_other files file other)

-- a file that numbers on keeps its policy, and one that has another policy its number
pub policies-numbered : (files : List FileRow) (file id : ℕ) → policy_of (update_first (is_file file) numbered_on files) id ≡ policy_of files id
policies-numbered files file id = find-update_still (is_file file) (is_file id) (option_map (λ row. row.policy)) numbered_on files (λ row. refl) (λ row. refl)

pub next_of-set_policy : (files : List FileRow) (file id : ℕ) (policy : Policy) → next_of (update_first (is_file file) (set_policy policy) files) id ≡ next_of files id
next_of-set_policy files file id policy = find-update_still (is_file file) (is_file id) (λ o. option_map_or (λ row. row.next) o 0) (set_policy policy) files (λ row. refl) (λ row. refl)

-- each other file keeps its own
pub policy_of-put_other : (files : List FileRow) (file other : ℕ) (policy : Policy) → (other == file) ≡ false → policy_of (update_first (is_file file) (set_policy policy) files) other ≡ policy_of files other
policy_of-put_other files file other policy apart = grind (arith, nat_tests, option_map, find-update_other, is_file, set_policy)
