-- The scan, one row after another.
use Rattle.ele_model.proofs.Basics.{nat_tests, arith, ◌≡◌, ℕ, ◌+◌, ◌<◌, ◌≤◌, Bool, true, false, cond, List, [], ◌∷◌, length, get_or, take, Option, Some, None}
use Rattle.ele_model.proofs.Basics.{refl, fold, filter, nat_le, option_and_then, filter_map, cons_option, take_more, filter_map-append, fold-append, insert_key, filter-both}
use Rattle.ele_model.proofs.Words.{Key, last_moment, Policy, candidates, IsLawful, VersionRow, FileView, file_view, cover_of, ripe_past, is_version_of, is_newer, closings, is_newer_of, IsDueFromRipe, in_order, key_cmp, key_of, World, is_live, is_open, policy_of}
use Rattle.ele_policy.specs.RipeCase.{ripe_by}
use Rattle.ele_model.specs.Due.{ripe_of}
use Rattle.ele_model.specs.Scan.{due_key}
use Rattle.ele_model.proofs.Readers.{numbers_are}
use Rattle.ele_model.specs.IgnoresNewer.{ignores_newer}
use Rattle.ele_policy.proofs.Earliest.{earliest_same}
use Rattle.ele_model.proofs.RipeMoments.{due_from_ripe_of, ripe_told}

-- ---- a row's ripe moment, and that it is due from then on

abbrev pub IsRipeOf : World → VersionRow → Option ℕ → Type 0
IsRipeOf w row ripe = (ripe ≡ ripe_of w row) × IsDueFromRipe w row

module _ (w : World) (row : VersionRow) where
  abbrev v : FileView
  v = file_view w row.file

  -- of one whose file is missing
  pub ripe-unfiled : policy_of w.files row.file ≡ None → IsRipeOf w row None
  unfolding ripe_of
  ripe-unfiled filed = grind (arith, filed, due_from_ripe_of w row)

  -- of one that a handle reads
  pub ripe-open : (policy : Policy) → policy_of w.files row.file ≡ Some policy → IsLawful policy → is_open w.handles row.file row.number ≡ true → IsRipeOf w row None
  unfolding ripe_of
  ripe-open policy filed given is = grind (arith, nat_tests, numbers_are w.handles row.file row.number, ripe_told v row, due_from_ripe_of w row)

  module _ (unread : is_open w.handles row.file row.number ≡ false) (policy : Policy) (filed : policy_of w.files row.file ≡ Some policy) (given : IsLawful policy) where
    -- of one that hasn't ended
    pub ripe-unended : row.ended ≡ None → IsRipeOf w row None
    unfolding ripe_of
    ripe-unended end = grind (arith, nat_tests, ripe_told v row, due_from_ripe_of w row)

    -- of one whose file and end are known
    pub ripe-told : (ended : ℕ) (ripe : Option ℕ) → row.ended ≡ Some ended
        → ripe ≡ ripe_by policy row.closed (record { newer = closings (filter (is_newer_of row.file row.number) w.versions); live = is_live w row.file }) ended
        → IsRipeOf w row (option_and_then (ripe_past (cover_of w.groups row.file row.closed row.ended)) ripe)
    unfolding ripe_of
    ripe-told ended ripe end is = grind (arith, nat_tests, is, filter-both (is_newer row) (is_version_of row.file) w.versions, ripe_told v row, numbers_are w.handles row.file row.number, due_from_ripe_of w row)

-- a policy that ignores newer versions decides the same beside any of them
pub looks_away_tells : (policy : Policy) (live : Bool) (closed ended : ℕ) (newer : List ℕ) → ignores_newer policy live ≡ true
    → ripe_by policy closed (record { newer = []; live = live }) ended ≡ ripe_by policy closed (record { newer = newer; live = live }) ended
unfolding ripe_by
looks_away_tells policy live closed ended newer away = earliest_same _ _ (λ at fits. grind (arith, nat_tests, away)) (candidates policy ended)

-- ---- and its key

pub due_key-is : (w : World) (row : VersionRow) (ripe : Option ℕ) → w.now ≤ last_moment → IsRipeOf w row ripe → due_key w row ≡ option_and_then (λ m. cond (nat_le m w.now) (Some (key_of row m)) None) ripe
unfolding due_key
due_key-is w row ripe fits is = grind (arith, nat_tests)

-- one more row
pub in_order_more : (h : VersionRow → Option Key) (xs : List VersionRow) (i : ℕ) (x : VersionRow) → i < length xs → x ≡ get_or xs i x → in_order (filter_map h (take (i + 1) xs)) ≡ fold (insert_key key_cmp) (in_order (filter_map h (take i xs))) (cons_option (h x) [])
in_order_more h xs i x lt is = rw (take_more xs i x lt, ← is, filter_map-append h (take i xs) (x ∷ []), fold-append (insert_key key_cmp) [] (filter_map h (take i xs)) (cons_option (h x) [])) refl
