-- A clean event takes the row of the first key, and that key.
use Rattle.ele_state.proofs.Words.{Option, is_version_of, list_any, DropIdle, ap, refl, step, nat_tests, ◌≡◌, ℕ, ◌+◌, Bool, true, List, length, Some, None, sym, subst, ◌∙◌, arith, find, option_map, content_of, world_of, IsSound, IsQueued, IsRekeyed, held_world, blocks_of, one_version, of_file, IsOwed, Rows, Key, Held, without, remove_first, length-remove_first, Kind, Book, sums_of, plus, IsWithin, VersionRow, first_due, Take, after_change, HasParts, CleanOne, is_file_of, bytes_in, usage_of, ChangesOnly, World, is_version, takes, event_keeps, IsDueKey, sum_by-remove_first, usage_changes, changes_removed, IsOwedBy, Policy, Usage, kind_of, only_at, policy_of}
use Rattle.ele_state.proofs.Booked.{owed, owed_by, of_kind, same_kind, and_none, size, bytes_are}
use Rattle.ele_state.proofs.Following.{entry_follows}
use Rattle.ele_model.proofs.CleanKeepsKeys.{take_keeps_keys}

-- the queue without the first key
pub removed_queue : (rows : Rows) (key : Key) (queue : List Key) → IsSound rows → first_due (world_of rows) ≡ Some key → IsRekeyed key.file key.number (Some key.ripe) None rows.queue queue
    → IsQueued (record (world_of rows) { versions = remove_first (is_version key.file key.number) rows.files.versions }) queue
removed_queue rows key queue sound first taken =
    let w = world_of rows in
    let one = take_keeps_keys w key sound.formed first in
    entry_follows w (after_change w (Take key.file key.number)) rows.queue queue sound.tracked.queue key.file key.number one.others (rw (one.was, one.gone) taken)

-- a well-formed world stays so
pub removed_keeps : (rows : Rows) (key : Key) (v : World) → IsSound rows → first_due (world_of rows) ≡ Some key → v ≡ after_change (world_of rows) (Take key.file key.number) → HasParts v
removed_keeps rows key v sound first is = let w = world_of rows in subst HasParts (sym is) (event_keeps CleanOne w w (Take key.file key.number) tt (takes w key sound.formed first) sound.formed)

-- and with the drop of a file without anything else the clean event is done
pub removed_step : (rows : Rows) (key : Key) (between v : World) → first_due (world_of rows) ≡ Some key → between ≡ after_change (world_of rows) (Take key.file key.number) → v ≡ after_change between (DropIdle key.file) → v ≡ (step (world_of rows) CleanOne).1
removed_step rows key between v first taken dropped = dropped ∙ ap (λ (u : World). after_change u (DropIdle key.file)) taken ∙ rw first refl

-- ---- the book

bytes-removed : (p : VersionRow → Bool) (xs : List VersionRow) (row : VersionRow) → find p xs ≡ Some row → bytes_in (remove_first p xs) + length (content_of row.cells) ≡ bytes_in xs
bytes-removed p xs row e = omega (arith, bytes_are (remove_first p xs), bytes_are xs, sum_by-remove_first size p xs row e)

-- the file has a policy of that kind
record IsKindOf (h : Held) (file : ℕ) (kind : Kind) : Type 0 where
  pub policy : Policy
  pub filed : policy_of h.files file ≡ Some policy
  pub kind_is : kind_of policy ≡ kind

-- what the version that goes leaves of what its kind uses
module _ (rows : Rows) (file number : ℕ) (kind : Kind) (row : VersionRow) (now : Held) (sound : IsSound rows) (found : find (is_version file number) rows.files.versions ≡ Some row) (after : now ≡ without rows.files file number) (its : option_map kind_of (policy_of rows.files.files file) ≡ Some kind) where
  abbrev w : World
  w = held_world rows.files

  abbrev used : Usage
  used = one_version (length (content_of row.cells))

  its_policy : IsKindOf now file kind
  its_policy = by (policy_of rows.files.files file) refl its where
    by : (o : Option Policy) → policy_of rows.files.files file ≡ o → option_map kind_of o ≡ Some kind → IsKindOf now file kind
    by None is h = absurd cc
    by (Some policy) is h = let same : kind_of policy ≡ kind = cc in record { policy = policy; filed = rw after is; kind_is = same }

  -- what is only at the kind is the file's
  its_own : (k : Kind) → of_file now file used k ≡ only_at kind used k
  its_own k = sym (of_kind now file its_policy.policy used k its_policy.filed) ∙ ap (λ (a : Kind). only_at a used k) its_policy.kind_is

  -- it is in what its kind uses
  pub removed_within : IsWithin used (sums_of rows.book kind)
  removed_within =
      let of : is_file_of now.files kind file ≡ true = rw (its_policy.filed, its_policy.kind_is) (same_kind kind) in
      grind (arith, nat_tests, usage_changes file w (held_world (without rows.files file number)) (changes_removed file number w) kind, length-remove_first (is_version file number) rows.files.versions row found, bytes-removed (is_version file number) rows.files.versions row found, sound.tracked.book kind)

  -- and the blocks are owed
  pub removed_owed : (before : ℕ) (book : Book) → before ≡ blocks_of rows.files → ((k : Kind) → plus (sums_of book k) (only_at kind used k) ≡ sums_of rows.book k) → IsOwedBy now book kind before
  removed_owed before book is taken =
      subst (λ (k : Kind). IsOwedBy now book k before) its_policy.kind_is (owed_by now book file before its_policy.policy its_policy.filed (subst (IsOwed now book file) (sym is)
      (owed file rows.files now book 0 0 1 (length (content_of row.cells))
      (subst (λ (h : Held). ChangesOnly file w (held_world h)) (sym after) (changes_removed file number w))
      (rw after (omega (arith, length-remove_first (is_version file number) rows.files.versions row found)))
      (rw after (omega (arith, bytes-removed (is_version file number) rows.files.versions row found)))
      (λ k. ap (plus (sums_of book k)) (its_own k) ∙ taken k ∙ sound.tracked.book k ∙ sym (and_none (usage_of w k) (is_file_of now.files k file))))))

-- how many bytes it had
pub removed_bytes : (w : World) (key : Key) (first : IsDueKey w key) (bytes : ℕ) → Some bytes ≡ option_map (λ (row : VersionRow). length (content_of row.cells)) (find (is_version key.file key.number) w.versions) → bytes ≡ length (content_of first.row.cells)
removed_bytes w key first bytes e = let e' = rw first.found at e in cc

-- ---- the file stays while a version of it is held

pub held_stays : (w : World) (file : ℕ) → list_any (is_version_of file) w.versions ≡ true → after_change w (DropIdle file) ≡ w
held_stays w file held = grind (arith, nat_tests, held)
