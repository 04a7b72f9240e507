-- What a file's next version leaves, for any source of its content.
use Rattle.ele_state.proofs.Words.{IsBooked, NoMemory, OnErr, OnOk, Result, Ok, Err, subst, sym, true, false, [], ◌≡◌, ℕ, ◌+◌, ◌<◌, ◌||◌, List, arith, refl, ◌∙◌, ap, Book, coming, Held, IsOwed, IsOwedBy, IsQueued, Kind, Policy, Some, kind_of, one_version, only_at, placed_of, plus, policy_of, sums_of, IsReady, IsRoomy, IsSound, IsSource, IsTracked, Key, MayGrow, Rows, Origin, World, after_changes, appending, blocks_of, cells_of_draft, cells_of_version, content_of, has_key, is_draft, comes, length, may_grow, next_of, next_version, remove_first, rows_after, source_cells, with_rows, world_of, drafts-removed}
use Rattle.ele_state.proofs.Appended.{appended_queue, none_there}
use Rattle.ele_state.proofs.Booked.{few, of_kind, owed_by}
use Rattle.ele_state.proofs.Bounded.{rows_few, versions_few}
use Rattle.ele_state.proofs.ClosedSteps.{finished_queue, numbered, past}
use Rattle.ele_state.proofs.ClosedSums.{HasAdded, source_short, version_owed}
use Rattle.ele_model.proofs.Files.{policies-numbered}
use Rattle.ele_model.specs.World.{is_handle}
use Rattle.ele_state.specs.Source.{Bytes, Draft, Version}

-- ---- what a sound state has

pub roomy : (rows : Rows) → IsSound rows → IsRoomy rows.made.versions rows.book
roomy rows sound = record { versions = grind (arith, versions_few rows sound); sums = few rows sound }

pub ready : (rows : Rows) (file : ℕ) (source : Origin) → IsSound rows → IsSource rows.files file source → IsReady rows.files rows.moment file source
ready rows file source sound is = record { is = is; few = omega (arith, rows_few rows sound); numbered = numbered rows sound; past = past rows sound; short = source_short rows sound file source is; placed = placed_of (world_of rows) sound.formed }

-- ---- what follows

module _ (rows : Rows) (file : ℕ) where
  abbrev w : World
  w = world_of rows

  abbrev h : Held
  h = rows.files

  grown_owed : IsBooked h rows.book → (source : Origin) (after : Held) (book : Book) (bytes before : ℕ) → after ≡ rows_after w h (appending h rows.moment file source) → bytes ≡ length (content_of (source_cells h file source)) → before ≡ blocks_of h → HasAdded after file rows.book book bytes → IsOwed after book file before
  grown_owed booked (Draft handle opened) = version_owed rows file (next_version w file opened (cells_of_draft h file)) (remove_first (is_draft file) h.drafts) (remove_first (is_handle handle.row.number) h.handles) refl (drafts-removed file h.drafts) booked
  grown_owed booked (Version number) = version_owed rows file (next_version w file rows.moment (cells_of_version h file number)) h.drafts h.handles refl refl booked
  grown_owed booked (Bytes bytes) = version_owed rows file (next_version w file rows.moment (source_cells h file (Bytes bytes))) h.drafts h.handles refl refl booked

  grown_policy : (source : Origin) (after : Held) → after ≡ rows_after w h (appending h rows.moment file source) → policy_of after.files file ≡ policy_of h.files file
  grown_policy (Draft handle opened) after is = rw is (policies-numbered h.files file file)
  grown_policy (Version number) after is = rw is (policies-numbered h.files file file)
  grown_policy (Bytes bytes) after is = rw is (policies-numbered h.files file file)

  -- so it is to the kind of its policy, once that has the version
  pub grown_owed_by : IsBooked h rows.book → (source : Origin) (after : Held) (book : Book) (bytes before : ℕ) (policy : Policy) → policy_of h.files file ≡ Some policy → after ≡ rows_after w h (appending h rows.moment file source) → bytes ≡ length (content_of (source_cells h file source)) → before ≡ blocks_of h
      → ((k : Kind) → sums_of book k ≡ plus (sums_of rows.book k) (only_at (kind_of policy) (one_version bytes) k)) → IsOwedBy after book (kind_of policy) before
  grown_owed_by booked source after book bytes before policy of is long same added =
      let own = grown_policy source after is ∙ of in
      owed_by after book file before policy own (grown_owed booked source after book bytes before is long same (λ k. added k ∙ ap (plus (sums_of rows.book k)) (of_kind after file policy (one_version bytes) k own)))

  -- the world with the files that have it, once it is counted
  pub grown_world : (source : Origin) (after : Held) → after ≡ rows_after w h (appending h rows.moment file source) → with_rows (record w { made = record w.made { versions = w.made.versions + 1 } }) after ≡ after_changes w (appending h rows.moment file source)
  grown_world (Draft handle opened) after is = rw is refl
  grown_world (Version number) after is = rw is refl
  grown_world (Bytes bytes) after is = rw is refl

-- ---- if a sound state's file has it

module _ (rows : Rows) (file : ℕ) (sound : IsSound rows) (there : 0 < next_of rows.files.files file) (policy : Policy) (filed : policy_of rows.files.files file ≡ Some policy) where
  abbrev grows : MayGrow (world_of rows) file
  grows = may_grow (world_of rows) file sound.formed there

  -- none of the added keys was there
  pub none_new : (j : Key) → comes (coming rows policy file false) j ≡ true → has_key j rows.queue ≡ false
  none_new j is = sound.tracked.queue j ∙ none_there (world_of rows) file 0 [] grows policy filed false refl j is

  grown_queue : (source : Origin) → IsSource rows.files file source → (after : List Key) → ((j : Key) → has_key j after ≡ (comes (coming rows policy file false) j || has_key j rows.queue)) → IsQueued (after_changes (world_of rows) (appending rows.files rows.moment file source)) after
  grown_queue (Draft handle opened) is after = finished_queue (world_of rows) handle.row.number file is.reads opened is.changed sound.formed policy filed rows.queue after sound.tracked.queue
  grown_queue (Version number) is after = appended_queue (world_of rows) file rows.moment (cells_of_version rows.files file number) grows policy filed false refl rows.queue after sound.tracked.queue
  grown_queue (Bytes bytes) is after = appended_queue (world_of rows) file rows.moment (source_cells rows.files file (Bytes bytes)) grows policy filed false refl rows.queue after sound.tracked.queue

  -- and once all has followed, or been refused, it is tracked
  pub grown_tracked : (source : Origin) → IsSource rows.files file source → (now : Rows) (result : Result ℕ NoMemory) → OnOk result (world_of now ≡ after_changes (world_of rows) (appending rows.files rows.moment file source)) → OnErr result (now ≡ record rows { queue = now.queue })
      → OnOk result ((j : Key) → has_key j now.queue ≡ (comes (coming rows policy file false) j || has_key j rows.queue)) → OnErr result ((j : Key) → has_key j now.queue ≡ has_key j rows.queue)
      → IsBooked now.files now.book → now.limits ≡ rows.limits → IsTracked now
  grown_tracked source is now result ok err come same booked limits = record { queue = by result ok err come same; book = booked; bounds = rw limits sound.tracked.bounds } where
    by : (result : Result ℕ NoMemory) → OnOk result (world_of now ≡ after_changes (world_of rows) (appending rows.files rows.moment file source)) → OnErr result (now ≡ record rows { queue = now.queue })
        → OnOk result ((j : Key) → has_key j now.queue ≡ (comes (coming rows policy file false) j || has_key j rows.queue)) → OnErr result ((j : Key) → has_key j now.queue ≡ has_key j rows.queue) → IsQueued (world_of now) now.queue
    by (Ok number) ok err come same = subst (λ (v : World). IsQueued v now.queue) (sym ok) (grown_queue source is now.queue come)
    by (Err refused) ok err come same = subst (λ (v : World). IsQueued v now.queue) (sym (ap world_of err)) (λ j. same j ∙ sound.tracked.queue j)
