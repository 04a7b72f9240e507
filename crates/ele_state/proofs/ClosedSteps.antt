-- What closing a handle leaves, as the step of the world has it.
use Rattle.ele_state.proofs.Words.{◌≡◌, ◌<◌, ◌^◌, ◌||◌, ℕ, List, Bool, true, false, cond, ◌∷◌, is_some, Option, Some, None, Ok, refl, ap, sym, ◌∙◌, arith, find, false≢true, AllByRecursion, option_map, option_map_or, nat_tests, IsSound, KeyChange, IsQueued, comes, new_keys, Rows, Key, has_key, cells_of_draft, is_live, may_grow, finishing, last_draft, leaving, left_by, opening_by, IsPast, Held, rows_of, with_rows, found_passes, all-found, all-weaker, Abandon, Close, Closed, Done, DraftRow, FileRow, Draft, EndDraft, ShutHandle, DropIdle, after_change, after_changes, has_other_writer, step, Counted, Drafts, Files, Handles, Versions, HasParts, dropped, all_keep, drafts-removed, World, file_by, file_written, has_draft, is_draft, next_of, policy_of, Policy, reads_by, is_moment, in_order_of, open_still, shut_others, has_row, []}
use Rattle.ele_state.proofs.Appended.{appended_queue}
use Rattle.ele_lists.proofs.Cuts.{any-found as first_passing}
use Rattle.ele_model.proofs.OtherFiles.{other_drafts}
use Rattle.ele_model.specs.declared.rows.HandleRow.{HandleRow}
use Rattle.ele_sessions.specs.Found.{StandsAt}
use Rattle.ele_sessions.specs.declared.found_handle.FoundHandle.{FoundHandle}

-- what a handle at that place reads
pub stood_reads : (rows : List HandleRow) (found : FoundHandle) → StandsAt rows found → reads_by rows found.row.number ≡ Ok found.row.reads
stood_reads rows found stands = rw stands.row refl

-- one that reads a draft writes the file
pub writes_file : (rows : List HandleRow) (handle file : ℕ) → reads_by rows handle ≡ Ok (Draft file) → file_by rows handle ≡ Ok file
writes_file rows handle file reads = ap file_written reads

module _ (w : World) (handle file : ℕ) (reads : reads_by w.handles handle ≡ Ok (Draft file)) where
  -- ---- before the draft becomes a version

  -- the handle and the draft are removed
  abbrev pub over : World
  over = after_changes w (ShutHandle handle ∷ EndDraft file ∷ [])

  over_queue : HasParts w → (queue : List Key) → IsQueued w queue → IsQueued over queue
  over_queue formed queue queued k = queued k ∙ ap (is_moment k.ripe) (sym (shut_others w handle (Draft file) reads (in_order_of w formed) k.file k.number refl))

  -- the same keys are added
  over_keys : (policy : Policy) (live : Bool) → new_keys over.groups (rows_of over) policy live file w.now false ≡ new_keys w.groups (rows_of w) policy live file w.now false
  over_keys policy live = grind (arith, nat_tests, open_still w handle (Draft file) reads)

  -- ---- a version is made of the draft

  pub record IsFinal (opened : ℕ) : Type 0 where
    pub draft : DraftRow
    pub alone : has_other_writer w handle file ≡ false
    pub found : find (is_draft file) w.drafts ≡ Some draft
    pub changed : draft.changed ≡ true
    pub its_opening : draft.opened ≡ opened

  module _ (opened : ℕ) (opens : opening_by (rows_of w) handle ≡ Some opened) where
    pub is_final : IsFinal opened
    is_final = grind (arith, nat_tests, opens, writes_file w.handles handle file reads)

    pub finished_step : step w (Close handle) ≡ (Closed (Some (next_of w.files file)), after_changes w (finishing (rows_of w) handle file opened))
    finished_step = let f = is_final in rw (reads, f.alone, f.found, f.changed, f.its_opening) refl

    pub file_there : HasParts w → 0 < next_of w.files file
    file_there formed = grind (arith, nat_tests, is_final, all-found, found_passes, formed.holds Drafts)

    -- the keys that are added with it are those of all versions
    pub finished_queue : (formed : HasParts w) (policy : Policy) → policy_of w.files file ≡ Some policy → (queue after : List Key) → IsQueued w queue → ((j : Key) → has_key j after ≡ (comes (new_keys w.groups (rows_of w) policy (is_live w file) file w.now false) j || has_key j queue)) → IsQueued (after_changes w (finishing (rows_of w) handle file opened)) after
    finished_queue formed policy filed queue after queued edited =
        let kept = all_keep (Close handle) w w (ShutHandle handle ∷ EndDraft file ∷ []) tt (tt, (is_final.alone, tt)) formed in
        appended_queue over file opened (cells_of_draft (rows_of w) file) (may_grow over file kept (file_there formed)) policy filed false refl queue after (over_queue formed queue queued) (λ j. edited j ∙ ap (λ (keys : List KeyChange). comes keys j || has_key j queue) (sym (over_keys policy (is_live w file))))

  -- ---- none is made

  abbrev pub goes : Bool
  goes = is_some (last_draft (rows_of w) handle file)

  -- the file that the handle writes has a draft
  drafted_by : HasParts w → has_draft w file ≡ true
  drafted_by formed = grind (arith, nat_tests, has_row w handle (Draft file) reads, all-found, formed.holds Handles)

  abbrev shut : World
  shut = after_changes w (ShutHandle handle ∷ [])

  -- so it stays if the draft does
  stays : HasParts w → after_change shut (DropIdle file) ≡ shut
  stays formed = dropped (λ v. v ≡ shut) shut file (λ idle. absurd (false≢true (sym idle.undrafted ∙ drafted_by formed))) (λ busy. refl)

  pub left_step : HasParts w → opening_by (rows_of w) handle ≡ None → step w (Close handle) ≡ (Closed None, after_change (after_changes w (leaving handle file goes)) (DropIdle file))
  left_step formed opens = grind (arith, nat_tests, opens, writes_file w.handles handle file reads, stays formed)

  -- a handle that is abandoned leaves the same, whether the draft was changed or not
  pub abandoned_step : HasParts w → step w (Abandon handle) ≡ (Done, after_change (after_changes w (leaving handle file goes)) (DropIdle file))
  abandoned_step formed = grind (arith, nat_tests, drafted_by formed, first_passing (is_draft file) w.drafts, writes_file w.handles handle file reads, stays formed)

  -- and a well-formed world stays so, before the drop too
  pub left_keeps : HasParts w → HasParts (after_changes w (leaving handle file goes))
  left_keeps formed = by (has_other_writer w handle file) refl (find (is_draft file) w.drafts) where
    by : (b : Bool) → has_other_writer w handle file ≡ b → (o : Option DraftRow) → HasParts (after_changes w (leaving handle file (is_some (cond b None o))))
    by true other o = all_keep (Close handle) w w (ShutHandle handle ∷ []) tt (tt, tt) formed
    by false alone None = all_keep (Close handle) w w (ShutHandle handle ∷ []) tt (tt, tt) formed
    by false alone (Some draft) = all_keep (Close handle) w w (ShutHandle handle ∷ EndDraft file ∷ []) tt (tt, (alone, tt)) formed

  pub left_world : with_rows w (left_by (rows_of w) handle) ≡ after_changes w (leaving handle file goes)
  left_world = grind (arith, nat_tests, reads)

  -- files and versions stay, and at most the file's draft goes
  pub record IsLeft (after : Held) : Type 0 where
    pub files : after.files ≡ w.files
    pub versions : after.versions ≡ w.versions
    pub drafts : other_drafts file after.drafts ≡ other_drafts file w.drafts

  pub leaves : IsLeft (left_by (rows_of w) handle)
  leaves = grind (arith, nat_tests, reads, drafts-removed file w.drafts)

  -- the keys stay, whoever writes
  pub left_queue : HasParts w → (queue : List Key) → IsQueued w queue → IsQueued (after_changes w (leaving handle file goes)) queue
  left_queue formed queue queued k = grind (arith, nat_tests, shut_others w handle (Draft file) reads (in_order_of w formed) k.file k.number refl, queued k)

-- ---- the answers about the file

pub number_told : (o : Option FileRow) (n : ℕ) → Some n ≡ option_map (λ (row : FileRow). row.next) o → n ≡ option_map_or (λ (row : FileRow). row.next) o 0
number_told x0 n e = grind (arith, nat_tests)

-- ---- what a well-formed world says of the versions that may end

pub past : (rows : Rows) → IsSound rows → AllByRecursion (IsPast rows.moment) rows.files.versions
past rows sound = grind (arith, nat_tests, all-weaker, sound.formed.holds Versions)

pub numbered : (rows : Rows) → IsSound rows → AllByRecursion (λ row. row.next < 2 ^ 62) rows.files.files
numbered rows sound = grind (arith, nat_tests, all-weaker, sound.formed.holds Counted, sound.formed.holds Files)
