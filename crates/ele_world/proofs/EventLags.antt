-- The law of an event made in both worlds: its plan is the same, and each change keeps what is missing.
use Rattle.ele_model.proofs.Basics.{◌≡◌, ◌<◌, ℕ, Bool, true, false, cond, List, [], ◌∷◌, None, Some, Option, Result, Ok, Err, refl, ap, sym, subst, ◌∙◌, arith, nat_tests, find, length, list_any, nat_lt, option_map_or, all-found, any-found, found_passes, false≢true, filter, ◌+◌}
use Rattle.ele_model.proofs.Words.{Append, AddName, Change, Drafts, DropIdle, EndDraft, EndFileName, EndName, IsEvent, SetDirectoryDefault, Handles, IsDraft, IsHandle, HasParts, MakeDirectory, MakeFile, MoveName, OpenHandle, ShutHandle, StartDraft, Time, TruncateDraft, World, WriteDraft}
use Rattle.ele_model.specs.declared.event.Event.TheVariants.{RemoveDir}
use Rattle.ele_world.proofs.Words.{Abandon, Clock, Close, Create, Directory, Draft, DraftRow, Event, File, Link, MakeDir, NameRow, OpenWrite, Refusal, Rename, Reply, Save, SetDefault, Target, Tick, Truncate, Unlink, Write}
use Rattle.ele_model.proofs.Words.{after_change, after_changes, asks, cells_by, draft_read, file_standing, longest_content, parent_now, save_new_plan, save_plan, default_of, is_live_in, live_target, stands_in, walk, file_by, has_draft, is_draft, is_handle, next_of, outcome, plan, reads_by, IfFound, Need, Plan, Unless}
use Rattle.ele_world.specs.EventLags.{LagsAfter}
use Rattle.ele_world.specs.Lags.{Lags}
use Rattle.ele_world.specs.Less.{less, is_dropped}
use Rattle.ele_model.specs.Plan.{found_outcome}
use Rattle.ele_model.specs.declared.refusal.Refusal.TheVariants.{TooBig}
use Rattle.ele_model.specs.Step.{has_other_writer}
use Rattle.ele_world.specs.PlainEvents.{is_plain}
use Rattle.ele_model.proofs.Allowed.{allowed}
use Rattle.ele_world.proofs.ChangesLag.{Behind, drafted_there, lagging, live_there, names_live}
use Rattle.ele_world.proofs.DraftsLag.{drop_both, end_draft_both, open_both, shut_both, start_both, truncate_both, write_both}
use Rattle.ele_world.proofs.NamesLag.{add_both, directory_both, end_both, end_file_both, govern_both, move_both, time_both}
use Rattle.ele_world.proofs.PlansLag.{both_after, same_reply}
use Rattle.ele_world.proofs.NewVersionsLag.{append_both, fresh, make_both}
use Rattle.ele_model.proofs.Keeps.{event_keeps}
use Rattle.ele_world.proofs.LagsKeeps.{next_same, stays_name}
use Rattle.ele_world.proofs.LiveNames.{names_in_stay, stands_stays, target_stays, walk_stays}
use Rattle.ele_model.proofs.May.{MayBy, MayPlan}
use Rattle.ele_model.proofs.PlanOutcomes.{InAll, asking_stays}
use Rattle.ele_lists.proofs.Cuts.{any-found as first_passing}
use Rattle.ele_model.proofs.Walks.{file_live, standing_is, target_live}

-- answers that are the same of whatever is found
found_same : {X : Type 0} (w : World) (found : Result X Refusal) (g h : X → Reply × World) → ((x : X) → found ≡ Ok x → g x ≡ h x) → found_outcome w found g ≡ found_outcome w found h
found_same w (Ok x) g h same = same x refl
found_same w (Err refusal) g h same = refl

some_same : {X : Type 0} (found : Option X) (otherwise : Reply × World) (g h : X → Reply × World) → ((x : X) → found ≡ Some x → g x ≡ h x) → option_map_or g found otherwise ≡ option_map_or h found otherwise
some_same (Some x) otherwise g h same = same x refl
some_same None otherwise g h same = refl

test_same : (test : Bool) (a b c : Reply × World) → b ≡ c → cond test a b ≡ cond test a c
test_same true a b c same = refl
test_same false a b c same = same

-- a handle's file that is written has a draft
written_drafted : (v : World) (handle file : ℕ) → HasParts v → file_by v.handles handle ≡ Ok file → has_draft v file ≡ true
written_drafted v handle file k is = grind (arith, nat_tests, all-found (is_handle handle) (IsHandle v.made.handles v.drafts) v.handles, (k.holds Handles).each, is)

module _ (gone : ℕ → ℕ → Bool) (dropped : ℕ → Bool) (v : World) (b : Behind gone dropped (less gone dropped v) v) (formed : HasParts (less gone dropped v)) where
  abbrev behind : World
  behind = less gone dropped v

  abbrev Lagging : List Change → Type 0
  Lagging changes = Lags (after_changes behind changes) (after_changes v changes)

  now : Lags behind v
  now = lagging gone dropped behind v b

  by_plan : (event : Event) → outcome behind (plan behind event) ≡ outcome behind (plan v event) → InAll (λ reply changes. Lagging changes) (plan v event) → LagsAfter behind v event
  by_plan event same all = record {
    lags = subst (λ (answer : Reply × World). Lags (answer.1) ((outcome v (plan v event)).1)) (sym same) (both_after behind v Lags now (plan v event) all);
    reply = λ changing. ap (λ (answer : Reply × World). answer.0) same ∙ same_reply behind v (plan v event);
  }

  -- a change that may be made
  one : (event : Event) → IsEvent event → (change : Change) → MayBy event v v change → (HasParts (after_change v change) → Behind gone dropped (after_change behind change) (after_change v change)) → Lags (after_change behind change) (after_change v change)
  one event is change may both = lagging gone dropped (after_change behind change) (after_change v change) (both (event_keeps event v v change is may b.formed))

  target_there : (target : Target) (directory : ℕ) (name : List ℕ) → live_target v.names directory name ≡ Some target → is_dropped dropped target ≡ false
  target_there (Directory id) directory name is = refl
  target_there (File file) directory name is = live_there gone dropped behind v b file (target_live v.names directory name (File file) is)

  -- ---- what paths lead to

  walks : (at : Target) (path : List (List ℕ)) → walk (filter (stays_name dropped) v.names) at path ≡ walk v.names at path
  walks = walk_stays (stays_name dropped) v.names (names_live gone dropped behind v b)

  targets : (directory : ℕ) (name : List ℕ) → live_target (filter (stays_name dropped) v.names) directory name ≡ live_target v.names directory name
  targets = target_stays (stays_name dropped) v.names (names_live gone dropped behind v b)

  insides : (directory : ℕ) → list_any (is_live_in directory) (filter (stays_name dropped) v.names) ≡ list_any (is_live_in directory) v.names
  insides = names_in_stay (stays_name dropped) v.names (names_live gone dropped behind v b)

  stands : (moved : Target) (path : List (List ℕ)) → stands_in (filter (stays_name dropped) v.names) moved path ≡ stands_in v.names moved path
  stands = stands_stays (stays_name dropped) v.names (names_live gone dropped behind v b)

  -- ---- a close

  draft_there : (file : ℕ) (draft : DraftRow) → find (is_draft file) v.drafts ≡ Some draft → dropped file ≡ false
  draft_there file draft drafted = drafted_there gone dropped behind v b file (any-found (is_draft file) (is_draft file) v.drafts draft drafted (found_passes (is_draft file) v.drafts draft drafted))

  close_same : (handle : ℕ) → outcome behind (plan behind (Close handle)) ≡ outcome behind (plan v (Close handle))
  close_same handle = found_same behind (reads_by v.handles handle) _ _ (λ read found. some_same (draft_read read) _ _ _ (λ file writes. test_same (has_other_writer v handle file) _ _ _ (some_same (find (is_draft file) v.drafts) _ _ _ (λ draft drafted. rw (next_same dropped file (draft_there file draft drafted) v.files) refl))))

  module _ (handle : ℕ) (is : IsEvent (Close handle)) where
    abbrev c : Change
    c = ShutHandle handle

    shut_behind : Behind gone dropped (after_change behind c) (after_change v c)
    shut_behind = shut_both gone dropped behind v b handle (event_keeps (Close handle) v v c is tt b.formed)

    shut : Lagging (c ∷ [])
    shut = lagging gone dropped (after_change behind c) (after_change v c) shut_behind

    module _ (file : ℕ) (draft : DraftRow) (last : has_other_writer v handle file ≡ false) (drafted : find (is_draft file) v.drafts ≡ Some draft) where
      abbrev d : Change
      d = EndDraft file

      ended_behind : Behind gone dropped (after_changes behind (c ∷ d ∷ [])) (after_changes v (c ∷ d ∷ []))
      ended_behind = end_draft_both gone dropped (after_change behind c) (after_change v c) shut_behind file (event_keeps (Close handle) v (after_change v c) d is last shut_behind.formed)

      file_there : 0 < next_of v.files file
      file_there =
          let its = all-found (is_draft file) (IsDraft v.files v.now) v.drafts draft drafted (b.formed.holds Drafts).each in
          let passes = found_passes (is_draft file) v.drafts draft drafted in
          grind (arith, nat_tests, its.there, passes)

      finished : MayBy (Close handle) v (after_changes v (c ∷ d ∷ [])) (Append file draft.opened draft.cells) → Lagging (c ∷ d ∷ Append file draft.opened draft.cells ∷ [])
      finished may =
          let a = Append file draft.opened draft.cells in
          let v2 : World = after_changes v (c ∷ d ∷ []) in
          let u2 : World = after_changes behind (c ∷ d ∷ []) in
          lagging gone dropped (after_change u2 a) (after_change v2 a) (append_both gone dropped u2 v2 ended_behind file draft.opened draft.cells file_there (draft_there file draft drafted) (event_keeps (Close handle) v v2 a is may ended_behind.formed))

      vanished : Lagging (c ∷ d ∷ DropIdle file ∷ [])
      vanished = drop_both gone dropped (after_changes behind (c ∷ d ∷ [])) (after_changes v (c ∷ d ∷ [])) ended_behind file file_there (draft_there file draft drafted)

  -- ---- a save

  standing_live : (at : ℕ × List ℕ) (standing : Option ℕ) (file : ℕ) → file_standing (live_target v.names at.0 at.1) ≡ Ok standing → standing ≡ Some file → dropped file ≡ false
  standing_live at standing file stood is = live_there gone dropped behind v b file (target_live v.names at.0 at.1 (File file) (standing_is (live_target v.names at.0 at.1) standing file stood is))

  -- what a save does by these names
  abbrev saving : List NameRow → World → List (List ℕ) → List ℕ → Plan
  saving names w path bytes =
      Need (parent_now names path) (λ at.
      Need (file_standing (live_target names at.0 at.1)) (λ standing.
      Unless (nat_lt longest_content (length bytes)) TooBig
      (IfFound standing (save_new_plan w at bytes) (λ file. save_plan w file bytes))))

  names_same : (path : List (List ℕ)) (bytes : List ℕ) → outcome behind (saving behind.names behind path bytes) ≡ outcome behind (saving v.names behind path bytes)
  names_same path bytes = simp (walks, targets)

  save_same : (path : List (List ℕ)) (bytes : List ℕ) → outcome behind (plan behind (Save path bytes)) ≡ outcome behind (plan v (Save path bytes))
  save_same path bytes = names_same path bytes ∙ found_same behind (parent_now v.names path) _ _ (λ at found. found_same behind (file_standing (live_target v.names at.0 at.1)) _ _ (λ standing stood. test_same (nat_lt longest_content (length bytes)) _ _ _ (some_same standing _ _ _ (λ file is. rw (next_same dropped file (standing_live at standing file stood is) v.files) refl))))

  module _ (path : List (List ℕ)) (bytes : List ℕ) (at : ℕ × List ℕ) where
    -- a file's next version
    saved : (file : ℕ) → MayBy (Save path bytes) v v (Append file v.now (cells_by (next_of v.files file) bytes)) → dropped file ≡ false → Lagging (Append file v.now (cells_by (next_of v.files file) bytes) ∷ [])
    saved file may stays =
        let a = Append file v.now (cells_by (next_of v.files file) bytes) in
        one (Save path bytes) tt a may (append_both gone dropped behind v b file v.now (cells_by (next_of v.files file) bytes) may.there stays)

    -- a new file with two
    saved_new : (may : MayPlan (Save path bytes) v (save_new_plan v at bytes)) → InAll (λ reply changes. Lagging changes) (save_new_plan v at bytes)
    saved_new may = λ files names versions.
        let id = v.made.files + 1 in
        let policy = default_of v.directories at.0 in
        let c = MakeFile at.0 at.1 id policy in
        let a = Append id v.now (cells_by 2 bytes) in
        let both = may files names versions in
        let then = make_both gone dropped behind v b at.0 at.1 policy formed (event_keeps (Save path bytes) v v c tt both.0 b.formed) in
        let v1 : World = after_change v c in
        let u1 : World = after_change behind c in
        lagging gone dropped (after_change u1 a) (after_change v1 a) (append_both gone dropped u1 v1 then id v.now (cells_by 2 bytes) both.1.0.there (fresh gone dropped behind v b at.0 at.1 policy formed) (event_keeps (Save path bytes) v v1 a tt both.1.0 then.formed))

  -- ---- the events

  names_lag : (event : Event) → IsEvent event → is_plain event ≡ true → asks event ≡ false → LagsAfter behind v event
  names_lag (Clock to) is plain changes = by_plan (Clock to) refl (λ no. let may = (allowed v (Clock to) b.formed no).0 in one (Clock to) is (Time to) may (time_both gone dropped behind v b to may.0))
  names_lag (Tick seconds) is plain changes = by_plan (Tick seconds) refl (λ no. let may = (allowed v (Tick seconds) b.formed no).0 in one (Tick seconds) is (Time (v.now + seconds)) may (time_both gone dropped behind v b (v.now + seconds) may.0))
  names_lag (MakeDir path) is plain changes = by_plan (MakeDir path) (simp (walks, targets)) (λ at found free directories names.
      one (MakeDir path) is (MakeDirectory at.0 at.1 (v.made.directories + 1) (default_of v.directories at.0)) (allowed v (MakeDir path) b.formed at found free directories names).0 (directory_both gone dropped behind v b at.0 at.1 (v.made.directories + 1) (default_of v.directories at.0)))
  names_lag (RemoveDir path) is plain changes = by_plan (RemoveDir path) (simp (walks, insides)) (λ at found directory leads empty.
      one (RemoveDir path) is (EndName at.0 at.1) (allowed v (RemoveDir path) b.formed at found directory leads empty).0 (end_both gone dropped behind v b at.0 at.1))
  names_lag (Create path) is plain changes = by_plan (Create path) (simp (walks, targets)) (λ at found free files names versions.
      one (Create path) is (MakeFile at.0 at.1 (v.made.files + 1) (default_of v.directories at.0)) (allowed v (Create path) b.formed at found free files names versions).0 (make_both gone dropped behind v b at.0 at.1 (default_of v.directories at.0) formed))
  names_lag (Link from to) is plain changes = by_plan (Link from to) (simp (walks, targets)) (λ file leads at found free names.
      one (Link from to) is (AddName at.0 at.1 (File file)) (allowed v (Link from to) b.formed file leads at found free names).0 (add_both gone dropped behind v b at.0 at.1 (File file) (live_there gone dropped behind v b file (file_live v.names from file leads)) (λ f same. let own : file ≡ f = cc in rw (← own) (file_live v.names from file leads))))
  names_lag (Unlink path) is plain changes = by_plan (Unlink path) (simp walks) (λ at found file leads.
      one (Unlink path) is (EndFileName at.0 at.1 file) (allowed v (Unlink path) b.formed at found file leads).0 (end_file_both gone dropped behind v b at.0 at.1 file (file_live v.names path file leads)))
  names_lag (Rename from to) is plain changes = by_plan (Rename from to) (simp (walks, targets, stands)) (λ old found moved leads at named into free names.
      let may = (allowed v (Rename from to) b.formed old found moved leads at named into free names).0 in
      one (Rename from to) is (MoveName old.0 old.1 at.0 at.1 moved) may (move_both gone dropped behind v b old.0 old.1 at.0 at.1 moved (target_there moved old.0 old.1 may.stands) (λ f same. target_live v.names old.0 old.1 (File f) (may.stands ∙ ap Some same))))
  names_lag (SetDefault path policy) is plain changes = by_plan (SetDefault path policy) (simp walks) (λ directory leads.
      one (SetDefault path policy) is (SetDirectoryDefault directory policy) (allowed v (SetDefault path policy) b.formed directory leads).0 (govern_both gone dropped behind v b directory policy))
  names_lag (Write handle offset bytes) is plain changes = by_plan (Write handle offset bytes) refl (λ file found. (
    λ empty. now,
    λ some fits. one (Write handle offset bytes) is (WriteDraft file offset bytes) ((allowed v (Write handle offset bytes) b.formed file found).1 some fits).0 (write_both gone dropped behind v b file offset bytes (written_drafted v handle file b.formed found)),
  ))
  names_lag (Truncate handle size) is plain changes = by_plan (Truncate handle size) refl (λ file found fits.
      one (Truncate handle size) is (TruncateDraft file size) (allowed v (Truncate handle size) b.formed file found fits).0 (truncate_both gone dropped behind v b file size (written_drafted v handle file b.formed found)))
  names_lag (OpenWrite path) is plain changes = by_plan (OpenWrite path) (simp walks) (λ file leads room. (
    λ drafted. one (OpenWrite path) is (OpenHandle (v.made.handles + 1) (Draft file)) ((allowed v (OpenWrite path) b.formed file leads room).0 drafted).0 (open_both gone dropped behind v b (v.made.handles + 1) file),
    λ none versions.
        let may = (allowed v (OpenWrite path) b.formed file leads room).1 none versions in
        let c = StartDraft file in
        let d = OpenHandle (v.made.handles + 1) (Draft file) in
        let then = start_both gone dropped behind v b file (file_live v.names path file leads) (event_keeps (OpenWrite path) v v c is may.0 b.formed) in
        lagging gone dropped (after_changes behind (c ∷ d ∷ [])) (after_changes v (c ∷ d ∷ [])) (open_both gone dropped (after_change behind c) (after_change v c) then (v.made.handles + 1) file (event_keeps (OpenWrite path) v (after_change v c) d is may.1.0 then.formed)),
  ))
  names_lag (Close handle) is plain changes = by_plan (Close handle) (close_same handle) (λ read found. (
    λ reader. shut handle is,
    λ file writes. (
      λ other. shut handle is,
      λ last. (
        λ none. shut handle is,
        λ draft drafted. (
          λ changed. finished handle is file draft last drafted (((((allowed v (Close handle) b.formed read found).1 file writes).1 last).1 draft drafted).0 changed).1.1.0,
          λ same. vanished handle is file draft last drafted,
        ),
      ),
    ),
  ))
  names_lag (Abandon handle) is plain changes = by_plan (Abandon handle) refl (λ file writes. (
    λ other. shut handle tt,
    λ last. let (draft, drafted) = first_passing (is_draft file) v.drafts (written_drafted v handle file b.formed writes) in vanished handle tt file draft last drafted,
  ))
  names_lag (Save path bytes) is plain changes = by_plan (Save path bytes) (save_same path bytes) (λ at found standing stood fits.
      let may = allowed v (Save path bytes) b.formed at found standing stood fits in (
        λ none. saved_new path bytes at (may.0 none),
        λ file its drafts versions. saved path bytes at file (may.1 file its drafts versions).0 (standing_live at standing file stood its),
      ))
  names_lag event is plain changes = absurd cc

-- an event that asks leaves both worlds
asking_lags : (u v : World) (event : Event) → asks event ≡ true → Lags u v → LagsAfter u v event
asking_lags u v event is lags = record { lags = rw (asking_stays u event is, asking_stays v event is) lags; reply = λ no. absurd (false≢true (sym no ∙ is)) }

pub event_lags : (u v : World) (event : Event) → IsEvent event → is_plain event ≡ true → HasParts u → HasParts v → Lags u v → LagsAfter u v event
event_lags u v event is plain formed k lags = by (asks event) refl where
  b : Behind lags.gone lags.dropped (less lags.gone lags.dropped v) v
  b = record { is = refl; formed = k; due = lags.due; emptied = lags.emptied; ungrouped = lags.ungrouped }

  by : (l : Bool) → asks event ≡ l → LagsAfter u v event
  by true e = asking_lags u v event e lags
  by false e = subst (λ (w : World). LagsAfter w v event) (sym lags.is) (names_lag lags.gone lags.dropped v b (subst HasParts lags.is formed) event is plain e)
