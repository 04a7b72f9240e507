-- Changes of drafts and handles, and the dropping of a file, in a world and in one that lags behind it.
use Rattle.ele_model.proofs.Basics.{◌≡◌, ◌<◌, ◌-◌, ℕ, Bool, true, false, not, List, [], refl, ap, sym, ◌∙◌, arith, nat_tests, list_any, remove_first, insert_before, update_first}
use Rattle.ele_model.proofs.Basics.{all-filter, all-none, all-remove_first, list_any-insert_before, list_any-update_first, false≢true, filter-swap}
use Rattle.ele_lists.proofs.Filters.{find-filter}
use Rattle.ele_model.proofs.Words.{Cell, Change, DropIdle, EndDraft, HasParts, OpenHandle, ShutHandle, StartDraft, TruncateDraft, World, WriteDraft, after_change, changed_by, current_cells, fitted_by, has_draft, is_draft, is_draft_after, is_file, is_handle, is_idle, is_live, is_open, is_target_file, is_version, is_version_of, new_draft, next_of, reads_version, ripe_at, without_file}
use Rattle.ele_world.proofs.Words.{Draft, DraftRow, HandleRow, NameRow, VersionRow}
use Rattle.ele_world.specs.Less.{less}
use Rattle.ele_world.specs.Lags.{Lags}
use Rattle.ele_world.proofs.AnyDueLeave.{remains}
use Rattle.ele_world.proofs.ChangesLag.{Behind, KeepsBehind, apart_from, change_on, lagging, live_there, drafted_there, unripe_there}
use Rattle.ele_world.proofs.CleanLags.{parts_same, drop_lags}
use Rattle.ele_model.proofs.Currents.{has_current}
use Rattle.ele_model.proofs.Dropped.{IsIdle, drop_keeps, idle_is, live_other, next_of-removed}
use Rattle.ele_model.proofs.DropViews.{ripe_at_dropped}
use Rattle.ele_model.proofs.Elements.{any_none}
use Rattle.ele_world.proofs.Filters.{remove_first-filter}
use Rattle.ele_model.proofs.KeptDrafts.{same_file}
use Rattle.ele_world.proofs.LagsKeeps.{stays_name, stays_file, live_same, next_same}
use Rattle.ele_model.proofs.NameMoments.{moments_stay, no_moment}
use Rattle.ele_model.proofs.Neighbours.{found_moment, in_order_of}
use Rattle.ele_model.proofs.OpenMoments.{opened_others, read_moment}

-- what none passes, none passes without an element
still_none : {X : Type 0} (p t : X → Bool) (xs : List X) → list_any t xs ≡ false → list_any t (remove_first p xs) ≡ false
still_none p t xs none = any_none t (remove_first p xs) (all-remove_first p (λ x. t x ≡ false) xs (all-none t xs none))

module _ (gone : ℕ → ℕ → Bool) (dropped : ℕ → Bool) (u v : World) (b : Behind gone dropped u v) where
  abbrev behind : World
  behind = less gone dropped v

  -- if only the drafts change
  keeps_drafts : (drafts : List DraftRow) → ((file : ℕ) → dropped file ≡ true → list_any (is_draft file) v.drafts ≡ false → list_any (is_draft file) drafts ≡ false) → KeepsBehind gone dropped v (record v { drafts = drafts })
  keeps_drafts drafts none = record {
    time = omega arith;
    ripe = λ file number named. moments_stay v (record v { drafts = drafts }) (in_order_of v b.formed) refl refl refl refl file number refl;
    emptied = λ file is e. record { there = e.there; nameless = e.nameless; undrafted = none file is e.undrafted; unheld = e.unheld };
    groups = refl;
  }

  -- the current version of a live file isn't missing
  current_there : (file : ℕ) → is_live v file ≡ true → current_cells behind file ≡ current_cells v file
  current_there file live =
      let there = live_there gone dropped u v b file live in
      let n = next_of v.files file - 1 in
      let stays = unripe_there gone dropped u v b file n (no_moment v 0 [] file (has_current v file b.formed live)) in
      rw (next_same dropped file there v.files, find-filter (is_version file n) (remains gone) v.versions (λ row is. grind (arith, nat_tests, is, stays))) refl

  pub start_both : (file : ℕ) → is_live v file ≡ true → let c = StartDraft file in HasParts (after_change v c) → Behind gone dropped (after_change u c) (after_change v c)
  start_both file live formed =
      let c = StartDraft file in
      let there = live_there gone dropped u v b file live in
      change_on gone dropped u v b c
      (ap (λ (cells : List Cell). let w : World = record behind { drafts = insert_before (is_draft_after file) (record { file = file; opened = v.now; cells = cells; changed = false }) v.drafts } in w) (current_there file live)) formed
      (keeps_drafts (insert_before (is_draft_after file) (new_draft v file) v.drafts) (λ f is none. list_any-insert_before (is_draft_after file) (is_draft f) (new_draft v file) v.drafts ∙ grind (arith, nat_tests, none, apart_from gone dropped u v b file f there is)))

  pub write_both : (file offset : ℕ) (bytes : List ℕ) → has_draft v file ≡ true → let c = WriteDraft file offset bytes in HasParts (after_change v c) → Behind gone dropped (after_change u c) (after_change v c)
  write_both file offset bytes drafted formed =
      let c = WriteDraft file offset bytes in
      change_on gone dropped u v b c
      (ap (λ (n : ℕ). let w : World = record behind { drafts = update_first (is_draft file) (changed_by n offset bytes) v.drafts } in w) (next_same dropped file (drafted_there gone dropped u v b file drafted) v.files)) formed
      (keeps_drafts (update_first (is_draft file) (changed_by (next_of v.files file) offset bytes) v.drafts) (λ f is none. list_any-update_first (is_draft file) (is_draft f) (changed_by (next_of v.files file) offset bytes) v.drafts (λ row own. refl) ∙ none))

  pub truncate_both : (file size : ℕ) → has_draft v file ≡ true → let c = TruncateDraft file size in HasParts (after_change v c) → Behind gone dropped (after_change u c) (after_change v c)
  truncate_both file size drafted formed =
      let c = TruncateDraft file size in
      change_on gone dropped u v b c
      (ap (λ (n : ℕ). let w : World = record behind { drafts = update_first (is_draft file) (fitted_by n size) v.drafts } in w) (next_same dropped file (drafted_there gone dropped u v b file drafted) v.files)) formed
      (keeps_drafts (update_first (is_draft file) (fitted_by (next_of v.files file) size) v.drafts) (λ f is none. list_any-update_first (is_draft file) (is_draft f) (fitted_by (next_of v.files file) size) v.drafts (λ row own. rw (same_file (next_of v.files file) size row) refl) ∙ none))

  pub end_draft_both : (file : ℕ) → let c = EndDraft file in HasParts (after_change v c) → Behind gone dropped (after_change u c) (after_change v c)
  end_draft_both file formed = change_on gone dropped u v b (EndDraft file) refl formed (keeps_drafts (remove_first (is_draft file) v.drafts) (λ f is none. still_none (is_draft file) (is_draft f) v.drafts none))

  -- ---- handles

  keeps_handles : (after : World) → after.now ≡ v.now → after.files ≡ v.files → after.names ≡ v.names → after.versions ≡ v.versions → after.drafts ≡ v.drafts → after.groups ≡ v.groups
      → ((file number : ℕ) → gone file number ≡ true → ripe_at after file number ≡ ripe_at v file number) → KeepsBehind gone dropped v after
  keeps_handles after now files names versions drafts groups ripe = record {
    time = omega (arith, now);
    ripe = ripe;
    emptied = λ file is e. record { there = rw files e.there; nameless = rw names e.nameless; undrafted = rw drafts e.undrafted; unheld = λ number held. e.unheld number (rw versions at held) };
    groups = groups;
  }

  pub open_both : (number file : ℕ) → let c = OpenHandle number (Draft file) in HasParts (after_change v c) → Behind gone dropped (after_change u c) (after_change v c)
  open_both number file formed =
      let c = OpenHandle number (Draft file) in
      change_on gone dropped u v b c refl formed (keeps_handles (after_change v c) refl refl refl refl refl refl (λ f n named. opened_others v number (Draft file) (in_order_of v b.formed) f n refl))

  -- what is missing wasn't open
  unread : (file number : ℕ) → gone file number ≡ true → is_open v.handles file number ≡ false
  unread file number named = by (is_open v.handles file number) refl where
    by : (l : Bool) → is_open v.handles file number ≡ l → l ≡ false
    by false e = refl
    by true e = absurd (false≢true (sym (unripe_there gone dropped u v b file number (read_moment v file number (in_order_of v b.formed) e)) ∙ named))

  pub shut_both : (number : ℕ) → let c = ShutHandle number in HasParts (after_change v c) → Behind gone dropped (after_change u c) (after_change v c)
  shut_both number formed =
      let c = ShutHandle number in
      let ordered = in_order_of v b.formed in
      change_on gone dropped u v b c refl formed (keeps_handles (after_change v c) refl refl refl refl refl refl (λ f n named.
      let none = unread f n named in
      found_moment v (after_change v c) f n ordered ordered (λ closed ended. refl) refl refl (still_none (is_handle number) (λ (row : HandleRow). reads_version f n row.reads) v.handles none ∙ sym none) refl refl))

  -- ---- a file goes if nothing is left of it

  module _ (file : ℕ) (there : 0 < next_of v.files file) (stays : dropped file ≡ false) where
    abbrev c : Change
    c = DropIdle file

    -- then it goes from both
    idle_both : IsIdle v file → IsIdle behind file
    idle_both idle = record {
      nameless = live_same dropped file stays v.names ∙ idle.nameless;
      unheld = any_none (is_version_of file) behind.versions (all-filter (λ (row : VersionRow). is_version_of file row ≡ false) (remains gone) v.versions (all-none (is_version_of file) v.versions idle.unheld));
      undrafted = idle.undrafted;
    }

    is_idle_so : (w : World) → IsIdle w file → is_idle w file ≡ true
    is_idle_so w idle = rw (idle.nameless, idle.unheld, idle.undrafted) refl

    without_same : without_file behind file ≡ less gone dropped (without_file v file)
    without_same =
        let files = remove_first-filter (stays_file dropped) (is_file file) v.files (λ row is. grind (arith, nat_tests, is, stays)) in
        let names = filter-swap (λ (row : NameRow). not (is_target_file file row.target)) (stays_name dropped) v.names in
        parts_same (without_file v file) _ _ _ _ behind.versions behind.versions files names refl

    goes : (w : World) → IsIdle w file → after_change w c ≡ without_file w file
    goes w idle = rw (is_idle_so w idle) refl

    both_go : IsIdle v file → Lags (after_change u c) (after_change v c)
    both_go idle = lagging gone dropped (after_change u c) (after_change v c) (change_on gone dropped u v b c (goes behind (idle_both idle) ∙ without_same ∙ ap (less gone dropped) (sym (goes v idle))) (drop_keeps v file b.formed) (record {
      time = rw (goes v idle) (omega arith);
      ripe = λ f n named. ripe_at_dropped v file f n;
      emptied = λ f is e. let apart = apart_from gone dropped u v b file f stays is in rw (goes v idle) (record { there = rw (next_of-removed v.files file f (grind (arith, nat_tests, apart))) e.there; nameless = live_other v file f (grind (arith, nat_tests, apart)) ∙ e.nameless; undrafted = e.undrafted; unheld = e.unheld });
      groups = rw (goes v idle, b.ungrouped) refl;
    }))

    pub drop_both : Lags (after_change u c) (after_change v c)
    drop_both = by (is_idle v file) refl where
      by : (l : Bool) → is_idle v file ≡ l → Lags (after_change u c) (after_change v c)
      by true e = both_go (idle_is v file e)
      by false e = rw (b.is, e) (drop_lags gone dropped v b.formed file b.ungrouped b.due b.emptied there stays)
