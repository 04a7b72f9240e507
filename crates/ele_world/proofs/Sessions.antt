-- A save beside the session that opens, empties, writes and closes, and beside a create.
use Rattle.ele_model.proofs.Basics.{nat_tests, arith, ◌≡◌, ◌==◌, ◌⊎◌, inl, inr, ℕ, ◌+◌, ◌<◌, ◌≤◌, ◌∙◌, nat_le, nat_lt, length, cond, Bool, true, false, List, [], ◌∷◌, ◌++◌, Some, None, Ok, refl, ap, sym, find, list_any, is_some, option_map, subst, AllByRecursion, all-found, all-none, all-weaker, find-inserted, insert_before, nil_from_length, not_found, remove_first, update_first}
use Rattle.ele_model.proofs.Words.{World, Cell, HasParts, Handles, IsHandle, IsReadable, IsVersion, Versions, Append, MakeFile, OpenHandle, after_change, cells_by, changed_by, content_of, current_cells, born_row, default_of, file_at, file_by, file_now, file_written, fitted_by, has_draft, is_draft, is_draft_after, is_handle, is_writer, live_target, longest_content, new_draft, next_of, parent_now, plan, step, writes}
use Rattle.ele_world.proofs.Words.{DraftRow, Reads, Draft, Version, File, NoHandle, Reply}
use Rattle.ele_model.specs.declared.event.Event.TheVariants as asked
use Rattle.ele_model.specs.declared.reply.Reply.TheVariants as reply
use Rattle.ele_content.specs.Content.{cells_after_truncate, cells_after_write}
use Rattle.ele_model.specs.Step.{versions_made}
use Rattle.ele_world.specs.SaveIsSession.{session, with_handles}
use Rattle.ele_model.proofs.Created.{made_next}
use Rattle.ele_model.proofs.Currents.{has_current}
use Rattle.ele_model.proofs.Elements.{any_none, find-updated}
use Rattle.ele_model.proofs.KeptDrafts.{same_file}
use Rattle.ele_model.proofs.PlanOutcomes.{in_all}
use Rattle.ele_model.proofs.Walks.{file_live, file_place, named_stands, new_leads, parent-push, standing_free, standing_is}
use Rattle.ele_world.proofs.SlotsKept.{none_left}
use Rattle.ele_world.proofs.Written.{new_reads}

-- ---- one element is added, changed and removed

remove_inserted : {X : Type 0} (q p : X → Bool) (x : X) (xs : List X) → p x ≡ true → AllByRecursion (λ y. p y ≡ false) xs → remove_first p (insert_before q x xs) ≡ xs
remove_inserted q p x [] passes others = grind (arith, nat_tests)
remove_inserted q p x (y ∷ xs) passes others = grind (arith, nat_tests, remove_inserted q p x xs passes others.1)

remove_updated : {X : Type 0} (p : X → Bool) (f : X → X) (xs : List X) → ((x : X) → p (f x) ≡ p x) → remove_first p (update_first p f xs) ≡ remove_first p xs
remove_updated p f [] keeps = refl
remove_updated p f (x ∷ xs) keeps = grind (arith, nat_tests, remove_updated p f xs keeps)

remove_pushed : {X : Type 0} (p : X → Bool) (x : X) (xs : List X) → p x ≡ true → AllByRecursion (λ y. p y ≡ false) xs → remove_first p (xs ++ x ∷ []) ≡ xs
remove_pushed p x [] passes others = grind (arith, nat_tests)
remove_pushed p x (y ∷ xs) passes others = grind (arith, nat_tests, remove_pushed p x xs passes others.1)

-- ---- cells of nothing

nothing_fits : (number : ℕ) (cells : List Cell) → cells_after_truncate number 0 cells ≡ []
unfolding cells_after_truncate
nothing_fits number cells = refl

nothing_saved : (number : ℕ) → cells_by number [] ≡ []
unfolding cells_after_write
nothing_saved number = refl

-- ---- replies to a close

closed_same : (a b : ℕ) → reply.Closed (Some a) ≡ reply.Closed (Some b) → a ≡ b
closed_same a b same = cc

closed_other : (number : ℕ) → reply.Closed None ≡ reply.Closed (Some number) → ⊥
closed_other number same = absurd cc

-- ---- a session on a file without a draft

module _ (w : World) (k : HasParts w) (path : List (List ℕ)) (bytes : List ℕ) (file : ℕ) (named : file_now w.names path ≡ Ok file) (undrafted : has_draft w file ≡ false) where
  abbrev handle : ℕ
  handle = w.made.handles + 1

  abbrev next : ℕ
  next = next_of w.files file

  -- no handle has that number, and none writes the file
  unopened : AllByRecursion (λ row. is_handle handle row ≡ false) w.handles
  unopened = all-weaker (IsHandle w.made.handles w.drafts) (λ row. is_handle handle row ≡ false) w.handles (λ row is. grind (arith, nat_tests, is.given)) (k.holds Handles).each

  no_handle : find (is_handle handle) w.handles ≡ None
  no_handle = not_found (is_handle handle) w.handles unopened

  unread : (reads : Reads) → IsReadable w.drafts reads → writes file reads ≡ false
  unread (Version of number) there = refl
  unread (Draft of) there = by (of == file) refl where
    by : (b : Bool) → (of == file) ≡ b → b ≡ false
    by false apart = refl
    by true is = let same : of ≡ file = grind (arith, nat_tests, is) in sym (rw (← same) there) ∙ undrafted

  unwritten : list_any (is_writer file) w.handles ≡ false
  unwritten = any_none (is_writer file) w.handles (all-weaker (IsHandle w.made.handles w.drafts) (λ row. is_writer file row ≡ false) w.handles (λ row is. unread row.reads is.readable) (k.holds Handles).each)

  -- the world of the session, with these drafts
  abbrev drafting : List DraftRow → World
  drafting drafts = record (after_change w (OpenHandle handle (Draft file))) { drafts = drafts }

  writer : file_by (drafting []).handles handle ≡ Ok file
  writer = ap file_written (new_reads w (Draft file) k)

  shut : remove_first (is_handle handle) (drafting []).handles ≡ w.handles
  shut = remove_pushed (is_handle handle) (record { number = handle; reads = Draft file }) w.handles (grind (arith, nat_tests)) unopened

  -- the draft is the one that is found, and the others are those before
  record IsOnly (drafts : List DraftRow) (draft : DraftRow) : Type 0 where
    found : find (is_draft file) drafts ≡ Some draft
    rest : remove_first (is_draft file) drafts ≡ w.drafts

  begun : IsOnly (insert_before (is_draft_after file) (new_draft w file) w.drafts) (new_draft w file)
  begun =
      let none = all-none (is_draft file) w.drafts undrafted in
      let its : is_draft file (new_draft w file) ≡ true = grind (arith, nat_tests) in
      record {
        found = find-inserted (is_draft_after file) (is_draft file) (new_draft w file) w.drafts its none;
        rest = remove_inserted (is_draft_after file) (is_draft file) (new_draft w file) w.drafts its none;
      }

  edited : (drafts : List DraftRow) (draft : DraftRow) (f : DraftRow → DraftRow) → ((row : DraftRow) → (f row).file ≡ row.file) → IsOnly drafts draft → IsOnly (update_first (is_draft file) f drafts) (f draft)
  edited drafts draft f own only = record {
    found = find-updated (is_draft file) f drafts (λ row. rw (own row) refl) ∙ ap (option_map f) only.found;
    rest = remove_updated (is_draft file) f drafts (λ row. rw (own row) refl) ∙ only.rest;
  }

  abbrev saved : World
  saved = after_change w (Append file w.now (cells_by next bytes))

  -- the close of a changed draft with the bytes, and of one that isn't changed
  closes : (drafts : List DraftRow) (draft : DraftRow) → IsOnly drafts draft → draft.changed ≡ true → draft.opened ≡ w.now → draft.cells ≡ cells_by next bytes → step (drafting drafts) (asked.Close handle) ≡ (reply.Closed (Some next), with_handles handle saved)
  closes drafts draft only changed opened cells = rw (new_reads w (Draft file) k, shut, unwritten, only.found, changed, only.rest, opened, cells) refl

  leaves : (drafts : List DraftRow) (draft : DraftRow) → IsOnly drafts draft → draft.changed ≡ false → (step (drafting drafts) (asked.Close handle)).0 ≡ reply.Closed None
  leaves drafts draft only same = rw (new_reads w (Draft file) k, shut, unwritten, only.found, same) refl

  -- ---- its draft

  abbrev first : List DraftRow
  first = insert_before (is_draft_after file) (new_draft w file) w.drafts

  abbrev cut : List DraftRow
  cut = update_first (is_draft file) (fitted_by next 0) first

  abbrev laid : List DraftRow
  laid = update_first (is_draft file) (changed_by next 0 bytes) cut

  emptied : IsOnly cut (fitted_by next 0 (new_draft w file))
  emptied = edited first (new_draft w file) (fitted_by next 0) (same_file next 0) begun

  -- it has no cells
  none_kept : length (content_of (current_cells w file)) ≡ 0 → current_cells w file ≡ []
  none_kept none =
      let current = has_current w file k (file_live w.names path file named) in
      let is = all-found _ (IsVersion w.files w.now) w.versions current.row current.found (k.holds Versions).each in
      grind (arith, nat_tests, none, current.found, is.content.slots, none_left current.row.cells)

  record IsCut (draft : DraftRow) : Type 0 where
    opened : draft.opened ≡ w.now
    cells : draft.cells ≡ []

  is_cut : IsCut (fitted_by next 0 (new_draft w file))
  is_cut = by (length (content_of (current_cells w file)) == 0) refl where
    by : (b : Bool) → (length (content_of (current_cells w file)) == 0) ≡ b → IsCut (fitted_by next 0 (new_draft w file))
    by true none = rw none (record { opened = refl; cells = none_kept (grind (arith, nat_tests, none)) })
    by false some = rw some (record { opened = refl; cells = nothing_fits next (current_cells w file) })

  -- ---- its replies

  cut_refused : step w (asked.Truncate handle 0) ≡ (reply.Refused NoHandle, w)
  cut_refused = rw no_handle refl

  write_refused : step w (asked.Write handle 0 bytes) ≡ (reply.Refused NoHandle, w)
  write_refused = rw no_handle refl

  close_refused : step w (asked.Close handle) ≡ (reply.Refused NoHandle, w)
  close_refused = rw no_handle refl

  full_open : (step w (asked.OpenWrite path)).1 ≡ w → (session w path bytes).0 ≡ reply.Refused NoHandle
  full_open same =
      ap (λ (u : World). (step ((step ((step u (asked.Truncate handle 0)).1) (asked.Write handle 0 bytes)).1) (asked.Close handle)).0) same
      ∙ ap (λ (answer : Reply × World). (step ((step (answer.1) (asked.Write handle 0 bytes)).1) (asked.Close handle)).0) cut_refused
      ∙ ap (λ (answer : Reply × World). (step (answer.1) (asked.Close handle)).0) write_refused
      ∙ ap (λ (answer : Reply × World). answer.0) close_refused

  module _ (short : length bytes ≤ longest_content) (handles : nat_le w.limits.handles w.made.handles ≡ false) (versions : nat_le w.limits.versions (versions_made w) ≡ false) where
    open_is : step w (asked.OpenWrite path) ≡ (reply.Handle handle, drafting first)
    open_is = rw (named, handles, undrafted, versions) refl

    cut_is : step (drafting first) (asked.Truncate handle 0) ≡ (reply.Done, drafting cut)
    cut_is = rw writer refl

    abbrev written : World
    written = cond (length bytes == 0) (drafting cut) (drafting laid)

    write_is : step (drafting cut) (asked.Write handle 0 bytes) ≡ (reply.Done, written)
    write_is = by (length bytes == 0) refl where
      by : (b : Bool) → (length bytes == 0) ≡ b → step (drafting cut) (asked.Write handle 0 bytes) ≡ (reply.Done, cond (length bytes == 0) (drafting cut) (drafting laid))
      by true none = rw (writer, none) refl
      by false some = let fits : nat_lt longest_content (0 + length bytes) ≡ false = grind (arith, nat_tests, short) in rw (writer, some, fits) refl

    session_is : session w path bytes ≡ step written (asked.Close handle)
    session_is =
        ap (λ (answer : Reply × World). step ((step ((step (answer.1) (asked.Truncate handle 0)).1) (asked.Write handle 0 bytes)).1) (asked.Close handle)) open_is
        ∙ ap (λ (answer : Reply × World). step ((step (answer.1) (asked.Write handle 0 bytes)).1) (asked.Close handle)) cut_is
        ∙ ap (λ (answer : Reply × World). step (answer.1) (asked.Close handle)) write_is

    abbrev Saves : Type 0
    Saves = session w path bytes ≡ (reply.Closed (Some next), with_handles handle saved)

    abbrev Leaves : Type 0
    Leaves = ((session w path bytes).0 ≡ reply.Closed None) × (bytes ≡ []) × (content_of (current_cells w file) ≡ [])

    -- the session saves, or the file was empty and stays so
    told : Saves ⊎ Leaves
    told = by (length bytes == 0) refl (length (content_of (current_cells w file)) == 0) refl where
      by : (b : Bool) → (length bytes == 0) ≡ b → (c : Bool) → (length (content_of (current_cells w file)) == 0) ≡ c → Saves ⊎ Leaves
      by false some c is =
          let only = edited cut (fitted_by next 0 (new_draft w file)) (changed_by next 0 bytes) (λ row. refl) emptied in
          inl (session_is ∙ rw some (closes laid (changed_by next 0 bytes (fitted_by next 0 (new_draft w file))) only refl is_cut.opened (ap (cells_after_write next 0 bytes) is_cut.cells)))
      by true none false is =
          let empty : bytes ≡ [] = nil_from_length bytes (grind (arith, nat_tests, none)) in
          let changed : (fitted_by next 0 (new_draft w file)).changed ≡ true = rw is refl in
          inl (session_is ∙ rw none (closes cut (fitted_by next 0 (new_draft w file)) emptied changed is_cut.opened (is_cut.cells ∙ rw empty (sym (nothing_saved next)))))
      by true none true is =
          let same : (fitted_by next 0 (new_draft w file)).changed ≡ false = rw is refl in
          inr (
            ap (λ (answer : Reply × World). answer.0) session_is ∙ rw none (leaves cut (fitted_by next 0 (new_draft w file)) emptied same),
            nil_from_length bytes (grind (arith, nat_tests, none)),
            nil_from_length (content_of (current_cells w file)) (grind (arith, nat_tests, is)),
          )

    save_is : step w (asked.Save path bytes) ≡ (reply.Version next, saved)
    save_is =
        let place = file_place w.names path file named in
        let fits : nat_lt longest_content (length bytes) ≡ false = grind (arith, nat_tests, short) in
        rw (place.home, place.stands, fits, undrafted, versions) refl

    same_save : (number : ℕ) → Saves ⊎ Leaves → (session w path bytes).0 ≡ reply.Closed (Some number) → step w (asked.Save path bytes) ≡ (reply.Version number, with_handles w.made.handles ((session w path bytes).1))
    same_save number (inl saves) closed =
        let same = closed_same next number (sym (ap (λ (answer : Reply × World). answer.0) saves) ∙ closed) in
        save_is
        ∙ subst (λ (u : World). ◌≡◌ {A = Reply × World} (reply.Version next, saved) (reply.Version number, with_handles w.made.handles u)) (sym (ap (λ (answer : Reply × World). answer.1) saves))
        (ap {B = Reply × World} (λ n. (reply.Version n, saved)) same)
    same_save number (inr left) closed = absurd (closed_other number (sym left.0 ∙ closed))

-- ---- the laws

pub save_is_session : (w : World) (path : List (List ℕ)) (bytes : List ℕ) (file number : ℕ) → HasParts w → file_now w.names path ≡ Ok file → has_draft w file ≡ false → length bytes ≤ longest_content → (session w path bytes).0 ≡ reply.Closed (Some number) → step w (asked.Save path bytes) ≡ (reply.Version number, with_handles w.made.handles ((session w path bytes).1))
save_is_session w path bytes file number k named undrafted short closed = by (nat_le w.limits.handles w.made.handles) refl (nat_le w.limits.versions (versions_made w)) refl where
  by : (b : Bool) → nat_le w.limits.handles w.made.handles ≡ b → (c : Bool) → nat_le w.limits.versions (versions_made w) ≡ c → step w (asked.Save path bytes) ≡ (reply.Version number, with_handles w.made.handles ((session w path bytes).1))
  by true full c is = let refused = full_open w k path bytes file named undrafted (rw (named, full) refl) in absurd cc
  by false room true full = let refused = full_open w k path bytes file named undrafted (rw (named, room, undrafted, full) refl) in absurd cc
  by false handles false versions = same_save w k path bytes file named undrafted short handles versions number (told w k path bytes file named undrafted short handles versions) closed

-- what a save that replies with a version had before it
record CouldSave (w : World) (bytes : List ℕ) (file number : ℕ) : Type 0 where
  short : length bytes ≤ longest_content
  undrafted : has_draft w file ≡ false
  versions : nat_le w.limits.versions (versions_made w) ≡ false
  numbered : next_of w.files file ≡ number

could_save : (w : World) (path : List (List ℕ)) (bytes : List ℕ) (file number : ℕ) → file_now w.names path ≡ Ok file → (step w (asked.Save path bytes)).0 ≡ reply.Version number → CouldSave w bytes file number
could_save w path bytes file number named = in_all w (λ answer. answer.0 ≡ reply.Version number → CouldSave w bytes file number) (plan w (asked.Save path bytes)) (λ refusal said. absurd cc) (λ at found standing stood fits.
    let place = file_place w.names path file named in
    let here : at ≡ place.at = cc in
    let stands : live_target w.names at.0 at.1 ≡ Some (File file) = rw here place.stands in (
      λ none files names versions said. let free = standing_free _ standing stood none in absurd (grind (arith, stands, free)),
      λ of is drafts versions said.
          let its = standing_is _ standing of stood is in
          let same : of ≡ file = cc in
          record { short = grind (arith, nat_tests, fits); undrafted = rw (← same) drafts; versions = versions; numbered = cc },
    ))

pub session_is_save : (w : World) (path : List (List ℕ)) (bytes : List ℕ) (file number : ℕ) → HasParts w → file_now w.names path ≡ Ok file → w.made.handles < w.limits.handles → (step w (asked.Save path bytes)).0 ≡ reply.Version number
    → ((session w path bytes).0 ≡ reply.Closed (Some number)) ⊎ ((bytes ≡ []) × (content_of (current_cells w file) ≡ []))
session_is_save w path bytes file number k named room said =
    let could = could_save w path bytes file number named said in
    by could.numbered (told w k path bytes file named could.undrafted could.short (grind (arith, nat_tests, room)) could.versions) where
      by : next_of w.files file ≡ number → (session w path bytes ≡ (reply.Closed (Some (next_of w.files file)), with_handles (w.made.handles + 1) (after_change w (Append file w.now (cells_by (next_of w.files file) bytes))))) ⊎ (((session w path bytes).0 ≡ reply.Closed None) × (bytes ≡ []) × (content_of (current_cells w file) ≡ []))
          → ((session w path bytes).0 ≡ reply.Closed (Some number)) ⊎ ((bytes ≡ []) × (content_of (current_cells w file) ≡ []))
      by numbered (inl saves) = inl (ap (λ (answer : Reply × World). answer.0) saves ∙ rw numbered refl)
      by numbered (inr left) = inr (left.1, left.2)

-- ---- a create and then the save

module _ (w : World) (k : HasParts w) (path : List (List ℕ)) (bytes : List ℕ) (at : ℕ × List ℕ) (found : parent_now w.names path ≡ Ok at) (free : is_some (live_target w.names at.0 at.1) ≡ false) (files : nat_le w.limits.files w.made.files ≡ false) (names : nat_le w.limits.names w.made.names ≡ false) where
  abbrev id : ℕ
  id = w.made.files + 1

  abbrev created : World
  created = after_change w (MakeFile at.0 at.1 id (default_of w.directories at.0))

  then_saves : (number : ℕ) → (step created (asked.Save path bytes)).0 ≡ reply.Version number → step w (asked.Save path bytes) ≡ step created (asked.Save path bytes)
  then_saves number said =
      let named = ap file_at (new_leads w.names path at (File id) w.now found free) in
      let could = could_save created path bytes id number named said in
      let none : live_target w.names at.0 at.1 ≡ None = grind (arith, free) in
      let fits : nat_lt longest_content (length bytes) ≡ false = grind (arith, nat_tests, could.short) in
      let few : nat_le w.limits.versions (versions_made w + 1) ≡ false = grind (arith, nat_tests, could.versions) in
      let home = parent-push w.names (born_row at.0 at.1 (File id) w.now) path at found in
      let stands = named_stands w.names at (File id) w.now free in
      let two = made_next w at.0 at.1 (default_of w.directories at.0) k in
      let alone : step w (asked.Save path bytes) ≡ (reply.Version 2, after_change created (Append id w.now (cells_by 2 bytes))) = rw (found, none, fits, files, names, few) refl in
      let both : step created (asked.Save path bytes) ≡ (reply.Version 2, after_change created (Append id w.now (cells_by 2 bytes))) = rw (home, stands, fits, could.undrafted, could.versions, two) refl in
      alone ∙ sym both

pub save_creates : (w : World) (path : List (List ℕ)) (bytes : List ℕ) (file number : ℕ) → HasParts w → (step w (asked.Create path)).0 ≡ reply.File file → (step ((step w (asked.Create path)).1) (asked.Save path bytes)).0 ≡ reply.Version number
    → step w (asked.Save path bytes) ≡ step ((step w (asked.Create path)).1) (asked.Save path bytes)
save_creates w path bytes file number k = in_all w (λ answer. answer.0 ≡ reply.File file → (step (answer.1) (asked.Save path bytes)).0 ≡ reply.Version number → step w (asked.Save path bytes) ≡ step (answer.1) (asked.Save path bytes)) (plan w (asked.Create path)) (λ refusal made said. absurd cc)
    (λ at found free files names versions made said. then_saves w k path bytes at found free files names number said)
