-- What goes with a handle, and what the last writer of a changed draft leaves.
use Rattle.ele_files.proofs.Words.{LivesIn, subst, AllByRecursion, AllSessions, Became, Bool, Draft, EndDraft, Err, File, HasAppended, Held, HeldRows, IsDraftKept, IsGivenUp, IsPast, Keeps, Layout, List, None, Ok, OnErr, Option, Reads, Refusal, Result, Rises, ShutHandle, Some, Store, [], after_changes, all_found, all_not_found, all-remove_first, ap, arith, cells_of_draft, changed_at, closed, closed_of, closing, closing_of, cond, content_of, draft_in, draft_stock, false, file_by, file_closing, file_row, find, finishing, get_or, held_in, is_draft, is_id, is_some, is_writer, last_draft, leaving, left_by, left_drafts, left_handles, left_of, length, list_any, map, nat_tests, next_of, next_row, opening_by, opening_of, option_and_then, option_map, position, reads_by, refl, remove_first, remove_first-map, remove_first_unfound, row_stock, rows_of, set, stock_of, sym, true, with_rows, ℕ, ◌∙◌, ◌∷◌, ◌≡◌}
use Rattle.ele_files.proofs.Drafts.{dropped, drafts_apart, its_file}
use Rattle.ele_files.proofs.Stock.{IsSeen, draft_apart, draft_lives}
use Rattle.ele_files.proofs.Rows.{draft_found, no_file, next_found, its_id, file_past}
use Rattle.ele_files.proofs.Appends.{appended_keeps, appended_shows}
use Rattle.ele_files.proofs.Exchanges.{IsReached, reached}
use Rattle.ele_model.specs.World as world
use Rattle.ele_model.specs.declared.rows.Reads.TheVariants as reads

-- the map that the close returns
abbrev pub given : AllSessions → ℕ → Option Layout
given ss handle = option_and_then (λ answer. answer.1) (closing ss handle)

-- the sessions without the handle, and without the file's draft if no other writes it
abbrev pub without_handle : AllSessions → ℕ → ℕ → Bool → AllSessions
without_handle ss handle file stays = record ss { drafts = left_drafts stays file ss.drafts; handles = left_handles ss handle }

module _ (s : Store) (files : List File) (ss : AllSessions) (handle : ℕ) where
  abbrev shown : Held
  shown = held_in s files ss

  pub last_shown : (file : ℕ) → last_draft shown handle file ≡ cond (list_any (is_writer file) (left_handles ss handle)) None (option_map (draft_in s) (find (is_draft file) ss.drafts))
  last_shown file = rw (draft_found s file ss.drafts) refl

  -- ---- what is asked before

  pub opening_shown : opening_of (option_map (λ answer. answer.0) (closing ss handle)) ≡ opening_by shown handle
  opening_shown = grind (arith, nat_tests, last_shown)

  -- ---- the handle is left

  module _ (kept : Keeps s files ss) where
    -- the returned map lives in the store
    pub given_lives : (m : Layout) → given ss handle ≡ Some m → LivesIn s m
    given_lives m = by (reads_by ss.handles handle) where
      ends : (file : ℕ) (b : Bool) (o : Option Draft) → find (is_draft file) ss.drafts ≡ o → (file_closing b o).1 ≡ Some m → LivesIn s m
      ends file true o found is = absurd cc
      ends file false None found is = absurd cc
      ends file false (Some d) found is = let same : d.layout ≡ m = cc in subst (LivesIn s) same (draft_lives s files ss kept file d found)

      by : (o : Result Reads Refusal) → option_and_then (λ answer. answer.1) (closing_of ss handle o) ≡ Some m → LivesIn s m
      by (Err refusal) is = absurd cc
      by (Ok (reads.Version file version)) is = absurd cc
      by (Ok (reads.Draft file)) is = ends file (list_any (is_writer file) (left_handles ss handle)) (find (is_draft file) ss.drafts) refl is

    module _ (t : Store) where
      pub leaves : IsGivenUp s t (given ss handle) → IsSeen t files (closed ss handle) (left_by shown handle)
      leaves = by (reads_by ss.handles handle) where
        stays : (file : ℕ) (b : Bool) → left_drafts b file ss.drafts ≡ ss.drafts → t ≡ s → IsSeen t files (without_handle ss handle file b) (changed_at shown 0 (leaving handle file false))
        stays file b drafts gone = grind (arith, nat_tests)

        ends : (file : ℕ) (b : Bool) (o : Option Draft) → find (is_draft file) ss.drafts ≡ o → IsGivenUp s t (file_closing b o).1 → IsSeen t files (without_handle ss handle file b) (changed_at shown 0 (leaving handle file (is_some (cond b None (option_map (draft_in s) o)))))
        ends file true o found gone = stays file true refl gone
        ends file false None found gone = stays file false (remove_first_unfound (is_draft file) ss.drafts (all_not_found (is_draft file) ss.drafts found)) gone
        ends file false (Some d) found gone = dropped s t files ss (without_handle ss handle file false) kept file d found gone refl

        by : (o : Result Reads Refusal) → IsGivenUp s t (option_and_then (λ answer. answer.1) (closing_of ss handle o)) → IsSeen t files (closed_of ss handle o) (left_of shown handle o)
        by (Err refusal) gone = record { keeps = rw gone kept; shows = rw gone refl }
        by (Ok (reads.Version file version)) gone = grind (arith, nat_tests)
        by (Ok (reads.Draft file)) gone = rw (last_shown file) (ends file (list_any (is_writer file) (left_handles ss handle)) (find (is_draft file) ss.drafts) refl gone)

-- ---- a version is made of the draft

-- the draft that goes with the handle, and what the sessions make of it
pub record IsLast (ss : AllSessions) (handle file opened : ℕ) : Type 0 where
  pub draft : Draft
  pub found : find (is_draft file) ss.drafts ≡ Some draft
  pub out : given ss handle ≡ Some draft.layout
  pub left : closed ss handle ≡ without_handle ss handle file false

-- what the files and the sessions are then
pub record IsFinished (s : Store) (was : Held) (handle file opened now : ℕ) (live : Bool) (next size : ℕ) (files : List File) (ss : AllSessions) : Type 0 where
  pub keeps : Keeps s files ss
  pub number : next ≡ next_of was.files file
  pub long : size ≡ length (content_of (cells_of_draft was file))
  pub shows : Became was now file live (finishing was handle file opened) (held_in s files ss)

module _ (s : Store) (files : List File) (ss : AllSessions) (handle file opened : ℕ) (kept : Keeps s files ss) (writes : file_by (held_in s files ss).handles handle ≡ Ok file) (ends : opening_by (held_in s files ss) handle ≡ Some opened) where
  abbrev rows : Held
  rows = held_in s files ss

  pub is_last : IsLast ss handle file opened
  is_last = grind (arith, nat_tests, last_shown s files ss handle file, writes, ends)

  abbrev d : Draft
  d = is_last.draft

  pub its_map : given ss handle ≡ Some d.layout
  its_map = is_last.out

  -- and how many bytes it has
  its_length : d.layout.size ≡ length (content_of (cells_of_draft rows file))
  its_length = rw (draft_found s file ss.drafts, is_last.found) (sym (kept.laws.long s d.layout (draft_lives s files ss kept file d is_last.found)))

  d_kept : IsDraftKept files d
  d_kept = all_found (is_draft file) (IsDraftKept files) ss.drafts d is_last.found kept.drafts_kept

  is_file : d.file ≡ file
  is_file = its_file file ss.drafts d is_last.found

  its_next : d.number ≡ next_of (map file_row files) file
  its_next = d_kept.number ∙ ap (next_of (map file_row files)) is_file

  -- the draft's file is there
  pub not_missing : position (is_id file) files ≡ None → ⊥
  not_missing missing = omega (arith, d_kept.there, its_next, next_found files file None (no_file files file (sym missing)))

  -- the file at its place, with reserved memory for the version
  module _ (i : ℕ) (f : File) (place : Some i ≡ position (is_id file) files) (is : f ≡ get_or files i f) (log : HeldRows) (rows_stay : log.rows ≡ f.log.rows) where
    abbrev at : IsReached files file i f
    at = reached files file i f place is

    abbrev k : File
    k = record f { log = log }

    pub next_is : next_of (map file_row files) file ≡ f.next
    next_is = next_found files file (Some f) at.found

    module _ (now : ℕ) (live : Bool) (m : Layout) (out : given ss handle ≡ Some m) (l : File) (appended : HasAppended k l now (next_row f.next opened now live m)) (past : AllByRecursion (IsPast now) rows.versions) where
      f_appended : HasAppended f l now (next_row f.next opened now live d.layout)
      f_appended = grind (arith, nat_tests, its_map)

      long : m.size ≡ length (content_of (cells_of_draft rows file))
      long = let e = sym out ∙ its_map in let same : m ≡ d.layout = cc in rw same its_length

      tag_is : draft_stock d ≡ row_stock f.id (next_row f.next opened now live d.layout)
      tag_is = rw (its_next, next_is, is_file, its_id files file f at.found) refl

      pub keeps_it : Rises (λ (x : Draft). x.file) ss.drafts → Keeps s (set files i l) (closed ss handle)
      keeps_it rise =
          let stocked = kept.laws.same s (stock_of files ss.drafts) (draft_stock d ∷ stock_of files (remove_first (is_draft file) ss.drafts)) (draft_apart files ss.drafts (is_draft file) d is_last.found) kept.stocked in
          rw (at.changed l appended.id appended.policy, is_last.left) (appended_keeps s files file f l at.found kept.rise kept.files_kept opened now live d.layout f_appended (file_past s files file f now at.found past) kept.laws (without_handle ss handle file false) (all-remove_first (is_draft file) (IsDraftKept files) ss.drafts kept.drafts_kept) (drafts_apart file ss.drafts rise) (rw tag_is at stocked))

      pub shows_it : Became rows now file live (finishing rows handle file opened) (held_in s (set files i l) (closed ss handle))
      shows_it w time lives =
          rw (at.changed l appended.id appended.policy, is_last.left, cells)
          (appended_shows s files file f l at.found kept.rise kept.files_kept opened now live d.layout f_appended (file_past s files file f now at.found past) (without_handle ss handle file false) (after_changes (with_rows w rows) (ShutHandle handle ∷ EndDraft file ∷ [])) left time lives)
        where
          cells : cells_of_draft rows file ≡ (draft_in s d).cells
          cells = rw (draft_found s file ss.drafts, is_last.found) refl

          left : rows_of (after_changes (with_rows w rows) (ShutHandle handle ∷ EndDraft file ∷ [])) ≡ held_in s files (without_handle ss handle file false)
          left = rw (remove_first-map (draft_in s) (world.is_draft file) (is_draft file) (λ x. refl) ss.drafts) refl

      pub finished : Rises (λ (x : Draft). x.file) ss.drafts → IsFinished s rows handle file opened now live f.next m.size (set files i l) (closed ss handle)
      finished rise = record { keeps = keeps_it rise; number = sym next_is; long = long; shows = shows_it }

pub on_err : {T E : Type 0} (r : Result T E) (P : Type 0) → P → OnErr r P
on_err x0 x1 p = grind (arith, nat_tests)
