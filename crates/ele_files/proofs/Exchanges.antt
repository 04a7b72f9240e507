-- One file has other rows, as many or one fewer, or another policy.
use Rattle.ele_files.proofs.Words.{find_position, AllByRecursion, AllLater, AllSessions, Bool, Draft, EndsInTime, File, FileRow, HeldRows, IsDraftKept, IsFileKept, IsRowOf, IsStocked, Keeps, List, LivesIn, LogRow, Moves, None, Precedes, Some, Stays, Store, VersionRow, [], all_found, all_not_found, all-remove_first, all-update_first, all-weaker, ap, arith, bucket_changes, content_of, file_row, filter, find, flat_map, get_or, held_in, is_file, is_id, has_number, is_other, is_version, later-remove_first, later-update_first, length, local-remove_first, map, nat_tests, option_map, position, refl, remove_first, remove_first-map, remove_first_unfound, row_in, row_stock, rows_in, set, set-first, stock_of, sym, update_first, update_first-map, update_first_same, without, ℕ, ◌<◌, ◌∙◌, ◌∷◌, ◌≡◌, remove_first-key, later-weaker, Policy, SetFilePolicy, changed_at, file_stock, next_of, IsTrue, is_version_of, kind_of, list_any, not, policy_of, ◌↔◌}
use Rattle.ele_files.proofs.Drops.{any_held}
use Rattle.ele_files.proofs.Rows.{file_row_found, file_of, tagged, its_id, own_version, same_number, version_of}
use Rattle.ele_files.proofs.Stock.{over, rows_stay, row_apart, row_lives, IsSeen, held_stays}
use Rattle.ele_model.specs.Change as world

-- two changes of what is found that are the same there
pub update_first-alike : {X : Type 0} (p : X → Bool) (f g : X → X) (xs : List X) (x : X) → find p xs ≡ Some x → f x ≡ g x → update_first p f xs ≡ update_first p g xs
update_first-alike p f g [] x found same = refl
update_first-alike p f g (y ∷ xs) x found same = grind (arith, nat_tests, update_first-alike p f g xs x)

abbrev pub next_over : File → FileRow → FileRow
next_over g row = record row { next = g.next }

module _ (files : List File) (id : ℕ) (f g : File) (found : find (is_id id) files ≡ Some f) where
  abbrev pub after : List File
  after = update_first (is_id id) (over g) files

  pub rise_over : AllLater (λ (x y : File). x.id < y.id) files → AllLater (λ (x y : File). x.id < y.id) after
  rise_over rise = later-update_first (is_id id) (λ (x y : File). x.id < y.id) (over g) files (λ x y h. h) (λ x y h. h) rise

  pub files_over : IsFileKept g → AllByRecursion IsFileKept files → AllByRecursion IsFileKept after
  files_over is kept = all-update_first (is_id id) IsFileKept IsFileKept (over g) files (λ x h. record { next = is.next; rows = is.rows; order = is.order }) (λ x h. h) kept

  row_found : find (is_file id) (map file_row files) ≡ Some (file_row f)
  row_found = file_row_found files id ∙ ap (option_map file_row) found

  -- the rows of the files change as this file's row does
  pub rows_over : (change : FileRow → FileRow) → change (file_row f) ≡ next_over g (file_row f) → map file_row after ≡ update_first (is_file id) change (map file_row files)
  rows_over change made = sym (update_first-map file_row (is_file id) (is_id id) (λ x. refl) (next_over g) (over g) (λ x. refl) files) ∙ update_first-alike (is_file id) (next_over g) change (map file_row files) (file_row f) row_found (sym made)

  pub rows_same : g.next ≡ f.next → map file_row after ≡ map file_row files
  rows_same same = rows_over (λ row. row) (rw same refl) ∙ update_first_same (is_file id) (λ row. row) (map file_row files) (file_row f) row_found refl

  pub drafts_over : g.next ≡ f.next → (drafts : List Draft) → AllByRecursion (IsDraftKept files) drafts → AllByRecursion (IsDraftKept after) drafts
  drafts_over same drafts kept = all-weaker (IsDraftKept files) (IsDraftKept after) drafts (λ d h. record { there = h.there; number = rw (rows_same same) h.number }) kept

  -- what the fields keep then
  pub keeps_over : (s t : Store) (a b : AllSessions) → Keeps s files a → IsFileKept g → IsStocked t (stock_of after b.drafts) → AllByRecursion (IsDraftKept after) b.drafts → Keeps t after b
  keeps_over s t a b kept is stocked drafts_kept = assumption (rise_over kept.rise, files_over is kept.files_kept)

  -- the rows are the same
  module _ (s : Store) (a : AllSessions) (kept : Keeps s files a) (next : g.next ≡ f.next) (rows : g.log.rows ≡ f.log.rows) where
    pub same_file : IsFileKept f → IsFileKept g
    same_file is = record { next = rw next is.next; rows = rw (next, rows) is.rows; order = rw rows is.order }

    pub same_keeps : IsFileKept f → Keeps s after a
    same_keeps is = keeps_over s s a a kept (same_file is) (kept.laws.same s (stock_of files a.drafts) (stock_of after a.drafts) (rows_stay files a.drafts id f g found rows) kept.stocked) (drafts_over next a.drafts kept.drafts_kept)

    pub same_shows : held_in s after a ≡ held_in s files a
    same_shows = rw (sym (bucket_changes (λ (x : File). x.id) (rows_in s) file_of (tagged s) id (λ xs. xs) (record { past = λ xs ys all. refl; short = λ xs ys all. refl }) (over g) files f kept.rise found (ap (map (row_in s f.id)) rows)), rows_same next) refl

-- the file is found again, with its other rows
found_over : (files : List File) (id : ℕ) (f g : File) → find (is_id id) files ≡ Some f → find (is_id id) (update_first (is_id id) (over g) files) ≡ Some (over g f)
found_over [] id f g found = absurd cc
found_over (x ∷ files) id f g found = grind (arith, nat_tests, found, found_over files id f g)

-- ---- a version leaves its file, and its map the store

-- the file that a search reached
pub record IsReached (files : List File) (id i : ℕ) (f : File) : Type 0 where
  pub found : find (is_id id) files ≡ Some f
  pub changed : (g : File) → g.id ≡ f.id → g.policy ≡ f.policy → set files i g ≡ after files id f g found

pub reached : (files : List File) (id i : ℕ) (f : File) → Some i ≡ position (is_id id) files → f ≡ get_or files i f → IsReached files id i f
reached files id i f place is = grind (arith, nat_tests, set-first, find_position)

-- the file at its place, if no row has the number any more
module _ (s : Store) (files : List File) (a : AllSessions) (kept : Keeps s files a) (id number i : ℕ) (f : File) (place : Some i ≡ position (is_id id) files) (is : f ≡ get_or files i f) (these : HeldRows) (rows : these.rows ≡ filter (is_other number) f.log.rows) where
  abbrev at : IsReached files id i f
  at = reached files id i f place is

  abbrev g : File
  g = record f { log = these }

  its_kept : IsFileKept f
  its_kept = all_found (is_id id) IsFileKept files f at.found kept.files_kept

  left : these.rows ≡ remove_first (has_number number) f.log.rows
  left = rows ∙ sym (remove_first-key (λ (row : LogRow). row.number) number f.log.rows (later-weaker Precedes (λ (x y : LogRow). x.number < y.number) f.log.rows (λ x y p. p.number) its_kept.order.order))

  left_kept : IsFileKept g
  left_kept = record {
    next = its_kept.next;
    rows = rw left (all-remove_first (has_number number) (IsRowOf f.next) f.log.rows its_kept.rows);
    order = rw left (record { ends = all-remove_first (has_number number) EndsInTime f.log.rows its_kept.order.ends; order = later-remove_first (has_number number) Precedes f.log.rows its_kept.order.order });
  }

  versions_leave : remove_first (is_version id number) (flat_map (rows_in s) files) ≡ flat_map (rows_in s) (after files id f g at.found)
  versions_leave = bucket_changes (λ (x : File). x.id) (rows_in s) file_of (tagged s) id (remove_first (is_version id number)) (local-remove_first file_of id (is_version id number) (own_version id number)) (over g) files f kept.rise at.found (ap (map (row_in s f.id)) left ∙ sym (remove_first-map (row_in s f.id) (is_version id number) (has_number number) (same_number s f.id id number (its_id files id f at.found)) f.log.rows))

  leaves : held_in s (after files id f g at.found) a ≡ without (held_in s files a) id number
  leaves = rw (versions_leave, rows_same files id f g at.found refl) refl

  found_row : find (is_version id number) (flat_map (rows_in s) files) ≡ option_map (row_in s f.id) (find (has_number number) f.log.rows)
  found_row = version_of s id number files kept.rise f at.found

  -- the kind of its policy
  pub kind_told : option_map kind_of (policy_of (map file_row files) id) ≡ Some (kind_of f.policy)
  kind_told = rw (file_row_found files id, at.found) refl

  -- whether it holds no version any more
  pub none_left : (none : Bool) → IsTrue none ↔ (these.rows ≡ []) → not none ≡ list_any (is_version_of id) (without (held_in s files a) id number).versions
  none_left none is = any_held s id (after files id f g at.found) (rise_over files id f g at.found kept.rise) g (found_over files id f g at.found) none is ∙ ap (list_any (is_version_of id)) (sym versions_leave)

  -- the number isn't held
  pub unheld : find (has_number number) f.log.rows ≡ None → IsSeen s (set files i g) a (without (held_in s files a) id number) × (find (is_version id number) (flat_map (rows_in s) files) ≡ None)
  unheld none = (
    rw (at.changed g refl refl) (record {
      keeps = same_keeps files id f g at.found s a kept refl (left ∙ remove_first_unfound (has_number number) f.log.rows (all_not_found (has_number number) f.log.rows none)) its_kept;
      shows = leaves;
    }),
    found_row ∙ ap (option_map (row_in s f.id)) none,
  )

  -- its row has left, and the map the store
  module _ (row : LogRow) (held : find (has_number number) f.log.rows ≡ Some row) where
    pub lives : LivesIn s row.cells
    lives = row_lives s files a kept id (has_number number) f row at.found held

    module _ (t : Store) (moves : Moves s t (row.cells ∷ []) []) where
      stays : Stays s t (stock_of (after files id f g at.found) a.drafts) (stock_of (after files id f g at.found) a.drafts)
      stays = kept.laws.gone s t (stock_of files a.drafts) (row_stock f.id row) (stock_of (after files id f g at.found) a.drafts) kept.stocked (row_apart files a.drafts id f g at.found (has_number number) row held left) moves

      pub gone : IsSeen t (set files i g) a (without (held_in s files a) id number) × (option_map (λ (r : VersionRow). length (content_of r.cells)) (find (is_version id number) (flat_map (rows_in s) files)) ≡ Some row.cells.size)
      gone = (
        rw (at.changed g refl refl) (record {
          keeps = keeps_over files id f g at.found s t a a kept left_kept stays.stocked (drafts_over files id f g at.found refl a.drafts kept.drafts_kept);
          shows = held_stays s t (after files id f g at.found) a stays.shows ∙ leaves;
        }),
        rw (found_row, held) (ap (λ n. Some n) (kept.laws.long s row.cells lives)),
      )

abbrev governed : Policy → File → File
governed policy f = record f { policy = policy }

-- what each element shows stays if it shows the same after its change
pub flat_map-same : {X Y : Type 0} (h : X → List Y) (p : X → Bool) (g : X → X) (xs : List X) → ((x : X) → h (g x) ≡ h x) → flat_map h (update_first p g xs) ≡ flat_map h xs
flat_map-same h p g [] same = refl
flat_map-same h p g (x ∷ xs) same = grind (arith, nat_tests, flat_map-same h p g xs same)

module _ (s : Store) (files : List File) (a : AllSessions) (kept : Keeps s files a) (id : ℕ) (policy : Policy) where
  abbrev with_policy : List File → List File
  with_policy files = update_first (is_id id) (governed policy) files

  pub rows_after : map file_row (with_policy files) ≡ update_first (is_file id) (world.set_policy policy) (map file_row files)
  rows_after = sym (update_first-map file_row (is_file id) (is_id id) (λ x. refl) (world.set_policy policy) (governed policy) (λ x. refl) files)

  pub next_stays : (files : List File) (file : ℕ) → next_of (map file_row (with_policy files)) file ≡ next_of (map file_row files) file
  next_stays [] file = refl
  next_stays (x ∷ xs) file = grind (arith, nat_tests, is_file, next_stays xs file)

  module _ (i : ℕ) (f : File) (place : Some i ≡ position (is_id id) files) (is : f ≡ get_or files i f) where
    pub governs : IsSeen s (set files i (governed policy f)) a (changed_at (held_in s files a) 0 (SetFilePolicy id policy ∷ []))
    governs = rw (set-first (is_id id) (governed policy) files i f (governed policy f) (sym place) is refl) (record {
      keeps =
          let stocked : IsStocked s (stock_of (with_policy files) a.drafts) = rw (flat_map-same file_stock (is_id id) (governed policy) files (λ f. refl)) kept.stocked in
          let files_kept = all-update_first (is_id id) IsFileKept IsFileKept (governed policy) files (λ f h. record { next = h.next; rows = h.rows; order = h.order }) (λ f h. h) kept.files_kept in
          let drafts_kept = all-weaker (IsDraftKept files) (IsDraftKept (with_policy files)) a.drafts (λ d h. record { there = h.there; number = h.number ∙ sym (next_stays files d.file) }) kept.drafts_kept in
          assumption (later-update_first (is_id id) (λ (x y : File). x.id < y.id) (governed policy) files (λ x y h. h) (λ x y h. h) kept.rise, stocked, files_kept, drafts_kept);
      shows = rw (rows_after, flat_map-same (rows_in s) (is_id id) (governed policy) files (λ f. refl)) refl;
    })
