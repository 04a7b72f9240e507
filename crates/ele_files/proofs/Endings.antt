-- The rows of a file when its next version closes, and the file at its place.
use Rattle.ele_files.proofs.Words.{AllByRecursion, AllLater, AreInOrder, Bool, CanEndAt, EndsInTime, File, HasAppended, HasRows, IsFileKept, IsRowOf, IsRowPast, IsSomeAnd, Layout, List, LogRow, None, Option, Precedes, Some, [], all-append, all-both, all_found, all-update_first, all-weaker, ap, arith, ended_by, ended_rows, false, find, has_number, is_some, last_of, later-push, later-update_first, nat_tests, next_row, refl, update_first, update_last, ℕ, ◌+◌, ◌-◌, ◌∙◌, ◌∷◌, ◌≡◌, bucket_changes, AllSessions, HeldRows, IsPast, Keeps, Store, file_row, get_or, held_in, is_id, map-all, position, set, ◌<◌, current_ended, ended_at, flat_map, is_version, local-update_first, map, row_in, rows_in, stock_of}
use Rattle.ele_inode_log.specs.Rows.{ended_at as log_ended_at}
use Rattle.ele_files.proofs.Exchanges.{rows_same, same_keeps, same_shows, IsReached, reached, after, keeps_over, drafts_over}
use Rattle.ele_files.proofs.Stock.{IsSeen, over, rows_ended}
use Rattle.ele_files.proofs.Rows.{tagged, file_of, file_past, own_version, ended_shown, its_id, next_found}

-- a row without an end is the last
pub record IsLastRow (rows : List LogRow) (number now : ℕ) (row : LogRow) : Type 0 where
  pub last : last_of rows ≡ Some row
  pub ended : update_last (log_ended_at now) rows ≡ update_first (has_number number) (ended_by now) rows

not_some : (o : Option ℕ) (P : ℕ → Type 0) → o ≡ None → IsSomeAnd o P → ⊥
not_some o P e h = rw e at h

pub last_row : (rows : List LogRow) (number now : ℕ) (row : LogRow) → AllLater Precedes rows → find (has_number number) rows ≡ Some row → row.ended ≡ None → IsLastRow rows number now row
last_row [] number now row order found endless = absurd cc
last_row (x ∷ []) number now row order found endless = record { last = grind (arith, nat_tests, found); ended = grind (arith, nat_tests, found, endless) }
last_row (x ∷ y ∷ rows) number now row order found endless = grind (arith, nat_tests, not_some, last_row (y ∷ rows) number now row order.1)

pub can_end : (rows : List LogRow) (number now : ℕ) (row : LogRow) → AllByRecursion (IsRowPast now) rows → AllLater Precedes rows → find (has_number number) rows ≡ Some row → row.ended ≡ None → IsSomeAnd (last_of rows) (CanEndAt now)
can_end rows number now row past order found endless =
    rw (last_row rows number now row order found endless).last (record { no_end = endless; closed = (all_found (has_number number) (IsRowPast now) rows row found past).closed })

pub no_end : (o : Option ℕ) → is_some o ≡ false → o ≡ None
no_end o h = grind arith

module _ (next now : ℕ) (new : LogRow) (number : new.number ≡ next) (closed : new.closed ≡ now) where
  -- no row is after the one before the next
  none_behind : (x : LogRow) (rows : List LogRow) → x.number + 1 ≡ next → AllByRecursion (Precedes x) rows → AllByRecursion (IsRowOf next) rows → AllByRecursion (λ row. Precedes row new) rows
  none_behind x [] is later known = tt
  none_behind x (y ∷ rows) is later known = absurd (let a = later.0.number in let b = known.0.number in omega arith)

  pub all_precede : (rows : List LogRow) → AllLater Precedes rows → AllByRecursion (IsRowOf next) rows → AllByRecursion (IsRowPast now) rows → AllByRecursion (λ row. Precedes row new) (update_first (has_number (next - 1)) (ended_by now) rows)
  all_precede [] order known past = tt
  all_precede (x ∷ rows) order known past = grind (arith, nat_tests, none_behind, all_precede rows order.1 known.1 past.1)

-- a file whose version before the next one ends
module _ (f : File) (now : ℕ) (kept : IsFileKept f) (past : AllByRecursion (IsRowPast now) f.log.rows) where
  pub of_rows : AllByRecursion (IsRowOf f.next) (ended_rows f now)
  of_rows = all-update_first (has_number (f.next - 1)) (IsRowOf f.next) (IsRowOf f.next) (ended_by now) f.log.rows (λ row h. record { first = h.first; number = h.number; open_end = λ endless. absurd cc }) (λ row h. h) kept.rows

  pub ended_order : AreInOrder (ended_rows f now)
  ended_order = record {
    ends = all-update_first (has_number (f.next - 1)) (λ row. EndsInTime row × IsRowPast now row) EndsInTime (ended_by now) f.log.rows (λ row h. let e = h.0 in let p = h.1.closed in grind (arith, e, p)) (λ row h. h.0) (all-both EndsInTime (IsRowPast now) f.log.rows kept.order.ends past);
    order = later-update_first (has_number (f.next - 1)) Precedes (ended_by now) f.log.rows (λ x y h. record { number = h.number; ended = let e = h.ended in grind (arith, e) }) (λ x y h. record { number = h.number; ended = h.ended }) kept.order.order;
  }

  pub ended_kept : (g : File) → HasRows f g (ended_rows f now) → IsFileKept g
  ended_kept g ended = record { next = rw ended.next kept.next; rows = rw (ended.next, ended.rows) of_rows; order = rw ended.rows ended_order }

  -- and the row of its next version
  module _ (opened : ℕ) (live : Bool) (cells : Layout) where
    abbrev new : LogRow
    new = next_row f.next opened now live cells

    before_new : AllByRecursion (λ row. Precedes row new) (ended_rows f now)
    before_new = all_precede f.next now new refl refl f.log.rows kept.order.order kept.rows past

    pub closed_kept : (g : File) → HasAppended f g now new → IsFileKept g
    closed_kept g closed = record {
      next = rw closed.next (omega arith);
      rows = rw (closed.next, closed.rows) (all-append (IsRowOf (f.next + 1)) (ended_rows f now) (new ∷ []) (all-weaker (λ row. IsRowOf f.next row × Precedes row new) (IsRowOf (f.next + 1)) (ended_rows f now) (λ row h. grind (arith, nat_tests, not_some)) (all-both (IsRowOf f.next) (λ row. Precedes row new) (ended_rows f now) of_rows before_new)) (record { first = kept.next; number = omega arith; open_end = λ endless. refl }, tt));
      order = rw closed.rows (record { ends = all-append EndsInTime (ended_rows f now) (new ∷ []) ended_order.ends (grind (arith, nat_tests), tt); order = later-push Precedes (ended_rows f now) new ended_order.order before_new });
    }

module _ (s : Store) (files : List File) (a : AllSessions) (kept : Keeps s files a) (file i : ℕ) (f : File) (place : Some i ≡ position (is_id file) files) (is : f ≡ get_or files i f) where
  abbrev at : IsReached files file i f
  at = reached files file i f place is

  pub its_kept : IsFileKept f
  its_kept = all_found (is_id file) IsFileKept files f at.found kept.files_kept

  pub its_past : (now : ℕ) → AllByRecursion (IsPast now) (held_in s files a).versions → AllByRecursion (IsRowPast now) f.log.rows
  its_past now past = file_past s files file f now at.found past

  pub its_few : (n : ℕ) → AllByRecursion (λ row. row.next < n) (held_in s files a).files → f.next < n
  its_few n few = all_found (is_id file) (λ x. x.next < n) files f at.found (map-all file_row (λ row. row.next < n) files few)

  -- with reserved memory the rows are the same
  module _ (log : HeldRows) (rows_stay : log.rows ≡ f.log.rows) where
    abbrev k : File
    k = record f { log = log }

    pub waits : IsSeen s (set files i k) a (held_in s files a)
    waits = rw (at.changed k refl refl) (record { keeps = same_keeps files file f k at.found s a kept refl rows_stay its_kept; shows = same_shows files file f k at.found s a kept refl rows_stay })

    pub ready_past : (now : ℕ) → AllByRecursion (IsPast now) (held_in s files a).versions → AllByRecursion (IsRowPast now) log.rows
    ready_past now past = rw rows_stay (its_past now past)

  -- its version before the next one ends
  module _ (now : ℕ) (g : File) (past : AllByRecursion (IsPast now) (held_in s files a).versions) (ended : HasRows f g (ended_rows f now)) where
    versions_end : update_first (is_version file (f.next - 1)) (ended_at now) (flat_map (rows_in s) files) ≡ flat_map (rows_in s) (after files file f g at.found)
    versions_end = bucket_changes (λ (x : File). x.id) (rows_in s) file_of (tagged s) file (update_first (is_version file (f.next - 1)) (ended_at now)) (local-update_first file_of file (is_version file (f.next - 1)) (own_version file (f.next - 1)) (ended_at now)) (over g) files f kept.rise at.found (ap (map (row_in s f.id)) ended.rows ∙ ended_shown s f now file (its_id files file f at.found))

    pub ends : IsSeen s (set files i g) a (current_ended (held_in s files a) file now)
    ends = rw (at.changed g ended.id ended.policy) (record {
      keeps =
          let stocked = kept.laws.same s (stock_of files a.drafts) (stock_of (after files file f g at.found) a.drafts) (rows_ended files a.drafts file f g at.found now ended.rows) kept.stocked in
          let g_kept = ended_kept f now its_kept (its_past now past) g ended in
          keeps_over files file f g at.found s s a a kept g_kept stocked (drafts_over files file f g at.found ended.next a.drafts kept.drafts_kept);
      shows = rw (next_found files file (Some f) at.found, versions_end, rows_same files file f g at.found ended.next) refl;
    })
