-- Rows in order, after each change, and which of them lives at a moment.
pub use Rattle.ele_lists.proofs.Keys.{remove_first-key as remove_first_key}
pub use Rattle.ele_rows.proofs.Parted.{before_sinks, behind_sinks}
pub use Rattle.ele_lists.proofs.Shown.{is_some-copied as is_some_copied}
pub use Rattle.ele_lists.proofs.Alls.{all-place as all_place}
use Rattle.std.proofs.Common.{◌≡◌, ℕ, ◌<◌, ◌≤◌, Bool, true, false, cond, List, [], ◌∷◌, ◌++◌, reverse, Some, None, refl, sym, ap, ◌∙◌, arith}
use Rattle.std.specs.Prelude.{find, is_some, IsSomeAnd}
use Rattle.std.specs.Option.{option_or, ForSome}
use Rattle.std.specs.List.{AllByRecursion, list_any}
use Rattle.std.proofs.lemmas.Bool.Decides.{nat_tests}
use Rattle.ele_inode_log.specs.declared.row.VersionRow.{VersionRow}
use Rattle.ele_inode_log.specs.Rows.{AllLater, AreInOrder, Precedes, EndsInTime, CanEndAt, last_of, update_last, ended_at, has_closed_by, ends_after, lives_at}
use Rattle.ele_lists.specs.Last.{last_passing, passing}
use Rattle.ele_lists.specs.Lists.{remove_first}
use Rattle.ele_rows.specs.Chunks.{Sinks}
use Rattle.ele_lists.specs.Keys.{Rises}
use Rattle.ele_lists.proofs.Edits.{all-weaker, all-both, later-push, all-remove_first, later-remove_first}
use Rattle.ele_lists.proofs.Alls.{all-append, later-weaker}
use Rattle.ele_lists.proofs.Ends.{later-update_last, find_last-cons, find_last-is_some}
use Rattle.ele_lists.proofs.Lasts.{find_last}

pub closes_first : (earlier later : VersionRow) → EndsInTime earlier → Precedes earlier later → earlier.closed ≤ later.closed
closes_first earlier later ends precedes = grind (arith, ends, precedes.ended)

precedes_through : (a b c : VersionRow) → Precedes a b → EndsInTime b → Precedes b c → Precedes a c
precedes_through a b c first ends second = grind (arith, first.number, second.number, first.ended, closes_first b c ends second)

-- numbers rise, and closings don't fall
pub numbers_rise : (rows : List VersionRow) → AreInOrder rows → Rises (λ row. row.number) rows
numbers_rise rows order = later-weaker Precedes (λ earlier later. earlier.number < later.number) rows (λ earlier later precedes. precedes.number) order.order

pub closings_sink : (moment : ℕ) (rows : List VersionRow) → AreInOrder rows → AllLater (Sinks (has_closed_by moment)) rows
closings_sink moment [] order = tt
closings_sink moment (row ∷ rows) order =
    (all-weaker (Precedes row) (Sinks (has_closed_by moment) row) rows (λ next precedes h. grind (arith, nat_tests, closes_first row next order.ends.0 precedes, h)) order.order.0, closings_sink moment rows (record { ends = order.ends.1; order = order.order.1 }))

-- what the last row precedes, all rows precede
pub all_precede : (rows : List VersionRow) (row : VersionRow) → AllByRecursion EndsInTime rows → AllLater Precedes rows → ForSome (last_of rows) (λ last. Precedes last row) → AllByRecursion (λ held. Precedes held row) rows
all_precede [] row ends order last = tt
all_precede (one ∷ []) row ends order last = (last one refl, tt)
all_precede (one ∷ two ∷ rows) row ends order last = grind (arith, precedes_through one two row, all_precede (two ∷ rows) row ends.1 order.1 last)

pub in_order_pushed : (rows : List VersionRow) (row : VersionRow) → AreInOrder rows → ForSome (last_of rows) (λ last. Precedes last row) → EndsInTime row → AreInOrder (rows ++ row ∷ [])
in_order_pushed rows row order last ends = grind (arith, all-append EndsInTime rows (row ∷ []) order.ends, later-push Precedes rows row order.order, all_precede rows row order.ends order.order last)

pub in_order_removed : (p : VersionRow → Bool) (rows : List VersionRow) → AreInOrder rows → AreInOrder (remove_first p rows)
in_order_removed p rows order = assumption (all-remove_first p EndsInTime rows order.ends, later-remove_first p Precedes rows order.order)

ends-update_last : (moment : ℕ) (rows : List VersionRow) → IsSomeAnd (last_of rows) (CanEndAt moment) → AllByRecursion EndsInTime rows → AllByRecursion EndsInTime (update_last (ended_at moment) rows)
ends-update_last moment [] can ends = tt
ends-update_last moment (row ∷ []) can ends = (can.closed, tt)
ends-update_last moment (row ∷ next ∷ rows) can ends = (ends.0, ends-update_last moment (next ∷ rows) can ends.1)

pub in_order_ended : (moment : ℕ) (rows : List VersionRow) → IsSomeAnd (last_of rows) (CanEndAt moment) → AreInOrder rows → AreInOrder (update_last (ended_at moment) rows)
in_order_ended moment rows can order = assumption (ends-update_last moment rows can order.ends, later-update_last Precedes (ended_at moment) rows (λ earlier later h. record { number = h.number; ended = h.ended }) order.order)

-- a row that ended when a later one closed doesn't live at moments by which that one had closed
ended_by : (moment : ℕ) (row later : VersionRow) → Precedes row later → has_closed_by moment later ≡ true → ends_after moment row ≡ false
ended_by moment row later precedes closed = grind (arith, nat_tests, closed, precedes.ended)

-- a search from the end finds the last row that passes
pub last_reversed : (p : VersionRow → Bool) (rows : List VersionRow) → find p (reverse rows) ≡ last_passing p rows
last_reversed p [] = refl
last_reversed p (row ∷ rows) = find_last-cons p row rows ∙ ap (λ o. option_or o (cond (p row) (Some row) None)) (last_reversed p rows)

pub last_is_some : (p : VersionRow → Bool) (rows : List VersionRow) → is_some (last_passing p rows) ≡ list_any p rows
last_is_some p rows = ap is_some (sym (last_reversed p rows)) ∙ find_last-is_some p rows

-- if a version lives at the moment, it is the last that had closed by then
pub lives_is_last : (moment : ℕ) (rows : List VersionRow) → AllLater Precedes rows → find (lives_at moment) rows ≡ passing (ends_after moment) (last_passing (has_closed_by moment) rows)
lives_is_last moment rows order = find_last (has_closed_by moment) (ends_after moment) rows (later-weaker Precedes (λ row later. has_closed_by moment row ≡ true → has_closed_by moment later ≡ true → ends_after moment row ≡ false) rows (λ row later precedes both closed. ended_by moment row later precedes closed) order)

-- a row that ended when a later one closed isn't the one that lives at moments at which the later one does
pub lives_alone : (moment : ℕ) (rows : List VersionRow) → AllLater Precedes rows → AllByRecursion (λ row. lives_at moment row ≡ true → find (lives_at moment) rows ≡ Some row) rows
lives_alone moment [] order = tt
lives_alone moment (row ∷ rows) order =
    ((λ lives. rw lives refl), all-weaker _ _ rows (λ later both lives. grind (arith, nat_tests, both.0, both.1 lives, ended_by moment row later)) (all-both _ _ rows order.0 (lives_alone moment rows order.1)))
