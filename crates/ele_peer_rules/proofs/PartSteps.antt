-- What a part marks and counts, one row at a time, from the newest on.
use Rattle.std.proofs.Common.{◌≡◌, ℕ, zero, suc, ◌+◌, ◌<◌, ◌≤◌, ◌++◌, Bool, List, [], ◌∷◌, Option, Some, length, take, drop, set, get_or, slice_get, refl, ap, subst, ◌∙◌, arith}
use Rattle.std.proofs.lemmas.Option.{slice_get_read}
use Rattle.ele_lists.specs.Ends.{last_of}
use Rattle.ele_lists.proofs.Ends.{last-take}
use Rattle.ele_peer_rules.specs.declared.limit.Since.{Since}
use Rattle.ele_rule_parts.specs.declared.part.Part.{Part}
use Rattle.ele_peer_rules.specs.declared.ways.Ways.{Ways}
use Rattle.ele_rule_parts.specs.declared.reason.Reason.{Reason}
use Rattle.ele_rule_parts.specs.declared.row.Row.{Row}
use Rattle.ele_rule_parts.specs.declared.span.Span.{Span}
use Rattle.ele_peer_rules.specs.Marks.{after_from, count, counts, is_oldest, marked, takes}

-- what is known of one turn of the loop, at the row of that place
pub record IsTurn (ways : Ways) (since : Since) (part : Part) (i : ℕ) (rows : List Row) (old current : List (Option Reason)) (counted : ℕ) (row : Row) (mark : Option Reason) : Type 0 where
  pub in_rows : i < length rows
  pub in_marks : i < length old
  pub row_is : row ≡ get_or rows i row
  pub mark_is : slice_get current i ≡ Some mark
  pub current_is : current ≡ take (suc i) old ++ after_from ways since part (Some row) (drop (suc i) rows) (drop (suc i) old)
  pub counted_is : counted ≡ count ways part.span (Some row) (drop (suc i) rows) (drop (suc i) old)

-- the row at the place is the last one up to it
pub row_before : (rows : List Row) (i : ℕ) (row : Row) → i < length rows → row ≡ get_or rows i row → last_of (take (suc i) rows) ≡ Some row
row_before rows i row lt is = last-take rows i (omega (arith, lt)) ∙ slice_get_read rows (length rows) i row refl lt is

-- no row before those that are marked has another mark yet
mark_there : (i : ℕ) (old more : List (Option Reason)) (mark : Option Reason) → i < length old → slice_get (take (suc i) old ++ more) i ≡ Some mark → slice_get old i ≡ Some mark
mark_there i [] more mark lt h = absurd (omega (arith, lt))
mark_there zero (m ∷ old) more mark lt h = h
mark_there (suc i) (m ∷ old) more mark lt h = mark_there i old more mark (omega (arith, lt)) h

-- a row more is marked
marks_more : (ways : Ways) (since : Since) (part : Part) (b : Option Row) (i : ℕ) (rows : List Row) (old : List (Option Reason)) (row d : Row) (mark : Option Reason)
    → i < length rows → row ≡ get_or rows i d → slice_get old i ≡ Some mark
    → set (take (suc i) old ++ after_from ways since part (Some row) (drop (suc i) rows) (drop (suc i) old)) i (marked ways since part (is_oldest b) (takes ways part.span b row (drop (suc i) rows)) (count ways part.span (Some row) (drop (suc i) rows) (drop (suc i) old)) row mark)
    ≡ take i old ++ after_from ways since part b (drop i rows) (drop i old)
marks_more ways since part b i [] old row d mark lt hr hm = absurd (omega (arith, lt))
marks_more ways since part b i (r ∷ rows) [] row d mark lt hr hm = absurd cc
marks_more ways since part b zero (r ∷ rows) (m ∷ old) row d mark lt hr hm =
    let other : mark ≡ m = cc in
    rw (hr, other) refl
marks_more ways since part b (suc i) (r ∷ rows) (m ∷ old) row d mark lt hr hm =
    ap (λ (xs : List (Option Reason)). m ∷ xs) (marks_more ways since part b i rows old row d mark (omega (arith, lt)) hr hm)

-- and counted
count_more : (ways : Ways) (span : Span) (b : Option Row) (i : ℕ) (rows : List Row) (old : List (Option Reason)) (row d : Row) (mark : Option Reason)
    → i < length rows → row ≡ get_or rows i d → slice_get old i ≡ Some mark
    → count ways span (Some row) (drop (suc i) rows) (drop (suc i) old) + counts ways (takes ways span b row (drop (suc i) rows)) mark ≡ count ways span b (drop i rows) (drop i old)
count_more ways span b i [] old row d mark lt hr hm = absurd (omega (arith, lt))
count_more ways span b i (r ∷ rows) [] row d mark lt hr hm = absurd cc
count_more ways span b zero (r ∷ rows) (m ∷ old) row d mark lt hr hm =
    let other : mark ≡ m = cc in
    rw (hr, other) refl
count_more ways span b (suc i) (r ∷ rows) (m ∷ old) row d mark lt hr hm = count_more ways span b i rows old row d mark (omega (arith, lt)) hr hm

turn_mark : (ways : Ways) (since : Since) (part : Part) (i : ℕ) (rows : List Row) (old current : List (Option Reason)) (counted : ℕ) (row : Row) (mark : Option Reason)
    → IsTurn ways since part i rows old current counted row mark → slice_get old i ≡ Some mark
turn_mark ways since part i rows old current counted row mark turn =
    mark_there i old _ mark turn.in_marks (subst (λ (xs : List (Option Reason)). slice_get xs i ≡ Some mark) turn.current_is turn.mark_is)

pub marks_step : (ways : Ways) (since : Since) (part : Part) (before : Option Row) (i : ℕ) (rows newer : List Row) (old current : List (Option Reason)) (counted : ℕ) (row : Row) (mark after : Option Reason) (taken : Bool)
    → IsTurn ways since part i rows old current counted row mark → newer ≡ drop (suc i) rows → taken ≡ takes ways part.span before row newer
    → after ≡ marked ways since part (is_oldest before) taken counted row mark
    → set current i after ≡ take i old ++ after_from ways since part before (drop i rows) (drop i old)
marks_step ways since part before i rows newer old current counted row mark after taken turn hn ht ha =
    rw (ha, ht, hn, turn.counted_is, turn.current_is) (marks_more ways since part before i rows old row row mark turn.in_rows turn.row_is (turn_mark ways since part i rows old current counted row mark turn))

pub count_step : (ways : Ways) (since : Since) (part : Part) (before : Option Row) (i : ℕ) (rows newer : List Row) (old current : List (Option Reason)) (counted : ℕ) (row : Row) (mark : Option Reason) (taken : Bool) (more : ℕ)
    → IsTurn ways since part i rows old current counted row mark → newer ≡ drop (suc i) rows → taken ≡ takes ways part.span before row newer
    → more ≡ counts ways taken mark
    → counted + more ≡ count ways part.span before (drop i rows) (drop i old)
count_step ways since part before i rows newer old current counted row mark taken more turn hn ht hm =
    rw (hm, ht, hn, turn.counted_is) (count_more ways part.span before i rows old row row mark turn.in_rows turn.row_is (turn_mark ways since part i rows old current counted row mark turn))

-- a row counts for one at most
pub counts_bound : (ways : Ways) (taken : Bool) (mark : Option Reason) → counts ways taken mark ≤ 1
counts_bound ways taken mark = grind arith

pub count_bound : (ways : Ways) (span : Span) (before : Option Row) (rows : List Row) (old : List (Option Reason)) → count ways span before rows old ≤ length rows
count_bound ways span before [] old = omega arith
count_bound ways span before (r ∷ rows) [] = omega arith
count_bound ways span before (r ∷ rows) (m ∷ old) = omega (arith, count_bound ways span (Some r) rows old, counts_bound ways (takes ways span before r rows) m)
