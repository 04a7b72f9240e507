-- Which marks a file has after a change of groups, and how long they hold: with more members or marks longer where these
-- cover, and with fewer as long as the others.
use Rattle.ele_model.proofs.Basics.{◌≡◌, ℕ, ◌==◌, Bool, true, false, not, ◌&&◌, ◌||◌, List, [], ◌∷◌, Option, Some, None, refl, ap, sym, ◌∙◌, arith, filter, find, map, AllByRecursion, list_any, option_map_or, bytes_eq}
use Rattle.ele_model.proofs.Basics.{nat_tests, list_any-append, bytes_eq-Decides, AllLater, update_first, remove_first, found_passes}
use Rattle.ele_model.proofs.Words.{GroupRow, MarkRow, Cover, covers_moment, cover_by, cover_of, cover_until, cover_with, cover_without, group_named, is_group, is_mark, is_marked, is_member, keeps_at, longer, marks, marks_left, removes, unmarks, with_mark, with_member, without_group, without_mark, without_member, marks_of, members_of}
use Rattle.ele_model.proofs.Covers.{exceeds, exceeds_by, exceeds_longer, exceeds_same, reaches}
use Rattle.ele_model.proofs.GroupMarks.{any_over}
pub use Rattle.std.proofs.Math.Bool.{or-false as or_false, or-true as or_true}

-- ---- lists

none_any : {X : Type 0} (t : X → Bool) (xs : List X) → ((x : X) → t x ≡ false) → list_any t xs ≡ false
none_any t [] none = refl
none_any t (x ∷ xs) none = grind (arith, none x, none_any t xs none)

-- one that is taken out, or might be, passes or the others do
any_taken : {X : Type 0} (q p : X → Bool) (xs : List X) → list_any q xs ≡ (list_any q (remove_first p xs) || list_any (λ x. p x && q x) xs)
any_taken q p [] = refl
any_taken {X} q p (x ∷ xs) = grind (arith, nat_tests, any_taken q p xs)

-- one removed from numbers that are there once each
abbrev AreApart : List ℕ → Type 0
AreApart xs = AllLater (λ earlier later. (earlier == later) ≡ false) xs

module _ (q : ℕ → Bool) (k : ℕ) where
  none_other : (x : ℕ) (xs : List ℕ) → (x == k) ≡ true → AllByRecursion (λ later. (x == later) ≡ false) xs → list_any q xs ≡ list_any (λ x. q x && not (x == k)) xs
  none_other x [] is other = refl
  none_other x (y ∷ ys) is other = grind (arith, nat_tests, none_other x ys)

  any_but : (xs : List ℕ) → AreApart xs → list_any q (remove_first (λ x. x == k) xs) ≡ list_any (λ x. q x && not (x == k)) xs
  any_but [] apart = refl
  any_but (x ∷ xs) apart = grind (arith, nat_tests, none_other x xs, any_but xs apart.1)

-- and of marks
abbrev AreMarksApart : List MarkRow → Type 0
AreMarksApart xs = AllLater (λ earlier later. (earlier.at == later.at) ≡ false) xs

all_others : (k : ℕ) (x : MarkRow) (xs : List MarkRow) → is_mark k x ≡ true → AllByRecursion (λ later. (x.at == later.at) ≡ false) xs → filter (λ mark. not (mark.at == k)) xs ≡ xs
all_others k x [] is apart = refl
all_others k x (y ∷ ys) is apart = grind (arith, nat_tests, all_others k x ys)

mark_out : (k : ℕ) (xs : List MarkRow) → AreMarksApart xs → remove_first (is_mark k) xs ≡ filter (λ mark. not (mark.at == k)) xs
mark_out k [] apart = refl
mark_out k (x ∷ xs) apart = grind (arith, nat_tests, all_others k x xs, mark_out k xs apart.1)

-- ---- rows of groups

-- the file is one of these, and one of the marks' moments is covered
abbrev pub touches : ℕ → ℕ → Option ℕ → List ℕ → List ℕ → Bool
touches file closed ended files marks = list_any (λ member. member == file) files && list_any (covers_moment closed ended) marks

-- the marks of the group of that name
abbrev rows_of : List GroupRow → List ℕ → List MarkRow
rows_of rows name = option_map_or (λ row. row.marks) (group_named rows name) []

module _ (q : MarkRow → Bool) where
  -- some mark passes of some group that has the file
  abbrev pub is_over : List GroupRow → ℕ → Bool
  is_over rows file = list_any (λ row. is_member file row && list_any q row.marks) rows

  -- with a mark more
  over_marked : (rows : List GroupRow) (name : List ℕ) (file : ℕ) (mark : MarkRow) → is_over (with_mark name mark rows) file ≡ (is_over rows file || (list_any (λ member. member == file) (members_of rows name) && q mark))
  over_marked [] name file mark = refl
  over_marked (row ∷ rows) name file mark = grind (arith, nat_tests, list_any-append, over_marked rows name file mark)

  -- with a file more
  over_joined : (rows : List GroupRow) (name : List ℕ) (file member : ℕ) → is_over (with_member name member rows) file ≡ (is_over rows file || ((member == file) && list_any q (rows_of rows name)))
  over_joined [] name file member = grind (arith, nat_tests)
  over_joined (row ∷ rows) name file member = grind (arith, nat_tests, list_any-append, over_joined rows name file member)

  -- without a mark
  over_unmarked : (rows : List GroupRow) (name : List ℕ) (file k : ℕ) → is_over rows file ≡ (is_over (without_mark name k rows) file || (list_any (λ member. member == file) (members_of rows name) && list_any (λ mark. is_mark k mark && q mark) (rows_of rows name)))
  over_unmarked [] name file k = refl
  over_unmarked (row ∷ rows) name file k = grind (arith, nat_tests, any_taken q (is_mark k) row.marks, over_unmarked rows name file k)

  -- without a file
  over_left : (rows : List GroupRow) (name : List ℕ) (file member : ℕ) → is_over rows file ≡ (is_over (without_member name member rows) file || (list_any (λ m. (m == member) && (m == file)) (members_of rows name) && list_any q (rows_of rows name)))
  over_left [] name file member = refl
  over_left (row ∷ rows) name file member = grind (arith, nat_tests, any_taken (λ m. m == file) (λ m. m == member) row.members, over_left rows name file member)

  -- without a group
  over_dropped : (rows : List GroupRow) (name : List ℕ) (file : ℕ) → is_over rows file ≡ (is_over (without_group name rows) file || (list_any (λ member. member == file) (members_of rows name) && list_any q (rows_of rows name)))
  over_dropped [] name file = refl
  over_dropped (row ∷ rows) name file = grind (arith, nat_tests, over_dropped rows name file)

  -- ---- marks that are left out

  -- some mark passes of some group that has the file, those aside that are left out
  abbrev pub is_rest : List GroupRow → List ℕ → Option ℕ → ℕ → Bool
  is_rest rows name left file = list_any (λ row. is_member file row && list_any q (marks_left name left row)) rows

  module _ (name : List ℕ) (file : ℕ) where
    abbrev pub of_row : GroupRow → Bool
    of_row row = is_member file row && list_any q row.marks

    abbrev pub of_rest : Option ℕ → GroupRow → Bool
    of_rest left row = is_member file row && list_any q (marks_left name left row)

    all_stand : (xs : List MarkRow) → filter (λ mark. not false) xs ≡ xs
    all_stand [] = refl
    all_stand (x ∷ xs) = grind (arith, all_stand xs)

    -- of a group of another name nothing
    pub others_count : (left : Option ℕ) (row : GroupRow) → is_group name row ≡ false → of_rest left row ≡ of_row row
    others_count left row other = rw other (rw (all_stand row.marks) refl)

    pub behind : (left : Option ℕ) (row : GroupRow) (rows : List GroupRow) → is_group name row ≡ true → AllByRecursion (λ later. bytes_eq row.name later.name ≡ false) rows → list_any (of_rest left) rows ≡ list_any of_row rows
    behind left row [] is apart = refl
    behind left row (x ∷ xs) is apart = grind (arith, nat_tests, others_count left x, bytes_eq-Decides, behind left row xs)

    still_changed : (rows : List GroupRow) → AllLater (λ (earlier : GroupRow) later. bytes_eq earlier.name later.name ≡ false) rows → (left : Option ℕ) (f : GroupRow → GroupRow) (row : GroupRow) → find (is_group name) rows ≡ Some row
        → of_row (f row) ≡ of_rest left row → is_over (update_first (is_group name) f rows) file ≡ is_rest rows name left file
    still_changed [] named left f row found same = absurd cc
    still_changed (x ∷ xs) named left f row found same = grind (arith, nat_tests, others_count left x, behind left x xs, still_changed xs named.1 left f row)

    none_stand : (xs : List MarkRow) → filter (λ mark. not true) xs ≡ []
    none_stand [] = refl
    none_stand (x ∷ xs) = none_stand xs

    -- of the group itself all marks
    none_counts : (row : GroupRow) → is_group name row ≡ true → of_rest None row ≡ false
    none_counts row own = rw own (rw (none_stand row.marks) (by (is_member file row))) where
      by : (b : Bool) → (b && false) ≡ false
      by true = refl
      by false = refl

  module _ (rows : List GroupRow) (name : List ℕ) (file : ℕ) (named : AllLater (λ (earlier : GroupRow) later. bytes_eq earlier.name later.name ≡ false) rows) where
    -- without the mark what the others give
    rest_unmarked : (k : ℕ) (row : GroupRow) → find (is_group name) rows ≡ Some row → AreMarksApart row.marks → is_over (without_mark name k rows) file ≡ is_rest rows name (Some k) file
    rest_unmarked k row found apart = still_changed name file rows named (Some k) (unmarks k) row found (let own = found_passes (is_group name) rows row found in rw own (ap (λ xs. is_member file row && list_any q xs) (mark_out k row.marks apart)))

    -- without the file what the other groups give
    rest_left : (row : GroupRow) → find (is_group name) rows ≡ Some row → AreApart row.members → is_over (without_member name file rows) file ≡ is_rest rows name None file
    rest_left row found apart = still_changed name file rows named None (removes file) row found (grind (arith, nat_tests, any_but (λ x. x == file) file row.members apart, none_any (λ x. (x == file) && not (x == file)) row.members (λ x. grind (arith, nat_tests)), none_counts name file row, found_passes))

  -- and so without the group
  rest_dropped : (rows : List GroupRow) (name : List ℕ) (file : ℕ) → AllLater (λ (earlier : GroupRow) later. bytes_eq earlier.name later.name ≡ false) rows → is_over (without_group name rows) file ≡ is_rest rows name None file
  rest_dropped [] name file named = refl
  rest_dropped (row ∷ rows) name file named = grind (arith, nat_tests, none_counts name file row, behind name file None row rows, others_count name file None row, rest_dropped rows name file named.1)

-- ---- what is marked

pub marked_more : (rows : List GroupRow) (name : List ℕ) (file closed : ℕ) (ended : Option ℕ) (at : ℕ) (mark : MarkRow) → is_marked (with_mark name mark rows) file closed ended at ≡ (is_marked rows file closed ended at || (list_any (λ member. member == file) (members_of rows name) && keeps_at closed ended at mark))
marked_more rows name file closed ended at mark = over_marked (keeps_at closed ended at) rows name file mark

-- ---- for how long marks keep

module _ (file closed : ℕ) (ended : Option ℕ) where
  -- a cover is determined by what its marks reach
  pub told_over : (rows : List GroupRow) (d : Cover) → exceeds (cover_of rows file closed ended) d ≡ is_over (reaches closed ended d) rows file
  told_over rows d = exceeds_by closed ended d _ ∙ any_over (reaches closed ended d) (is_member file) (λ row. row.marks) rows

  pub told_rest : (rows : List GroupRow) (name : List ℕ) (left : Option ℕ) (d : Cover) → exceeds (cover_without rows name left file closed ended) d ≡ is_rest (reaches closed ended d) rows name left file
  told_rest rows name left d = exceeds_by closed ended d _ ∙ any_over (reaches closed ended d) (is_member file) (marks_left name left) rows

  -- marks reach nothing if none covers
  reach_none : (d : Cover) (xs : List MarkRow) → list_any (covers_moment closed ended) (map (λ mark. mark.at) xs) ≡ false → list_any (reaches closed ended d) xs ≡ false
  reach_none d [] none = refl
  reach_none d (x ∷ xs) none = grind (arith, nat_tests, reach_none d xs)

  reach_out : (d : Cover) (k : ℕ) (xs : List MarkRow) → covers_moment closed ended k ≡ false → list_any (λ mark. is_mark k mark && reaches closed ended d mark) xs ≡ false
  reach_out d k [] none = refl
  reach_out d k (x ∷ xs) none = grind (arith, nat_tests, reach_out d k xs)

  reach_group : (d : Cover) (rows : List GroupRow) (name : List ℕ) → list_any (covers_moment closed ended) (marks_of rows name) ≡ false → list_any (reaches closed ended d) (rows_of rows name) ≡ false
  reach_group d rows name none = by (group_named rows name) none where
    by : (o : Option GroupRow) → list_any (covers_moment closed ended) (option_map_or (λ row. map (λ mark. mark.at) row.marks) o []) ≡ false → list_any (reaches closed ended d) (option_map_or (λ row. row.marks) o []) ≡ false
    by None none = refl
    by (Some row) none = reach_none d row.marks none

  -- some that are one member and another
  no_member : (member : ℕ) (xs : List ℕ) → (member == file) ≡ false → list_any (λ m. (m == member) && (m == file)) xs ≡ false
  no_member member [] apart = refl
  no_member member (x ∷ xs) apart = grind (arith, nat_tests, no_member member xs apart)

  -- with one more mark, if it covers and if it doesn't
  pub mark_longer : (rows : List GroupRow) (name : List ℕ) (mark : MarkRow) → touches file closed ended (members_of rows name) (mark.at ∷ []) ≡ true → cover_of (with_mark name mark rows) file closed ended ≡ longer (cover_until mark.until) (cover_of rows file closed ended)
  mark_longer rows name mark is = exceeds_same _ _ (λ d. grind (arith, nat_tests, told_over (with_mark name mark rows) d, told_over rows d, over_marked (reaches closed ended d) rows name file mark, exceeds_longer (cover_until mark.until) (cover_of rows file closed ended) d))

  pub mark_apart : (rows : List GroupRow) (name : List ℕ) (mark : MarkRow) → touches file closed ended (members_of rows name) (mark.at ∷ []) ≡ false → cover_of (with_mark name mark rows) file closed ended ≡ cover_of rows file closed ended
  mark_apart rows name mark is = exceeds_same _ _ (λ d. grind (arith, nat_tests, told_over (with_mark name mark rows) d, told_over rows d, over_marked (reaches closed ended d) rows name file mark))

  -- with a file more
  pub join_longer : (rows : List GroupRow) (name : List ℕ) (member : ℕ) → touches file closed ended (member ∷ []) (marks_of rows name) ≡ true → cover_of (with_member name member rows) file closed ended ≡ cover_with rows name file closed ended
  join_longer rows name member is = by (group_named rows name) refl where
    by : (o : Option GroupRow) → group_named rows name ≡ o → cover_of (with_member name member rows) file closed ended ≡ cover_with rows name file closed ended
    by None none = exceeds_same _ _ (λ d. grind (arith, nat_tests, told_over (with_member name member rows) d, told_over rows d, over_joined (reaches closed ended d) rows name file member))
    by (Some row) some = exceeds_same _ _ (λ d. grind (arith, nat_tests, told_over (with_member name member rows) d, told_over rows d, over_joined (reaches closed ended d) rows name file member, exceeds_longer (cover_by closed ended row.marks) (cover_of rows file closed ended) d, exceeds_by closed ended d row.marks))

  pub join_apart : (rows : List GroupRow) (name : List ℕ) (member : ℕ) → touches file closed ended (member ∷ []) (marks_of rows name) ≡ false → cover_of (with_member name member rows) file closed ended ≡ cover_of rows file closed ended
  join_apart rows name member is = exceeds_same _ _ (λ d. grind (arith, nat_tests, told_over (with_member name member rows) d, told_over rows d, over_joined (reaches closed ended d) rows name file member, reach_group d rows name))

  -- without a mark
  pub unmark_apart : (rows : List GroupRow) (name : List ℕ) (k : ℕ) → touches file closed ended (members_of rows name) (k ∷ []) ≡ false → cover_of (without_mark name k rows) file closed ended ≡ cover_of rows file closed ended
  unmark_apart rows name k is = exceeds_same _ _ (λ d. grind (arith, nat_tests, told_over (without_mark name k rows) d, told_over rows d, over_unmarked (reaches closed ended d) rows name file k, reach_out d k (rows_of rows name)))

  -- without a file
  pub leave_apart : (rows : List GroupRow) (name : List ℕ) (member : ℕ) → touches file closed ended (member ∷ []) (marks_of rows name) ≡ false → cover_of (without_member name member rows) file closed ended ≡ cover_of rows file closed ended
  leave_apart rows name member is = exceeds_same _ _ (λ d. grind (arith, nat_tests, told_over (without_member name member rows) d, told_over rows d, over_left (reaches closed ended d) rows name file member, no_member member (members_of rows name), reach_group d rows name))

  -- without a group
  pub drop_apart : (rows : List GroupRow) (name : List ℕ) → touches file closed ended (members_of rows name) (marks_of rows name) ≡ false → cover_of (without_group name rows) file closed ended ≡ cover_of rows file closed ended
  drop_apart rows name is = exceeds_same _ _ (λ d. grind (arith, nat_tests, told_over (without_group name rows) d, told_over rows d, over_dropped (reaches closed ended d) rows name file, reach_group d rows name))

  -- the rest are the marks without those that are left out
  module _ (rows : List GroupRow) (name : List ℕ) (named : AllLater (λ (earlier : GroupRow) later. bytes_eq earlier.name later.name ≡ false) rows) where
    pub unmark_still : (k : ℕ) (row : GroupRow) → find (is_group name) rows ≡ Some row → AreMarksApart row.marks → cover_of (without_mark name k rows) file closed ended ≡ cover_without rows name (Some k) file closed ended
    unmark_still k row found apart = exceeds_same _ _ (λ d. told_over (without_mark name k rows) d ∙ rest_unmarked (reaches closed ended d) rows name file named k row found apart ∙ sym (told_rest rows name (Some k) d))

    pub leave_still : (row : GroupRow) → find (is_group name) rows ≡ Some row → AreApart row.members → cover_of (without_member name file rows) file closed ended ≡ cover_without rows name None file closed ended
    leave_still row found apart = exceeds_same _ _ (λ d. told_over (without_member name file rows) d ∙ rest_left (reaches closed ended d) rows name file named row found apart ∙ sym (told_rest rows name None d))

    pub drop_still : cover_of (without_group name rows) file closed ended ≡ cover_without rows name None file closed ended
    drop_still = exceeds_same _ _ (λ d. told_over (without_group name rows) d ∙ rest_dropped (reaches closed ended d) rows name file named ∙ sym (told_rest rows name None d))
