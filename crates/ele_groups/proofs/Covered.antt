-- For how long marks keep, some of a group left out, one group after another.
use Rattle.ele_groups.proofs.Basics.{◌≡◌, ℕ, suc, zero, Bool, true, false, ◌&&◌, ◌||◌, ◌+◌, ◌<◌, ◌==◌, ◌++◌, not, List, [], ◌∷◌, Option, Some, None, refl, sym, ◌∙◌, arith, length, get_or, take, take_more, filter, list_any, list_any-append, AllByRecursion, values_of, option_map_or, bytes_eq, bytes_eq-Decides, nat_tests, false≢true}
use Rattle.ele_groups.proofs.Words.{Always, Cover, Free, GroupRow, MarkRow, Membership, Memberships, AreKept, Except, cover_but, cover_by, has, is_group, is_member, longer, marks_but, marks_left, memberships_of, row_at, row_cover}
use Rattle.ele_groups.proofs.Named.{Entries, any_value, no_value, none_any, same_name}
use Rattle.ele_model.proofs.Covers.{exceeds, exceeds_by, exceeds_longer, exceeds_same, reaches}
use Rattle.ele_model.proofs.GroupMarks.{any_over}

-- ---- of one group

none_stand : (xs : List MarkRow) → filter (λ mark. not true) xs ≡ []
none_stand [] = refl
none_stand (x ∷ xs) = none_stand xs

all_stand : (xs : List MarkRow) → filter (λ mark. not false) xs ≡ xs
all_stand [] = refl
all_stand (x ∷ xs) = grind (arith, all_stand xs)

-- the whole group is left out
pub left_out : (name : List ℕ) (closed : ℕ) (ended : Option ℕ) (row : GroupRow) → is_group name row ≡ true → Free ≡ cover_by closed ended (marks_left name None row)
left_out name closed ended row is = rw is (rw (none_stand row.marks) refl)

-- or one mark of it
pub one_out : (name : List ℕ) (k : ℕ) (closed : ℕ) (ended : Option ℕ) (row : GroupRow) → is_group name row ≡ true → cover_by closed ended (filter (λ mark. not (mark.at == k)) row.marks) ≡ cover_by closed ended (marks_left name (Some k) row)
one_out name k closed ended row is = rw is refl

-- or none
pub none_out : (name : List ℕ) (left : Option ℕ) (closed : ℕ) (ended : Option ℕ) (row : GroupRow) → is_group name row ≡ false → cover_by closed ended row.marks ≡ cover_by closed ended (marks_left name left row)
none_out name left closed ended row other = rw other (rw (all_stand row.marks) refl)

-- ---- of all

longer_always : (a b c : Cover) → (b ≡ Always → c ≡ Always) → longer a b ≡ Always → longer a c ≡ Always
longer_always a b c still always = grind (arith, still, always)

module _ (except : Option Except) (file closed : ℕ) (ended : Option ℕ) (es : Entries) where
  module _ (d : Cover) where
    abbrev covering : GroupRow → Bool
    covering row = list_any (reaches closed ended d) (marks_but except row)

    abbrev passes : GroupRow → Bool
    passes row = is_member file row && covering row

    -- the group of the name, if there is one, doesn't cover
    abbrev IsIdle : List ℕ → Type 0
    IsIdle name = option_map_or covering (row_at es name) false ≡ false

    idle : (name : List ℕ) (these : List Membership) → AllByRecursion (λ m. IsIdle m.name) these → list_any (λ other. bytes_eq other.name name) these ≡ true → IsIdle name
    idle name [] all h = absurd (false≢true h)
    idle name (x ∷ xs) all h = grind (arith, nat_tests, same_name x.name name, all, idle name xs all.1)

    module _ (memberships : Memberships) (kept : AreKept es memberships) where
      -- none of the file's groups covers
      none_covers : AllByRecursion (λ m. IsIdle m.name) (memberships_of memberships file) → list_any passes (values_of es) ≡ false
      none_covers all = none_any passes (values_of es) (no_value passes es kept.apart (λ n. grind (arith, nat_tests, option_map_or, kept.placed.each file n, idle n (memberships_of memberships file) all)))

      -- one of them does
      one_covers : (name : List ℕ) → has memberships file name ≡ true → option_map_or covering (row_at es name) false ≡ true → list_any passes (values_of es) ≡ true
      one_covers name there holds = grind (arith, nat_tests, option_map_or, kept.placed.each file name, any_value passes es name)

  -- the cover of the group of the name
  abbrev pub at_name : List ℕ → Cover
  at_name name = option_map_or (row_cover except closed ended) (row_at es name) Free

  -- the longest of those of these groups
  abbrev pub at_all : List Membership → Cover
  at_all [] = Free
  at_all (m ∷ these) = longer (at_name m.name) (at_all these)

  exceeds_at : (d : Cover) (name : List ℕ) → exceeds (at_name name) d ≡ option_map_or (covering d) (row_at es name) false
  exceeds_at d name = by (row_at es name) where
    by : (o : Option GroupRow) → exceeds (option_map_or (row_cover except closed ended) o Free) d ≡ option_map_or (covering d) o false
    by None = grind (arith, nat_tests)
    by (Some row) = exceeds_by closed ended d (marks_but except row)

  -- whether the marks of that group of a file reach further
  abbrev reaching : Cover → Membership → Bool
  reaching d m = option_map_or (covering d) (row_at es m.name) false

  exceeds_all : (d : Cover) (these : List Membership) → exceeds (at_all these) d ≡ list_any (reaching d) these
  exceeds_all d [] = grind (arith, nat_tests)
  exceeds_all d (m ∷ these) = grind (arith, nat_tests, exceeds_longer (at_name m.name) (at_all these) d, exceeds_at d m.name, exceeds_all d these)

  pub all_more : (these : List Membership) (i : ℕ) (m : Membership) → i < length these → m ≡ get_or these i m → at_all (take (i + 1) these) ≡ longer (at_all (take i these)) (at_name m.name)
  all_more these i m lt is = exceeds_same _ _ (λ d. rw (take_more these i m lt, ← is)
      (exceeds_all d (take i these ++ m ∷ []) ∙ grind (arith, nat_tests, list_any-append, exceeds_longer (at_all (take i these)) (at_name m.name) d, exceeds_at d m.name, exceeds_all d (take i these))))

  -- nothing is longer than for ever
  pub stays_always : (these : List Membership) (i : ℕ) → at_all (take i these) ≡ Always → at_all these ≡ Always
  stays_always [] zero always = absurd cc
  stays_always [] (suc i) always = absurd cc
  stays_always (m ∷ these) zero always = absurd cc
  stays_always (m ∷ these) (suc i) always = longer_always (at_name m.name) (at_all (take i these)) (at_all these) (stays_always these i) always

  -- all groups of the file give its cover
  module _ (memberships : Memberships) (kept : AreKept es memberships) where
    item_there : (m : Membership) (these : List Membership) → list_any (λ other. bytes_eq other.name m.name) (m ∷ these) ≡ true
    item_there m these = grind (arith, nat_tests, bytes_eq-Decides)

    -- groups among the file's, one of them covering or none
    by_groups : (d : Cover) (these : List Membership) → ((name : List ℕ) → list_any (λ other. bytes_eq other.name name) these ≡ true → has memberships file name ≡ true)
        → (list_any (reaching d) these ≡ false → list_any (passes d) (values_of es) ≡ false)
        → list_any (reaching d) these ≡ list_any (passes d) (values_of es)
    by_groups d [] among none = sym (none refl)
    by_groups d (m ∷ these) among none = by (reaching d m) refl (by_groups d these (λ n h. among n (grind (arith, nat_tests)))) where
      by : (b : Bool) → reaching d m ≡ b
          → ((list_any (reaching d) these ≡ false → list_any (passes d) (values_of es) ≡ false) → list_any (reaching d) these ≡ list_any (passes d) (values_of es))
          → (reaching d m || list_any (reaching d) these) ≡ list_any (passes d) (values_of es)
      by true own rest = rw own (sym (one_covers d memberships kept m.name (among m.name (item_there m these)) own))
      by false own rest = rw own (rest (λ h. none (rw own h)))

    all_idle : (d : Cover) (these : List Membership) → list_any (reaching d) these ≡ false → AllByRecursion (λ m. IsIdle d m.name) these
    all_idle d [] none = tt
    all_idle d (m ∷ these) none = grind (arith, nat_tests, all_idle d these)

    pub all_groups : at_all (memberships_of memberships file) ≡ cover_but except (values_of es) file closed ended
    all_groups = exceeds_same _ _ (λ d.
        exceeds_all d (memberships_of memberships file)
        ∙ by_groups d (memberships_of memberships file) (λ name there. there) (λ none. none_covers d memberships kept (all_idle d (memberships_of memberships file) none))
        ∙ sym (exceeds_by closed ended d _ ∙ any_over (reaches closed ended d) (is_member file) (marks_but except) (values_of es)))
