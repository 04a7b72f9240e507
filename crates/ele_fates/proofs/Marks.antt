-- The groups that have a file, and the first of them with a mark in force.
use Rattle.ele_fates.proofs.Words.{AllByRecursion, AllLater, Bool, GroupRow, IfSome, List, MarkRow, None, Option, Some, [], any-found, ap, arith, bytes_eq-Decides, false, find, found_passes, has_member, list_any, nat_tests, option_map_or, refl, slice_get, suc, sym, take, true, zero, ℕ, ◌&&◌, ◌∙◌, ◌∷◌, ◌≡◌}
use Rattle.ele_fates.specs.Fate.{MarksAt}
use Rattle.ele_groups.specs.Rows.{row_of}
use Rattle.ele_lists.proofs.Taken.{all-at, find-first_at}
use Rattle.ele_model.specs.Fate.{IsMarkedBy}
use Rattle.ele_model.specs.GroupRows.{group_named, has_covering, is_member, keeps_at}
use Rattle.std.specs.Str.{bytes_eq}

abbrev AreNamedApart : List GroupRow → Type 0
AreNamedApart rows = AllLater (λ (earlier : GroupRow) later. bytes_eq earlier.name later.name ≡ false) rows

-- none passes if none is found
no_any : {X : Type 0} (p : X → Bool) (xs : List X) → find p xs ≡ None → list_any p xs ≡ false
no_any p [] none = refl
no_any {X} p (x ∷ xs) none = grind (arith, nat_tests, no_any p xs)

own_name : (name : List ℕ) → bytes_eq name name ≡ true
own_name name = (bytes_eq-Decides name name).1 refl

-- each name is there once, so the group at a place is the one of its name
named_at : (rows : List GroupRow) (place : ℕ) (row : GroupRow) → AreNamedApart rows → slice_get rows place ≡ Some row → group_named rows row.name ≡ Some row
named_at [] place row apart is = absurd (cc)
named_at (x ∷ xs) zero row apart is = let same : x ≡ row = cc in rw (← same, own_name x.name) refl
named_at (x ∷ xs) (suc place) row apart is = rw (all-at (λ (later : GroupRow). bytes_eq x.name later.name ≡ false) xs place row is apart.0) (named_at xs place row apart.1 is)

module _ (rows : List GroupRow) (place : ℕ) (name files : List ℕ) (marks : List MarkRow) (file closed : ℕ) (ended : Option ℕ) (now : ℕ) (apart : AreNamedApart rows) (at : slice_get rows place ≡ Some (row_of name files marks)) where
  member_is : has_member rows name file ≡ is_member file (row_of name files marks)
  member_is = ap (λ (o : Option GroupRow). option_map_or (is_member file) o false) (named_at rows place (row_of name files marks) apart at)

  abbrev Unmarked : Type 0
  Unmarked = IfSome (slice_get rows place) (λ group. (is_member file group && has_covering closed ended now group) ≡ false)

  pub no_member : has_member rows name file ≡ false → Unmarked
  no_member is = let none : is_member file (row_of name files marks) ≡ false = sym member_is ∙ is in rw (at, none) refl

  pub no_mark : find (keeps_at closed ended now) marks ≡ None → Unmarked
  no_mark is = let none = no_any (keeps_at closed ended now) marks is in rw (at, none) (grind (arith, nat_tests))

  pub its_mark : (mark : MarkRow) → has_member rows name file ≡ true → find (keeps_at closed ended now) marks ≡ Some mark → MarksAt rows place file closed ended now name mark
  its_mark mark is found = record { group = row_of name files marks; there = at; member = sym member_is ∙ is; named = refl; first = found }

-- ---- the first of them that has a mark

abbrev pub is_marking : ℕ → ℕ → Option ℕ → ℕ → GroupRow → Bool
is_marking file closed ended now group = is_member file group && has_covering closed ended now group

pub marked_first : (rows : List GroupRow) (place file closed : ℕ) (ended : Option ℕ) (now : ℕ) (name : List ℕ) (mark : MarkRow) → AllByRecursion (λ g. is_marking file closed ended now g ≡ false) (take place rows) → MarksAt rows place file closed ended now name mark → IsMarkedBy rows file closed ended now name mark
marked_first rows place file closed ended now name mark none its =
    let passes = any-found (keeps_at closed ended now) (keeps_at closed ended now) its.group.marks mark its.first (found_passes (keeps_at closed ended now) its.group.marks mark its.first) in
    record { group = its.group; first_group = find-first_at (is_marking file closed ended now) rows place its.group none its.there (rw (its.member, passes) refl); named = its.named; first_mark = its.first }
