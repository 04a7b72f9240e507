-- How long marks hold, by the rest when some marks of a group are removed, and by that group.
use Rattle.ele_fates.proofs.Words.{AllLater, Bool, Cover, GroupRow, List, MarkRow, None, Option, Some, [], arith, cover_of, cover_without, false, filter, has_member, list_any, longer, members_of, nat_tests, not, option_map_or, refl, sym, true, ℕ, ◌&&◌, ◌==◌, ◌||◌, ◌∙◌, ◌∷◌, ◌≡◌}
use Rattle.std.specs.Str.{bytes_eq}
use Rattle.ele_model.proofs.Covers.{exceeds, exceeds_by, exceeds_longer, exceeds_same, reaches}
use Rattle.ele_model.proofs.MarksChanged.{behind, is_over, is_rest, others_count, told_over, told_rest}
use Rattle.ele_model.specs.Cover.{cover_by}
use Rattle.ele_model.specs.GroupRows.{group_named, is_group}
use Rattle.ele_model.specs.GroupsAsked.{is_left_out}
use Rattle.ele_model.specs.declared.cover.Cover.TheVariants.{Free}

abbrev AreNamed : List GroupRow → Type 0
AreNamed rows = AllLater (λ (earlier : GroupRow) later. bytes_eq earlier.name later.name ≡ false) rows

module _ (q : MarkRow → Bool) (name : List ℕ) (left : Option ℕ) (file : ℕ) where
  fewer : (p : MarkRow → Bool) (xs : List MarkRow) → (list_any q xs || list_any q (filter p xs)) ≡ list_any q xs
  fewer p [] = refl
  fewer p (x ∷ xs) = grind (arith, nat_tests, fewer p xs)

  -- some mark passes of the group, or of the rest
  any_left : (rows : List GroupRow) → AreNamed rows → has_member rows name file ≡ true → (option_map_or (λ row. list_any q row.marks) (group_named rows name) false || is_rest q rows name left file) ≡ is_over q rows file
  any_left [] named member = absurd cc
  any_left (row ∷ rows) named member =
      grind (arith, nat_tests, fewer (λ mark. not (is_group name row && is_left_out left mark)) row.marks, others_count q name file left row, behind q name file left row rows, any_left rows named.1)

module _ (rows : List GroupRow) (name : List ℕ) (left : Option ℕ) (file closed : ℕ) (ended : Option ℕ) where
  abbrev by_group : Option GroupRow → Cover
  by_group o = option_map_or (λ row. cover_by closed ended row.marks) o Free

  exceeds_group : (d : Cover) (o : Option GroupRow) → exceeds (by_group o) d ≡ option_map_or (λ row. list_any (reaches closed ended d) row.marks) o false
  exceeds_group d None = grind (arith, nat_tests)
  exceeds_group d (Some row) = exceeds_by closed ended d row.marks

  -- it is the longer of both
  pub longer_again : AreNamed rows → has_member rows name file ≡ true → longer (by_group (group_named rows name)) (cover_without rows name left file closed ended) ≡ cover_of rows file closed ended
  longer_again named member = exceeds_same _ _ (λ d.
      exceeds_longer (by_group (group_named rows name)) (cover_without rows name left file closed ended) d
      ∙ rw (exceeds_group d (group_named rows name), told_rest file closed ended rows name left d) (any_left (reaches closed ended d) name left file rows named member)
      ∙ sym (told_over file closed ended rows d))

-- a file that is listed among those of the group is in it
pub members_have : (rows : List GroupRow) (name : List ℕ) (file : ℕ) → list_any (λ member. member == file) (members_of rows name) ≡ has_member rows name file
members_have rows name file = grind (arith, nat_tests)
