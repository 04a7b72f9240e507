-- Changes of groups keep a world well formed, and groups stay what they are beside other changes.
use Rattle.ele_model.proofs.Basics.{nat_tests, ◌≡◌, ℕ, ◌<◌, ◌≤◌, ◌==◌, Bool, false, not, List, [], ◌∷◌, length-append, Some, arith, filter, find, AllByRecursion, bytes_eq, length-map, update_first, all-map, later-filter, later-map, all-none}
use Rattle.ele_model.proofs.Basics.{all-push, all-remove_first, all-weaker, later-push, later-remove_first, later-update_first, length-remove_first-le, length-update_first}
use Rattle.ele_model.proofs.Words.{AddMark, AddMember, DropGroup, MakeGroup, RemoveMark, RemoveMember, after_change, adds, forgets, forgotten, is_group, is_mark, marks, new_group, removes, unmarks, AreGroups, Groups, IsGroup, HasParts, World, next_of}
use Rattle.ele_model.proofs.Words.{FileRow, GroupRow, MarkRow}
use Rattle.ele_model.proofs.May.{MayGroup, MayJoin, MayMark}

abbrev AreTwo : ℕ → ℕ → Type 0
AreTwo earlier later = (earlier == later) ≡ false

abbrev AreMarksApart : MarkRow → MarkRow → Type 0
AreMarksApart earlier later = (earlier.at == later.at) ≡ false

abbrev AreNamedApart : GroupRow → GroupRow → Type 0
AreNamedApart earlier later = bytes_eq earlier.name later.name ≡ false

-- ---- beside other changes

-- if each file that is there stays there, and the time doesn't fall
pub groups_on : (made : ℕ) (files after : List FileRow) (now to : ℕ) (rows : List GroupRow) → now ≤ to → ((file : ℕ) → 0 < next_of files file → 0 < next_of after file) → AreGroups made files now rows → AreGroups made after to rows
groups_on made files after now to rows le still are = grind (arith, nat_tests, all-weaker)

there_without : (files after : List FileRow) (file : ℕ) (members : List ℕ) → ((other : ℕ) → (other == file) ≡ false → 0 < next_of files other → 0 < next_of after other) → AllByRecursion (λ member. 0 < next_of files member) members → AllByRecursion (λ member. 0 < next_of after member) (filter (λ member. not (member == file)) members)
there_without files after file [] still all = tt
there_without files after file (x ∷ xs) still all = grind (arith, nat_tests, there_without files after file xs still all.1)

-- if each other file that is there stays there, and the file leaves its groups
pub groups_forgotten : (made : ℕ) (files after : List FileRow) (now file : ℕ) (rows : List GroupRow) → ((other : ℕ) → (other == file) ≡ false → 0 < next_of files other → 0 < next_of after other) → AreGroups made files now rows → AreGroups made after now (forgotten file rows)
groups_forgotten made files after now file rows still are = grind (arith, nat_tests, all-map (forgets file) (IsGroup after now) rows, all-weaker (IsGroup files now) (λ row. IsGroup after now (forgets file row)) rows, there_without files after file, (λ (row : GroupRow). later-filter AreTwo AreTwo (λ member. not (member == file)) row.members), later-map (forgets file) AreNamedApart rows, length-map rows (forgets file))

-- ---- one group

-- what all elements have, after a change of the one that is found
all-update_found : {X : Type 0} (p : X → Bool) (P : X → Type 0) (f : X → X) (xs : List X) → ((x : X) → find p xs ≡ Some x → P x → P (f x)) → AllByRecursion P xs → AllByRecursion P (update_first p f xs)
all-update_found p P f [] changes all = tt
all-update_found p P f (x ∷ xs) changes all = grind (arith, nat_tests, all-update_found p P f xs)

-- a group that keeps its name changes to a group
groups_edited : (w : World) (name : List ℕ) (f : GroupRow → GroupRow) → ((row : GroupRow) → (f row).name ≡ row.name) → ((row : GroupRow) → find (is_group name) w.groups ≡ Some row → IsGroup w.files w.now row → IsGroup w.files w.now (f row)) → HasParts w → AreGroups w.made.groups w.files w.now (update_first (is_group name) f w.groups)
groups_edited w name f same edits k = grind (arith, nat_tests, k.holds Groups, all-update_found, later-update_first, length-update_first)

pub make_group_keeps : (w : World) (name : List ℕ) → MayGroup w name → HasParts w → HasParts (after_change w (MakeGroup name))
make_group_keeps w name may k = record { holds = λ part. grind (arith, nat_tests, k.holds part, all-push (IsGroup w.files w.now) w.groups (new_group name), later-push AreNamedApart w.groups (new_group name), all-none (is_group name) w.groups may.free, length-append) }

pub drop_group_keeps : (w : World) (name : List ℕ) → HasParts w → HasParts (after_change w (DropGroup name))
drop_group_keeps w name k = record { holds = λ part. grind (arith, nat_tests, k.holds part, all-remove_first, later-remove_first, length-remove_first-le) }

-- ---- its files

pub add_member_keeps : (w : World) (name : List ℕ) (file : ℕ) → MayJoin w name file → HasParts w → HasParts (after_change w (AddMember name file))
add_member_keeps w name file may k = record { holds = λ part. grind (arith, nat_tests, k.holds part, groups_edited w name (adds file), all-push, later-push AreTwo, all-none (λ member. member == file)) }

pub remove_member_keeps : (w : World) (name : List ℕ) (file : ℕ) → HasParts w → HasParts (after_change w (RemoveMember name file))
remove_member_keeps w name file k = record { holds = λ part. grind (arith, nat_tests, k.holds part, groups_edited w name (removes file), all-remove_first, later-remove_first) }

-- ---- its marks

pub add_mark_keeps : (w : World) (name : List ℕ) (mark : MarkRow) → MayMark w name mark → HasParts w → HasParts (after_change w (AddMark name mark))
add_mark_keeps w name mark may k = record { holds = λ part. grind (arith, nat_tests, k.holds part, groups_edited w name (marks mark), all-push, later-push AreMarksApart, all-none (is_mark mark.at)) }

pub remove_mark_keeps : (w : World) (name : List ℕ) (mark : ℕ) → HasParts w → HasParts (after_change w (RemoveMark name mark))
remove_mark_keeps w name mark k = record { holds = λ part. grind (arith, nat_tests, k.holds part, groups_edited w name (unmarks mark), all-remove_first, later-remove_first) }
