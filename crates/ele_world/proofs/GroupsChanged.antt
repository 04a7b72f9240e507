-- What the events of groups make of the group that they name, and that they leave every other one.
use Rattle.ele_model.proofs.Basics.{nat_tests, arith, ◌≡◌, ℕ, ◌==◌, ◌&&◌, ◌||◌, not, cond, find, Bool, false, List, [], ◌∷◌, Option, Some, None, Ok, refl, subst, AllLater, list_any, bytes_eq, bytes_eq-Decides, all-found, all-weaker, all-none, find-append, find-remove_first, find-update_other, list_any-append, not_found, update_first, remove_first}
use Rattle.ele_model.proofs.Words.{World, HasParts, IsGroup, Groups, AddMember, MakeGroup, RemoveMark, RemoveMember, adds, after_change, file_now, group_named, has_group, is_group, is_mark, is_member, mark_at, new_group, removes, unmarks, plan, step}
use Rattle.ele_world.proofs.Words.{GroupRow, MarkRow, Done, GroupAdd, GroupDrop, GroupMake, GroupRemove, Unmark}
use Rattle.ele_world.specs.GroupChanges.{ChangesGroup, IsGroupOf}
use Rattle.ele_lists.proofs.Cuts.{any-found as first_passing}
use Rattle.ele_model.proofs.Elements.{any_none, find-updated}
use Rattle.ele_model.proofs.PlanOutcomes.{in_all}
use Rattle.ele_model.specs.declared.reply.Reply.TheVariants as told
use Rattle.ele_model.specs.declared.event.Event.TheVariants as asked

-- ---- one group is changed

abbrev IsRow : World → List ℕ → Type 0
IsRow w name = (row : GroupRow) × (group_named w.groups name ≡ Some row)

row_of : (w : World) (name : List ℕ) → not (has_group w.groups name) ≡ false → IsRow w name
row_of w name h = first_passing (is_group name) w.groups (grind (arith, h))

other_groups : (rows : List GroupRow) (name other : List ℕ) (f : GroupRow → GroupRow) → ((row : GroupRow) → (f row).name ≡ row.name) → bytes_eq name other ≡ false → group_named (update_first (is_group name) f rows) other ≡ group_named rows other
other_groups rows name other f own apart = find-update_other (is_group name) (is_group other) f rows (λ row is. grind (arith, nat_tests, is, apart, own row, bytes_eq-Decides))

changed : (w v : World) (name : List ℕ) (f : GroupRow → GroupRow) (members : GroupRow → ℕ → Bool) (marks : GroupRow → ℕ → Option MarkRow) → IsRow w name → v ≡ record w { groups = update_first (is_group name) f w.groups; made = v.made } → ((row : GroupRow) → (f row).name ≡ row.name) → ((row : GroupRow) → group_named w.groups name ≡ Some row → ((file : ℕ) → is_member file (f row) ≡ members row file) × ((mark : ℕ) → mark_at mark (f row) ≡ marks row mark)) → v.groups ≡ update_first (is_group name) f w.groups → ChangesGroup w name (IsGroupOf (group_named w.groups name) members marks) v
changed w v name f members marks there whole own tells groups = record {
  named = record { row = there.0; later = f there.0; found = there.1; changed = rw (groups, find-updated (is_group name) f w.groups (λ row. grind (arith, own row)), there.1) refl; member = (tells there.0 there.1).0; mark = (tells there.0 there.1).1 };
  others = λ other apart. rw groups (other_groups w.groups name other f own apart);
  rest = grind (arith, whole, groups);
}

-- ---- numbers that are there once each

removed_has : (k n : ℕ) (xs : List ℕ) → AllLater (λ earlier later. (earlier == later) ≡ false) xs → list_any (λ x. x == n) (remove_first (λ x. x == k) xs) ≡ (list_any (λ x. x == n) xs && not (k == n))
removed_has k n [] apart = refl
removed_has k n (x ∷ xs) apart = grind (arith, nat_tests, any_none, all-weaker, removed_has k n xs apart.1)

-- and marks
removed_at : (k n : ℕ) (xs : List MarkRow) → AllLater (λ earlier later. (earlier.at == later.at) ≡ false) xs → find (is_mark n) (remove_first (is_mark k) xs) ≡ cond (k == n) None (find (is_mark n) xs)
removed_at k n [] apart = grind (arith, nat_tests)
removed_at k n (x ∷ xs) apart = grind (arith, nat_tests, not_found (is_mark n) xs, all-weaker (λ later. (x.at == later.at) ≡ false) (λ later. is_mark n later ≡ false) xs, removed_at k n xs apart.1)

none_named : (name : List ℕ) (rows : List GroupRow) → AllLater (λ (earlier : GroupRow) later. bytes_eq earlier.name later.name ≡ false) rows → group_named (remove_first (is_group name) rows) name ≡ None
none_named name [] named = refl
none_named name (x ∷ xs) named = grind (arith, nat_tests, not_found, all-weaker, bytes_eq-Decides, none_named name xs named.1)

-- ---- members and marks

group_is : (w : World) (name : List ℕ) (row : GroupRow) → HasParts w → group_named w.groups name ≡ Some row → IsGroup w.files w.now row
group_is w name row k found = all-found (is_group name) (IsGroup w.files w.now) w.groups row found (k.holds Groups).each

comes : (w : World) (name : List ℕ) (file : ℕ) → not (has_group w.groups name) ≡ false → ChangesGroup w name (IsGroupOf (group_named w.groups name) (λ row other. is_member other row || (file == other)) (λ row mark. mark_at mark row)) (after_change w (AddMember name file))
comes w name file there = changed w (after_change w (AddMember name file)) name (adds file) (λ row other. is_member other row || (file == other)) (λ row mark. mark_at mark row) (row_of w name there) refl (λ row. refl) (λ row found. (λ other. grind (arith, list_any-append (λ member. member == other) row.members (file ∷ [])), λ mark. refl)) refl

goes : (w : World) (name : List ℕ) (file : ℕ) → HasParts w → not (has_group w.groups name) ≡ false → ChangesGroup w name (IsGroupOf (group_named w.groups name) (λ row other. is_member other row && not (file == other)) (λ row mark. mark_at mark row)) (after_change w (RemoveMember name file))
goes w name file k there = changed w (after_change w (RemoveMember name file)) name (removes file) (λ row other. is_member other row && not (file == other)) (λ row mark. mark_at mark row) (row_of w name there) refl (λ row. refl) (λ row found. (λ other. removed_has file other row.members (group_is w name row k found).apart, λ mark. refl)) refl

unmarked : (w : World) (name : List ℕ) (mark : ℕ) → HasParts w → not (has_group w.groups name) ≡ false → ChangesGroup w name (IsGroupOf (group_named w.groups name) (λ row file. is_member file row) (λ row other. cond (mark == other) None (mark_at other row))) (after_change w (RemoveMark name mark))
unmarked w name mark k there = changed w (after_change w (RemoveMark name mark)) name (unmarks mark) (λ row file. is_member file row) (λ row other. cond (mark == other) None (mark_at other row)) (row_of w name there) refl (λ row. refl) (λ row found. (λ file. refl, λ other. removed_at mark other row.marks (group_is w name row k found).once)) refl

-- ---- each event

module _ (w : World) (name : List ℕ) (k : HasParts w) where
  abbrev Comes : ℕ → World → Type 0
  Comes file v = ChangesGroup w name (IsGroupOf (group_named w.groups name) (λ row other. is_member other row || (file == other)) (λ row mark. mark_at mark row)) v

  abbrev Goes : ℕ → World → Type 0
  Goes file v = ChangesGroup w name (IsGroupOf (group_named w.groups name) (λ row other. is_member other row && not (file == other)) (λ row mark. mark_at mark row)) v

  abbrev Unmarked : ℕ → World → Type 0
  Unmarked mark v = ChangesGroup w name (IsGroupOf (group_named w.groups name) (λ row file. is_member file row) (λ row other. cond (mark == other) None (mark_at other row))) v

  file_comes : (path : List (List ℕ)) (file : ℕ) → file_now w.names path ≡ Ok file → (step w (GroupAdd name path)).0 ≡ Done → Comes file ((step w (GroupAdd name path)).1)
  file_comes path file named = in_all w (λ answer. answer.0 ≡ Done → Comes file (answer.1)) (plan w (GroupAdd name path)) (λ refusal told. absurd cc) (λ there found is member full told. let same : found ≡ file = cc in subst (λ f. Comes f (after_change w (AddMember name found))) same (comes w name found there))

  file_goes : (path : List (List ℕ)) (file : ℕ) → file_now w.names path ≡ Ok file → (step w (GroupRemove name path)).0 ≡ Done → Goes file ((step w (GroupRemove name path)).1)
  file_goes path file named = in_all w (λ answer. answer.0 ≡ Done → Goes file (answer.1)) (plan w (GroupRemove name path)) (λ refusal told. absurd cc) (λ there found is member told. let same : found ≡ file = cc in subst (λ f. Goes f (after_change w (RemoveMember name found))) same (goes w name found k there))

  mark_leaves : (mark : ℕ) → (step w (Unmark name mark)).0 ≡ Done → Unmarked mark ((step w (Unmark name mark)).1)
  mark_leaves mark = in_all w (λ answer. answer.0 ≡ Done → Unmarked mark (answer.1)) (plan w (Unmark name mark)) (λ refusal told. absurd cc) (λ there marked told. unmarked w name mark k there)

  -- a new group is after the others
  made : has_group w.groups name ≡ false → ChangesGroup w name (λ is. is ≡ Some (new_group name)) (after_change w (MakeGroup name))
  made free = record {
    named = grind (arith, nat_tests, find-append, not_found (is_group name) w.groups, all-none (is_group name) w.groups free, bytes_eq-Decides);
    others = λ other apart. grind (arith, nat_tests, find-append, apart);
    rest = refl;
  }

  group_comes : (step w (GroupMake name)).0 ≡ Done → ChangesGroup w name (λ is. is ≡ Some (new_group name)) ((step w (GroupMake name)).1)
  group_comes = in_all w (λ answer. answer.0 ≡ Done → ChangesGroup w name (λ is. is ≡ Some (new_group name)) (answer.1)) (plan w (GroupMake name)) (λ refusal told. absurd cc) (λ free full told. made free)

  group_goes : (step w (GroupDrop name)).0 ≡ Done → ChangesGroup w name (λ is. is ≡ None) ((step w (GroupDrop name)).1)
  group_goes = in_all w (λ answer. answer.0 ≡ Done → ChangesGroup w name (λ is. is ≡ None) (answer.1)) (plan w (GroupDrop name)) (λ refusal told. absurd cc) (λ there told. record {
    named = none_named name w.groups (k.holds Groups).named;
    others = λ other apart. find-remove_first (is_group name) (is_group other) w.groups (λ row is. grind (arith, nat_tests, is, apart, bytes_eq-Decides));
    rest = refl;
  })

pub member_comes : (w : World) (name : List ℕ) (path : List (List ℕ)) (file : ℕ) → HasParts w → file_now w.names path ≡ Ok file → (step w (asked.GroupAdd name path)).0 ≡ told.Done
    → ChangesGroup w name (IsGroupOf (group_named w.groups name) (λ row other. is_member other row || (file == other)) (λ row mark. mark_at mark row)) ((step w (asked.GroupAdd name path)).1)
member_comes w name path file k = file_comes w name k path file

pub member_goes : (w : World) (name : List ℕ) (path : List (List ℕ)) (file : ℕ) → HasParts w → file_now w.names path ≡ Ok file → (step w (asked.GroupRemove name path)).0 ≡ told.Done
    → ChangesGroup w name (IsGroupOf (group_named w.groups name) (λ row other. is_member other row && not (file == other)) (λ row mark. mark_at mark row)) ((step w (asked.GroupRemove name path)).1)
member_goes w name path file k = file_goes w name k path file

pub mark_goes : (w : World) (name : List ℕ) (mark : ℕ) → HasParts w → (step w (asked.Unmark name mark)).0 ≡ told.Done
    → ChangesGroup w name (IsGroupOf (group_named w.groups name) (λ row file. is_member file row) (λ row other. cond (mark == other) None (mark_at other row))) ((step w (asked.Unmark name mark)).1)
mark_goes w name mark k = mark_leaves w name k mark

pub a_group_comes : (w : World) (name : List ℕ) → HasParts w → (step w (asked.GroupMake name)).0 ≡ told.Done → ChangesGroup w name (λ is. is ≡ Some (record { name = name; members = []; marks = [] })) ((step w (asked.GroupMake name)).1)
a_group_comes w name k = group_comes w name k

pub a_group_goes : (w : World) (name : List ℕ) → HasParts w → (step w (asked.GroupDrop name)).0 ≡ told.Done → ChangesGroup w name (λ is. is ≡ None) ((step w (asked.GroupDrop name)).1)
a_group_goes w name k = group_goes w name k
