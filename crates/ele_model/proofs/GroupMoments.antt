-- Which ripe moments change when marks of groups are added and removed: those of versions that they cover, and no other.
use Rattle.ele_model.proofs.Basics.{◌≡◌, ℕ, true, false, cond, List, [], ◌∷◌, Option, Some, None, ap, sym, subst, ◌∙◌, arith, ◌&&◌, ◌==◌, Bool, find, list_any, option_map_or, bytes_eq, false≢true, nat_tests, AllLater, all-found}
use Rattle.ele_model.proofs.Words.{DropGroup, AddMember, RemoveMember, AddMark, RemoveMark, after_change, ripe_at, covers_moment, group_named, has_mark, has_member, is_group, is_marked_at, is_member, with_mark, with_member, without_group}
use Rattle.ele_model.proofs.Words.{without_mark, without_member, Cover, cover_of, cover_until, cover_with, cover_without, longer, members_of, marks_of, free_moment, Groups, IsGroup, HasParts, World, is_open, is_version, Counts, GroupRow, MarkRow, VersionRow}
use Rattle.ele_model.proofs.MarksChanged.{drop_apart, drop_still, join_apart, join_longer, leave_apart, leave_still, mark_apart, mark_longer, touches, unmark_apart, unmark_still}
use Rattle.ele_model.proofs.Neighbours.{IfHeld, free_same, in_order_of, ripe_at_near}

-- the file's version with that number, if it is held, was current at one of the marks
abbrev pub is_covered : List ℕ → List VersionRow → ℕ → ℕ → Bool
is_covered marks versions file number = option_map_or (λ row. list_any (covers_moment row.closed row.ended) marks) (find (is_version file number) versions) false

-- and the file is one of these
abbrev pub is_touched : List ℕ → List ℕ → List VersionRow → ℕ → ℕ → Bool
is_touched files marks versions file number = list_any (λ member. member == file) files && is_covered marks versions file number

-- a version's moment is another only if it is touched; then that cover determines it
pub record MarksMove (w v : World) (cover : ℕ → ℕ → Option ℕ → Cover) (files marks : List ℕ) : Type 0 where
  pub others : (file number : ℕ) → is_touched files marks w.versions file number ≡ false → ripe_at v file number ≡ ripe_at w file number
  pub own : (file number : ℕ) → is_touched files marks w.versions file number ≡ true
      → ripe_at v file number ≡ cond (is_open w.handles file number) None (free_moment w (cover file) file number)

module _ (w : World) (k : HasParts w) where
  -- the world in which the groups alone are others
  module _ (groups : List GroupRow) (made : Counts) where
    abbrev regrouped : World
    regrouped = record w { groups = groups; made = made }

    moment_then : (file number : ℕ) → ripe_at regrouped file number ≡ cond (is_open w.handles file number) None (free_moment w (cover_of groups file) file number)
    moment_then file number = ripe_at_near regrouped (in_order_of w k) file number

    module _ (files marks : List ℕ) where
      -- a version that is held is touched if its moments are
      held_touched : (file number : ℕ) (b : Bool) → is_touched files marks w.versions file number ≡ b → IfHeld w.versions file number (λ row. touches file row.closed row.ended files marks ≡ b)
      held_touched file number b h row found = rw found at h

      moves : (cover : ℕ → ℕ → Option ℕ → Cover)
          → ((file closed : ℕ) (ended : Option ℕ) → touches file closed ended files marks ≡ false → cover_of groups file closed ended ≡ cover_of w.groups file closed ended)
          → ((file closed : ℕ) (ended : Option ℕ) → touches file closed ended files marks ≡ true → cover_of groups file closed ended ≡ cover file closed ended)
          → MarksMove w regrouped cover files marks
      moves cover same is = record {
        others = λ file number apart. moment_then file number
            ∙ ap (cond (is_open w.handles file number) None) (free_same w file number (cover_of groups file) (cover_of w.groups file) (λ row found. same file row.closed row.ended (held_touched file number false apart row found)))
            ∙ sym (ripe_at_near w (in_order_of w k) file number);
        own = λ file number touched. moment_then file number
            ∙ ap (cond (is_open w.handles file number) None) (free_same w file number (cover_of groups file) (cover file) (λ row found. is file row.closed row.ended (held_touched file number true touched row found)));
      }

  abbrev named : AllLater (λ (earlier : GroupRow) later. bytes_eq earlier.name later.name ≡ false) w.groups
  named = (k.holds Groups).named

  -- a group that has a file or a mark is there
  group_there : (p : GroupRow → Bool) (name : List ℕ) → option_map_or p (group_named w.groups name) false ≡ true → (row : GroupRow) × (find (is_group name) w.groups ≡ Some row) × IsGroup w.files w.now row
  group_there p name h = grind (arith, nat_tests, k.holds Groups, false≢true, all-found)

-- ---- each change of groups

-- by the cover with a mark more
pub mark_moves : (w : World) (name : List ℕ) (mark : MarkRow) → HasParts w → MarksMove w (after_change w (AddMark name mark)) (λ file closed ended. longer (cover_until mark.until) (cover_of w.groups file closed ended)) (members_of w.groups name) (mark.at ∷ [])
mark_moves w name mark k = moves w k (with_mark name mark w.groups) (after_change w (AddMark name mark)).made (members_of w.groups name) (mark.at ∷ []) _
    (λ file closed ended apart. mark_apart file closed ended w.groups name mark apart) (λ file closed ended is. mark_longer file closed ended w.groups name mark is)

-- with the file in the group
pub member_moves : (w : World) (name : List ℕ) (file : ℕ) → HasParts w → MarksMove w (after_change w (AddMember name file)) (cover_with w.groups name) (file ∷ []) (marks_of w.groups name)
member_moves w name member k = moves w k (with_member name member w.groups) (after_change w (AddMember name member)).made (member ∷ []) (marks_of w.groups name) _
    (λ file closed ended apart. join_apart file closed ended w.groups name member apart) (λ file closed ended is. join_longer file closed ended w.groups name member is)

-- without the mark
pub unmark_moves : (w : World) (name : List ℕ) (moment : ℕ) → HasParts w → is_marked_at w.groups name moment ≡ true → MarksMove w (after_change w (RemoveMark name moment)) (cover_without w.groups name (Some moment)) (members_of w.groups name) (moment ∷ [])
unmark_moves w name moment k has =
    let group = group_there w k (has_mark moment) name has in
    moves w k (without_mark name moment w.groups) w.made (members_of w.groups name) (moment ∷ []) _
    (λ file closed ended apart. unmark_apart file closed ended w.groups name moment apart) (λ file closed ended is. unmark_still file closed ended w.groups name (named w k) moment group.0 group.1 group.2.once)

-- without the file
pub leave_moves : (w : World) (name : List ℕ) (file : ℕ) → HasParts w → has_member w.groups name file ≡ true → MarksMove w (after_change w (RemoveMember name file)) (cover_without w.groups name None) (file ∷ []) (marks_of w.groups name)
leave_moves w name member k has =
    let group = group_there w k (is_member member) name has in
    moves w k (without_member name member w.groups) w.made (member ∷ []) (marks_of w.groups name) _
    (λ file closed ended apart. leave_apart file closed ended w.groups name member apart)
    (λ file closed ended is. let same : member ≡ file = grind (arith, nat_tests) in subst (λ f. cover_of (without_member name f w.groups) file closed ended ≡ cover_without w.groups name None file closed ended) (sym same) (leave_still file closed ended w.groups name (named w k) group.0 group.1 group.2.apart))

-- without the group
pub drop_moves : (w : World) (name : List ℕ) → HasParts w → MarksMove w (after_change w (DropGroup name)) (cover_without w.groups name None) (members_of w.groups name) (marks_of w.groups name)
drop_moves w name k = moves w k (without_group name w.groups) w.made (members_of w.groups name) (marks_of w.groups name) _
    (λ file closed ended apart. drop_apart file closed ended w.groups name apart) (λ file closed ended is. drop_still file closed ended w.groups name (named w k))
