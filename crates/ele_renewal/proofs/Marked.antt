-- Which marks hold the versions of a renewed world.
use Rattle.ele_renewal.proofs.Found.{IsWhole, versions_whole}
use Rattle.ele_renewal.proofs.Fresh.{has_file}
use Rattle.ele_renewal.proofs.Views.{any_same_all, same_marks, same_member}
use Rattle.ele_renewal.proofs.Words.{AllByRecursion, Bool, GroupRow, IsGroup, IsStart, List, MarkRow, None, Option, Some, VersionRow, World, all-weaker, any-map, ap, find, find-map, find-same_all, map, new_file, option_map, refl, renewed, renewed_group, renewed_version, true, ℕ, ◌&&◌, ◌∙◌, ◌≡◌}
use Rattle.ele_model.specs.Cover.{cover_by}
use Rattle.ele_model.specs.GroupRows.{has_covering, is_member, keeps_at}
use Rattle.ele_renewal.specs.SameCover.{IsMarkedIn, IsSameCover, RenewedHasSameCover, is_marked_in}

module _ (w : World) (old : IsStart w) (row : VersionRow) (there : has_file w.files row.file ≡ true) (at : ℕ) where
  -- the group holds the version at the moment
  abbrev holds : GroupRow → Bool
  holds group = is_member row.file group && has_covering row.closed row.ended at group

  abbrev holds_renewed : GroupRow → Bool
  holds_renewed group = is_member (new_file w.files row.file) group && has_covering row.closed row.ended at group

  same_holds : AllByRecursion (λ group. holds_renewed (renewed_group w group) ≡ holds group) w.groups
  same_holds = all-weaker (IsGroup w.files w.now) (λ group. holds_renewed (renewed_group w group) ≡ holds group) w.groups (λ group is. rw (same_member w old row.file there group is) refl) old.formed.groups.each

  pub same_marked : is_marked_in (renewed w) (renewed_version w row) at ≡ is_marked_in w row at
  same_marked = any-map (renewed_group w) holds_renewed w.groups ∙ any_same_all (λ group. holds_renewed (renewed_group w group)) holds w.groups same_holds

  same_group : find holds_renewed (map (renewed_group w) w.groups) ≡ option_map (renewed_group w) (find holds w.groups)
  same_group = find-map (renewed_group w) holds_renewed w.groups ∙ ap (option_map (renewed_group w)) (find-same_all (λ group. holds_renewed (renewed_group w group)) holds w.groups same_holds)

  module _ (name : List ℕ) (mark : MarkRow) where
    pub marked_before : IsMarkedIn (renewed w) (renewed_version w row) at name mark → IsMarkedIn w row at name mark
    marked_before is = by (find holds w.groups) refl where
      by : (found : Option GroupRow) → find holds w.groups ≡ found → IsMarkedIn w row at name mark
      by None none = absurd cc (same_group, none, is.first_group)
      by (Some group) some =
          let same : renewed_group w group ≡ is.group = cc (same_group, some, is.first_group) in
          record { group = group; first_group = some; named = ap (λ (g : GroupRow). g.name) same ∙ is.named; first_mark = ap (λ (g : GroupRow). find (keeps_at row.closed row.ended at) g.marks) same ∙ is.first_mark }

    pub marked_after : IsMarkedIn w row at name mark → IsMarkedIn (renewed w) (renewed_version w row) at name mark
    marked_after is = record { group = renewed_group w is.group; first_group = same_group ∙ ap (option_map (renewed_group w)) is.first_group; named = is.named; first_mark = is.first_mark }

same_covers : (w : World) (old : IsStart w) (row : VersionRow) → has_file w.files row.file ≡ true → IsSameCover w row
same_covers w old row there = record {
  cover = ap (cover_by row.closed row.ended) (same_marks w old row.file there);
  marked = λ at. same_marked w old row there at;
  marked_by = λ at name mark. (marked_before w old row there at name mark, marked_after w old row there at name mark);
}

pub same_cover : RenewedHasSameCover
same_cover w old = all-weaker (IsWhole w old.formed.versions) (IsSameCover w) w.versions (λ row whole. same_covers w old row whole.0) (versions_whole w old.formed.versions)
