-- Groups with fresh numbers of their files.
use Rattle.ele_renewal.proofs.Files.{renewed_there}
use Rattle.ele_renewal.proofs.Fresh.{file_same, file_there}
use Rattle.ele_renewal.proofs.Ranks.{later-both}
use Rattle.ele_renewal.proofs.Words.{AreGroups, GroupRow, IsGroup, World, all-map, all-weaker, arith, bytes_eq, false, later-map, later-weaker, length, length-map, map, new_file, next_of, renewed_file, renewed_group, ℕ, ◌<◌, ◌==◌, ◌∙◌, ◌≡◌}

module _ (w : World) where
  each_group : (row : GroupRow) → IsGroup w.files w.now row → IsGroup (map (renewed_file w) w.files) w.now (renewed_group w row)
  each_group row is = record {
    there = all-map (new_file w.files) (λ member. 0 < next_of (map (renewed_file w) w.files) member) row.members
        (all-weaker (λ member. 0 < next_of w.files member) (λ member. 0 < next_of (map (renewed_file w) w.files) (new_file w.files member)) row.members (λ member there. renewed_there w member there) is.there);
    apart = later-map (new_file w.files) (λ earlier later. (earlier == later) ≡ false) row.members
        (later-weaker (λ x y. (0 < next_of w.files x) × (0 < next_of w.files y) × ((x == y) ≡ false)) (λ x y. (new_file w.files x == new_file w.files y) ≡ false) row.members
        (λ x y h. file_same w.files x y (file_there w.files x h.0) (file_there w.files y h.1) ∙ h.2)
        (later-both (λ member. 0 < next_of w.files member) (λ x y. (x == y) ≡ false) row.members is.there is.apart));
    past = is.past;
    lasting = is.lasting;
    once = is.once;
  }

  pub renewed_groups : (made : ℕ) → AreGroups made w.files w.now w.groups → AreGroups (length w.groups) (map (renewed_file w) w.files) w.now (map (renewed_group w) w.groups)
  renewed_groups made old = record {
    each = all-map (renewed_group w) (IsGroup (map (renewed_file w) w.files) w.now) w.groups
        (all-weaker (IsGroup w.files w.now) (λ row. IsGroup (map (renewed_file w) w.files) w.now (renewed_group w row)) w.groups each_group old.each);
    named = later-map (renewed_group w) (λ earlier later. bytes_eq earlier.name later.name ≡ false) w.groups old.named;
    counted = rw length-map (omega arith);
  }
