-- What a policy sees of a file in a renewed world is what it saw.
use Rattle.ele_lists.proofs.Found.{find-same_all}
use Rattle.ele_renewal.proofs.Found.{IsWhole, versions_whole}
use Rattle.ele_renewal.proofs.Fresh.{file_same, file_there, files_there, has_file, version_le, version_lt}
use Rattle.ele_renewal.proofs.Words.{AllByRecursion, Bool, Directory, File, FileRow, GroupRow, IsClosed, IsGroup, IsNameRow, IsStart, IsThere, List, MarkRow, None, Option, Some, Target, VersionRow, World, [], all-weaker, any-map, ap, arith, false, filter, find, find-map, is_file, is_live_name_of, is_target_file, is_version, is_version_of, list_any, map, nat_tests, new_file, next_of, option_map, refl, renewed, renewed_file, renewed_group, renewed_name, renewed_target, renewed_version, sym, true, ℕ, ◌++◌, ◌<◌, ◌==◌, ◌∙◌, ◌∷◌, ◌≡◌}
use Rattle.ele_model.specs.Due.{is_due_at, ripe_of}
use Rattle.ele_model.specs.FileView.{FileView, closings, due_in, ends_over, file_view, is_newer, numbers_read, ripe_in}
use Rattle.ele_model.specs.GroupRows.{is_member, marks_over}
use Rattle.ele_model.specs.World.{policy_of}
use Rattle.ele_policy.proofs.Earliest.{earliest_same}
use Rattle.ele_policy.specs.Ripe.{candidates, earliest_of}
use Rattle.ele_policy.specs.declared.policy.Policy.{Policy}
use Rattle.std.specs.Prelude.{option_and_then}
use Rattle.std.proofs.lemmas.List.Concat.{flat_map-cons}
use Rattle.std.specs.List.{flat_map}

module _ {X : Type 0} where
  pub any_same_all : (p q : X → Bool) (xs : List X) → AllByRecursion (λ x. p x ≡ q x) xs → list_any p xs ≡ list_any q xs
  any_same_all p q [] same = refl
  any_same_all p q (x ∷ xs) same = rw (same.0, any_same_all p q xs same.1) refl

  pub filter_map_same : {Y : Type 0} (h : X → Y) (p : Y → Bool) (q : X → Bool) (xs : List X) → AllByRecursion (λ x. p (h x) ≡ q x) xs → filter p (map h xs) ≡ map h (filter q xs)
  filter_map_same h p q [] same = refl
  filter_map_same h p q (x ∷ xs) same = grind (arith, filter_map_same h p q xs)

  pub map_map_same : {Y Z : Type 0} (g : Y → Z) (h : X → Y) (f : X → Z) (xs : List X) → ((x : X) → g (h x) ≡ f x) → map g (map h xs) ≡ map f xs
  map_map_same g h f [] same = refl
  map_map_same g h f (x ∷ xs) same = rw (same x, map_map_same g h f xs same) refl

-- two views and versions that are due at the same moments have the same ripe moment
ripe_by : (policy : Option Policy) (ended : Option ℕ) (p q : ℕ → Bool) (ends : List ℕ) → ((at : ℕ) → p at ≡ q at)
    → option_and_then (λ policy. option_and_then (λ ended. earliest_of p (candidates policy ended ++ ends)) ended) policy ≡ option_and_then (λ policy. option_and_then (λ ended. earliest_of q (candidates policy ended ++ ends)) ended) policy
ripe_by None ended p q ends same = refl
ripe_by (Some policy) None p q ends same = refl
ripe_by (Some policy) (Some ended) p q ends same = earliest_same p q (λ at fits. same at) (candidates policy ended ++ ends)

ripe_from : (policy other : Option Policy) (ended end : Option ℕ) (p q : ℕ → Bool) (ends more : List ℕ) → policy ≡ other → ended ≡ end → ends ≡ more → ((at : ℕ) → p at ≡ q at)
    → option_and_then (λ policy. option_and_then (λ ended. earliest_of p (candidates policy ended ++ ends)) ended) policy ≡ option_and_then (λ policy. option_and_then (λ ended. earliest_of q (candidates policy ended ++ more)) end) other
ripe_from policy other ended end p q ends more policies endeds same_ends same = rw (policies, endeds, same_ends) (ripe_by other end p q more same)

ripe_same : (v u : FileView) (x y : VersionRow) → v.policy ≡ u.policy → v.marks ≡ u.marks → x.closed ≡ y.closed → x.ended ≡ y.ended → ((at : ℕ) → due_in v x at ≡ due_in u y at) → ripe_in v x ≡ ripe_in u y
ripe_same v u x y policy marks closed ended due =
    ripe_from v.policy u.policy x.ended y.ended (due_in v x) (due_in u y) (ends_over x.closed x.ended v.marks) (ends_over y.closed y.ended u.marks) policy ended (rw (marks, closed, ended) refl) due

module _ (w : World) (old : IsStart w) where
  -- ---- the parts of a view

  policy_one : (o : Option FileRow) → option_map (λ row. row.policy) (option_map (renewed_file w) o) ≡ option_map (λ row. row.policy) o
  policy_one None = refl
  policy_one (Some row) = refl

  module _ (file : ℕ) (there : has_file w.files file ≡ true) where
    pub same_policy : policy_of (map (renewed_file w) w.files) (new_file w.files file) ≡ policy_of w.files file
    same_policy = rw (
      find-map (renewed_file w) (is_file (new_file w.files file)) w.files,
      find-same_all (λ x. is_file (new_file w.files file) (renewed_file w x)) (is_file file) w.files (all-weaker (λ x. has_file w.files x.id ≡ true) (λ x. is_file (new_file w.files file) (renewed_file w x) ≡ is_file file x) w.files (λ x here. file_same w.files x.id file here there) (files_there w.files)),
    )
        (policy_one (find (is_file file) w.files))

    pub same_rows : filter (is_version_of (new_file w.files file)) (map (renewed_version w) w.versions) ≡ map (renewed_version w) (filter (is_version_of file) w.versions)
    same_rows = filter_map_same (renewed_version w) (is_version_of (new_file w.files file)) (is_version_of file) w.versions
        (all-weaker (IsWhole w old.formed.versions) (λ x. is_version_of (new_file w.files file) (renewed_version w x) ≡ is_version_of file x) w.versions (λ x whole. file_same w.files x.file file whole.0 there) (versions_whole w old.formed.versions))

    live_target : (target : Target) → IsThere w.files target → is_target_file (new_file w.files file) (renewed_target w target) ≡ is_target_file file target
    live_target (File other) here = file_same w.files other file (file_there w.files other here) there
    live_target (Directory directory) here = refl

    pub same_live : list_any (is_live_name_of (new_file w.files file)) (map (renewed_name w) w.names) ≡ list_any (is_live_name_of file) w.names
    same_live = any-map (renewed_name w) (is_live_name_of (new_file w.files file)) w.names
        ∙ any_same_all (λ x. is_live_name_of (new_file w.files file) (renewed_name w x)) (is_live_name_of file) w.names
        (all-weaker (IsNameRow w.files w.now) (λ x. is_live_name_of (new_file w.files file) (renewed_name w x) ≡ is_live_name_of file x) w.names (λ x is. rw (live_target x.target is.there) refl) old.formed.names.each)

    pub same_member : (row : GroupRow) → IsGroup w.files w.now row → is_member (new_file w.files file) (renewed_group w row) ≡ is_member file row
    same_member row is = any-map (new_file w.files) (λ member. member == new_file w.files file) row.members
        ∙ any_same_all (λ member. new_file w.files member == new_file w.files file) (λ member. member == file) row.members
        (all-weaker (λ member. 0 < next_of w.files member) (λ member. (new_file w.files member == new_file w.files file) ≡ (member == file)) row.members (λ member here. file_same w.files member file (file_there w.files member here) there) is.there)

    marks_by : (groups : List GroupRow) → flat_map (λ row. row.marks) (map (renewed_group w) groups) ≡ flat_map (λ row. row.marks) groups
    marks_by [] = refl
    marks_by (row ∷ rows) = flat_map-cons (λ (x : GroupRow). x.marks) (renewed_group w row) (map (renewed_group w) rows) ∙ (ap (λ (ms : List MarkRow). row.marks ++ ms) (marks_by rows) ∙ sym (flat_map-cons (λ (x : GroupRow). x.marks) row rows))

    pub same_marks : marks_over (map (renewed_group w) w.groups) (new_file w.files file) ≡ marks_over w.groups file
    same_marks = rw (filter_map_same (renewed_group w) (is_member (new_file w.files file)) (is_member file) w.groups (all-weaker (IsGroup w.files w.now) (λ row. is_member (new_file w.files file) (renewed_group w row) ≡ is_member file row) w.groups same_member old.formed.groups.each))
        (marks_by (filter (is_member file) w.groups))

  -- ---- what is beside a version

  -- of the versions of one file the same are newer
  newer_same : (row x : VersionRow) → IsWhole w old.formed.versions row → IsWhole w old.formed.versions x → x.file ≡ row.file → is_newer (renewed_version w row) (renewed_version w x) ≡ is_newer row x
  newer_same row x whole other same =
      let held : list_any (is_version row.file row.number) w.versions ≡ true = whole.1 in
      let there : list_any (is_version row.file x.number) w.versions ≡ true = rw (← same) other.1 in
      rw same (grind (arith, nat_tests, version_lt w.versions row.file row.number x.number held, version_le w.versions row.file x.number row.number))

  pub own_rows : (file : ℕ) (rows : List VersionRow) → AllByRecursion (IsWhole w old.formed.versions) rows → AllByRecursion (λ x. IsWhole w old.formed.versions x × (x.file ≡ file)) (filter (is_version_of file) rows)
  own_rows file [] all = tt
  own_rows file (x ∷ xs) all = elim (x.file == file) as (λ t. (x.file == file) ≡ t → AllByRecursion (λ x. IsWhole w old.formed.versions x × (x.file ≡ file)) (filter (is_version_of file) (x ∷ xs))) [
    | true ↦ λ e. rw e ((all.0, grind (arith, nat_tests, e)), own_rows file xs all.1)
    | false ↦ λ e. rw e (own_rows file xs all.1)
  ] refl

  pub same_newer_rows : (row : VersionRow) → IsWhole w old.formed.versions row → filter (is_newer (renewed_version w row)) (map (renewed_version w) (filter (is_version_of row.file) w.versions)) ≡ map (renewed_version w) (filter (is_newer row) (filter (is_version_of row.file) w.versions))
  same_newer_rows row whole = filter_map_same (renewed_version w) (is_newer (renewed_version w row)) (is_newer row) (filter (is_version_of row.file) w.versions) (all-weaker (λ x. IsWhole w old.formed.versions x × (x.file ≡ row.file)) (λ x. is_newer (renewed_version w row) (renewed_version w x) ≡ is_newer row x) (filter (is_version_of row.file) w.versions) (λ x h. newer_same row x whole h.0 h.1) (own_rows row.file w.versions (versions_whole w old.formed.versions)))

  same_newer : (row : VersionRow) → IsWhole w old.formed.versions row → closings (filter (is_newer (renewed_version w row)) (map (renewed_version w) (filter (is_version_of row.file) w.versions))) ≡ closings (filter (is_newer row) (filter (is_version_of row.file) w.versions))
  same_newer row whole = rw (same_newer_rows row whole)
      (map_map_same (λ (x : VersionRow). x.closed) (renewed_version w) (λ (x : VersionRow). x.closed) (filter (is_newer row) (filter (is_version_of row.file) w.versions)) (λ x. refl))

  -- ---- due and ripe

  module _ (closed : IsClosed w) (row : VersionRow) (whole : IsWhole w old.formed.versions row) where
    pub unread : numbers_read w.handles row.file ≡ []
    unread = rw closed.handles refl

    newer : closings (filter (is_newer (renewed_version w row)) (filter (is_version_of (new_file w.files row.file)) (map (renewed_version w) w.versions))) ≡ closings (filter (is_newer row) (filter (is_version_of row.file) w.versions))
    newer = rw (same_rows row.file whole.0) (same_newer row whole)

    pub same_due : (at : ℕ) → is_due_at (renewed w) (renewed_version w row) at ≡ is_due_at w row at
    unfolding is_due_at
    same_due at = rw (same_policy row.file whole.0, newer, same_live row.file whole.0, same_marks row.file whole.0, unread) refl

    pub same_ripe : ripe_of (renewed w) (renewed_version w row) ≡ ripe_of w row
    unfolding ripe_of is_due_at
    same_ripe = ripe_same (file_view (renewed w) (new_file w.files row.file)) (file_view w row.file) (renewed_version w row) row (same_policy row.file whole.0) (same_marks row.file whole.0) refl refl (λ at. same_due at)
