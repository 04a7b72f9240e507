-- What ties files, names and versions, with fresh numbers.
use Rattle.ele_renewal.proofs.Files.{next_renewed}
use Rattle.ele_renewal.proofs.Fresh.{file_there}
use Rattle.ele_renewal.proofs.Words.{AreNames, Bool, Directory, File, HasNoIdle, HaveCurrent, HaveEnded, IsNameRow, IsOfLive, IsThere, List, NameRow, Some, Target, VersionRow, World, [], all-found, all-map, all-weaker, any-found, any-map, any-weaker, arith, false, find, found_passes, has_draft, is_current, is_idle, is_live_name_of, is_none, is_target_file, is_version_of, list_any, map, nat_tests, new_file, next_of, refl, renewed, renewed_file, renewed_name, renewed_target, renewed_version, true, ℕ, ◌&&◌, ◌-◌, ◌<◌, ◌∷◌, ◌≡◌}

-- the first that passes, if one does
pub any_find : {X : Type 0} (p : X → Bool) (xs : List X) → list_any p xs ≡ true → (x : X) × (find p xs ≡ Some x)
any_find p [] any = absurd cc
any_find p (x ∷ xs) any = elim (p x) as (λ t. p x ≡ t → (y : _) × (find p (x ∷ xs) ≡ Some y)) [
  | true ↦ λ e. (x, rw e refl)
  | false ↦ λ e. let rest = any_find p xs (rw e at any) in (rest.0, rw e rest.1)
] refl

module _ (w : World) where
  -- ---- names of files

  means : (file : ℕ) (target : Target) → is_target_file file target ≡ true → is_target_file (new_file w.files file) (renewed_target w target) ≡ true
  means file (File other) is = let e : other ≡ file = grind (arith, nat_tests, is) in rw e (grind (arith, nat_tests))
  means file (Directory directory) is = absurd cc

  live_means : (file : ℕ) (row : NameRow) → is_live_name_of file row ≡ true → is_live_name_of (new_file w.files file) (renewed_name w row) ≡ true
  live_means file row is = grind (arith, means file row.target)

  pub live_renewed : (file : ℕ) → list_any (is_live_name_of file) w.names ≡ true → list_any (is_live_name_of (new_file w.files file)) (map (renewed_name w) w.names) ≡ true
  live_renewed file any = rw (any-map (renewed_name w) (is_live_name_of (new_file w.files file)) w.names) (any-weaker (is_live_name_of file) (λ x. is_live_name_of (new_file w.files file) (renewed_name w x)) w.names (live_means file) any)

  -- the file of a live name that has the fresh number
  record IsLiveAs (fresh : ℕ) : Type 0 where
    file : ℕ
    is : new_file w.files file ≡ fresh
    there : 0 < next_of w.files file
    live : list_any (is_live_name_of file) w.names ≡ true

  live_as : (fresh : ℕ) (target : Target) (live : Bool) → IsThere w.files target → (is_target_file fresh (renewed_target w target) && live) ≡ true → (file : ℕ) × ((new_file w.files file ≡ fresh) × (0 < next_of w.files file) × ((is_target_file file target && live) ≡ true))
  live_as fresh (File file) live there is = (file, (grind (arith, nat_tests, is), there, grind (arith, nat_tests, is)))
  live_as fresh (Directory directory) live there is = absurd cc

  was_live : AreNames w.files w.now w.names → (fresh : ℕ) → list_any (is_live_name_of fresh) (map (renewed_name w) w.names) ≡ true → IsLiveAs fresh
  was_live names fresh any =
      let some = any_find (λ x. is_live_name_of fresh (renewed_name w x)) w.names (rw (any-map (renewed_name w) (is_live_name_of fresh) w.names) at any) in
      let row = some.0 in
      let is : IsNameRow w.files w.now row = all-found (λ x. is_live_name_of fresh (renewed_name w x)) (IsNameRow w.files w.now) w.names row some.1 names.each in
      let old = live_as fresh row.target (is_none row.death) is.there (found_passes (λ x. is_live_name_of fresh (renewed_name w x)) w.names row some.1) in
      record {
        file = old.0;
        is = old.1.0;
        there = old.1.1;
        live = any-found (λ x. is_live_name_of fresh (renewed_name w x)) (is_live_name_of old.0) w.names row some.1 old.1.2;
      }

  -- ---- current versions

  current_renewed : (file : ℕ) → 0 < next_of w.files file → list_any (is_current file (next_of w.files file)) w.versions ≡ true → list_any (is_current (new_file w.files file) (next_of (map (renewed_file w) w.files) (new_file w.files file))) (map (renewed_version w) w.versions) ≡ true
  current_renewed file there any = rw (any-map (renewed_version w) (is_current (new_file w.files file) (next_of (map (renewed_file w) w.files) (new_file w.files file))) w.versions)
      (any-weaker (is_current file (next_of w.files file)) (λ x. is_current (new_file w.files file) (next_of (map (renewed_file w) w.files) (new_file w.files file)) (renewed_version w x)) w.versions by any) where
        by : (x : VersionRow) → is_current file (next_of w.files file) x ≡ true → is_current (new_file w.files file) (next_of (map (renewed_file w) w.files) (new_file w.files file)) (renewed_version w x) ≡ true
        by x is =
            let e : x.file ≡ file = grind (arith, nat_tests, is) in
            let last : next_of w.files file - 1 ≡ x.number = grind (arith, nat_tests, is) in
            let open_end : is_none x.ended ≡ true = grind (arith, nat_tests, is) in
            rw (next_renewed w file (file_there w.files file there), last, e, open_end) (grind (arith, nat_tests))

  pub renewed_current : AreNames w.files w.now w.names → HaveCurrent w → HaveCurrent (renewed w)
  renewed_current names old fresh live =
      let was = was_live names fresh live in
      subst_file was.is (current_renewed was.file was.there (old was.file was.live)) where
        subst_file : {a b : ℕ} → a ≡ b → list_any (is_current a (next_of (map (renewed_file w) w.files) a)) (map (renewed_version w) w.versions) ≡ true → list_any (is_current b (next_of (map (renewed_file w) w.files) b)) (map (renewed_version w) w.versions) ≡ true
        subst_file same h = rw (← same) h

  pub renewed_ended : HaveEnded w → HaveEnded (renewed w)
  renewed_ended old = all-map (renewed_version w) (IsOfLive (map (renewed_name w) w.names)) w.versions
      (all-weaker (IsOfLive w.names) (λ row. IsOfLive (map (renewed_name w) w.names) (renewed_version w row)) w.versions (λ row h none. live_renewed row.file (h none)) old)

  -- ---- no idle file

  held_renewed : (file : ℕ) → list_any (is_version_of file) w.versions ≡ true → list_any (is_version_of (new_file w.files file)) (map (renewed_version w) w.versions) ≡ true
  held_renewed file any = rw (any-map (renewed_version w) (is_version_of (new_file w.files file)) w.versions) (any-weaker (is_version_of file) (λ x. is_version_of (new_file w.files file) (renewed_version w x)) w.versions by any) where
    by : (x : VersionRow) → is_version_of file x ≡ true → is_version_of (new_file w.files file) (renewed_version w x) ≡ true
    by x is = let e : x.file ≡ file = grind (arith, nat_tests, is) in rw e (grind (arith, nat_tests))

  no_draft : (file : ℕ) → w.drafts ≡ [] → has_draft w file ≡ false
  no_draft file none = rw none refl

  busy : (file : ℕ) → w.drafts ≡ [] → is_idle w file ≡ false → is_idle (renewed w) (new_file w.files file) ≡ false
  busy file none is = grind (arith, nat_tests, no_draft file none, live_renewed file, held_renewed file)

  pub renewed_idle : w.drafts ≡ [] → HasNoIdle w → HasNoIdle (renewed w)
  renewed_idle none old = all-map (renewed_file w) (λ row. is_idle (renewed w) row.id ≡ false) w.files
      (all-weaker (λ row. is_idle w row.id ≡ false) (λ row. is_idle (renewed w) (new_file w.files row.id) ≡ false) w.files (λ row is. busy row.id none is) old)
