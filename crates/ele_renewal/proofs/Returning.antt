-- Which names are restorable in a renewed world.
use Rattle.ele_renewal.proofs.Found.{same_last}
use Rattle.ele_renewal.proofs.Found as found
use Rattle.ele_renewal.proofs.Files.{next_renewed}
use Rattle.ele_renewal.proofs.Fresh.{directory_lt, directory_same, file_there}
use Rattle.ele_renewal.proofs.Leads.{IsTargetThere, IsWhole, names_whole}
use Rattle.ele_renewal.proofs.Views.{any_same_all}
use Rattle.ele_renewal.proofs.Words.{AllByRecursion, Bool, Directory, File, IsStart, List, NameRow, None, Option, Some, Target, World, [], all-weaker, any-map, ap, arith, cond, false, has_directory, is_held, is_live_directory, is_some, is_target_directory, is_version, list_any, map, nat_tests, new_directory, new_file, new_version, next_of, option_map, refl, renewed, renewed_file, renewed_name, renewed_target, renewed_version, true, ℕ, ◌-◌, ◌<◌, ◌∙◌, ◌∷◌, ◌≡◌}
use Rattle.ele_model.specs.declared.rows.DeletedName.{DeletedName}
use Rattle.ele_model.specs.Restorable.{may_return, name_cmp, newest_rows, restorable, returning}
use Rattle.ele_renewal.specs.SameRestorable.{RenewedHasSameRestorable, renewed_deleted}
use Rattle.std.specs.BTreeMap.{insert_entry}
use Rattle.std.specs.List.{filter_map}
use Rattle.std.specs.Ordering.{nat_cmp}
use Rattle.std.specs.declared.cmp.Ordering.{Ordering}
use Rattle.std.specs.Prelude.{fold}

-- ---- entries under a change of keys that keeps their order

module _ {K X : Type 0} (cmp : K → K → Ordering) (g : K → K) (h : X → X) (P : K → Type 0) (keeps : (a b : K) → P a → P b → cmp (g a) (g b) ≡ cmp a b) where
  abbrev pub entry : K × X → K × X
  entry e = (g e.0, h e.1)

  pub entered : (k : K) (v : X) (es : List (K × X)) → P k → AllByRecursion (λ (e : K × X). P e.0) es → insert_entry cmp (map entry es) (g k) (h v) ≡ map entry (insert_entry cmp es k v)
  entered k v [] one all = refl
  entered k v (e ∷ es) one all = grind (arith, keeps k e.0 one all.0, entered k v es one all.1)

module _ {K X : Type 0} (cmp : K → K → Ordering) (P : K → Type 0) (Q : X → Type 0) where
  pub all_entered : (k : K) (v : X) (es : List (K × X)) → P k → Q v → AllByRecursion (λ (e : K × X). P e.0 × Q e.1) es → AllByRecursion (λ (e : K × X). P e.0 × Q e.1) (insert_entry cmp es k v)
  all_entered k v [] one two all = ((one, two), tt)
  all_entered k v (e ∷ es) one two all = grind (arith, all_entered k v es one two all.1)

module _ (w : World) (old : IsStart w) where
  -- ---- the newest rows

  abbrev IsKey : ℕ × List ℕ → Type 0
  IsKey key = has_directory w.directories key.0 ≡ true

  abbrev fresh_key : ℕ × List ℕ → ℕ × List ℕ
  fresh_key key = (new_directory w.directories key.0, key.1)

  abbrev IsEntry : (ℕ × List ℕ) × NameRow → Type 0
  IsEntry e = IsKey e.0 × IsWhole w old e.1

  same_directory_cmp : (a b : ℕ) → has_directory w.directories a ≡ true → has_directory w.directories b ≡ true → nat_cmp (new_directory w.directories a) (new_directory w.directories b) ≡ nat_cmp a b
  same_directory_cmp a b here there = grind (arith, nat_tests, directory_lt w.directories a b here, directory_lt w.directories b a there)

  same_name_cmp : (a b : ℕ × List ℕ) → IsKey a → IsKey b → name_cmp (fresh_key a) (fresh_key b) ≡ name_cmp a b
  same_name_cmp a b here there = rw (same_directory_cmp a.0 b.0 here there) refl

  abbrev renewed_entry : (ℕ × List ℕ) × NameRow → (ℕ × List ℕ) × NameRow
  renewed_entry e = (fresh_key e.0, renewed_name w e.1)

  abbrev newest_after : List ((ℕ × List ℕ) × NameRow) → NameRow → List ((ℕ × List ℕ) × NameRow)
  newest_after newest row = insert_entry name_cmp newest (row.directory, row.name) row

  newest_by : (rows : List NameRow) (newest : List ((ℕ × List ℕ) × NameRow)) → AllByRecursion (IsWhole w old) rows → AllByRecursion IsEntry newest
      → fold newest_after (map renewed_entry newest) (map (renewed_name w) rows) ≡ map renewed_entry (fold newest_after newest rows)
  newest_by [] newest all held = refl
  newest_by (row ∷ rows) newest all held =
      ap (λ (es : List ((ℕ × List ℕ) × NameRow)). fold newest_after es (map (renewed_name w) rows))
      (entered name_cmp fresh_key (renewed_name w) IsKey same_name_cmp (row.directory, row.name) row newest all.0.0 (all-weaker IsEntry (λ (e : (ℕ × List ℕ) × NameRow). IsKey e.0) newest (λ e is. is.0) held))
      ∙ newest_by rows (newest_after newest row) all.1 (all_entered name_cmp IsKey (IsWhole w old) (row.directory, row.name) row newest all.0.0 all.0 held)

  newest_held : (rows : List NameRow) (newest : List ((ℕ × List ℕ) × NameRow)) → AllByRecursion (IsWhole w old) rows → AllByRecursion IsEntry newest → AllByRecursion IsEntry (fold newest_after newest rows)
  newest_held [] newest all held = held
  newest_held (row ∷ rows) newest all held = newest_held rows (newest_after newest row) all.1 (all_entered name_cmp IsKey (IsWhole w old) (row.directory, row.name) row newest all.0.0 all.0 held)

  -- ---- which may return

  same_held : (file : ℕ) → 0 < next_of w.files file → is_held (renewed w) (new_file w.files file) (next_of (map (renewed_file w) w.files) (new_file w.files file) - 1) ≡ is_held w file (next_of w.files file - 1)
  same_held file here =
      let there = file_there w.files file here in
      let number : next_of (map (renewed_file w) w.files) (new_file w.files file) - 1 ≡ new_version w.versions file (next_of w.files file - 1) = omega (arith, next_renewed w file there) in
      rw number (any-map (renewed_version w) (is_version (new_file w.files file) (new_version w.versions file (next_of w.files file - 1))) w.versions
      ∙ any_same_all (λ row. is_version (new_file w.files file) (new_version w.versions file (next_of w.files file - 1)) (renewed_version w row)) (is_version file (next_of w.files file - 1)) w.versions
      (all-weaker (found.IsWhole w old.formed.versions) (λ row. is_version (new_file w.files file) (new_version w.versions file (next_of w.files file - 1)) (renewed_version w row) ≡ is_version file (next_of w.files file - 1) row) w.versions (same_last w old.formed.versions file there) (found.versions_whole w old.formed.versions)))

  same_target : (directory : ℕ) → has_directory w.directories directory ≡ true → (target : Target) → IsTargetThere w old target → is_target_directory (new_directory w.directories directory) (renewed_target w target) ≡ is_target_directory directory target
  same_target directory there (File file) here = refl
  same_target directory there (Directory other) here = directory_same w.directories other directory here.0 there

  same_live : (directory : ℕ) → has_directory w.directories directory ≡ true → list_any (is_live_directory (new_directory w.directories directory)) (map (renewed_name w) w.names) ≡ list_any (is_live_directory directory) w.names
  same_live directory there = any-map (renewed_name w) (is_live_directory (new_directory w.directories directory)) w.names
      ∙ any_same_all (λ row. is_live_directory (new_directory w.directories directory) (renewed_name w row)) (is_live_directory directory) w.names
      (all-weaker (IsWhole w old) (λ row. is_live_directory (new_directory w.directories directory) (renewed_name w row) ≡ is_live_directory directory row) w.names (λ row whole. rw (same_target directory there row.target whole.1) refl) (names_whole w old))

  same_may : (target : Target) → IsTargetThere w old target → may_return (renewed w) (renewed_target w target) ≡ may_return w target
  same_may (File file) here = same_held file here.1
  same_may (Directory directory) here = rw (same_live directory here.0) refl

  deleted_one : (may dead : Bool) (row : NameRow)
      → cond dead (cond may (Some (record { directory = new_directory w.directories row.directory; name = row.name; target = renewed_target w row.target })) None) None
      ≡ option_map (renewed_deleted w) (cond dead (cond may (Some (record { directory = row.directory; name = row.name; target = row.target })) None) None)
  deleted_one true true row = refl
  deleted_one false true row = refl
  deleted_one may false row = refl

  same_returning : (row : NameRow) → IsWhole w old row → returning (renewed w) (renewed_name w row) ≡ option_map (renewed_deleted w) (returning w row)
  same_returning row whole = rw (same_may row.target whole.1) (deleted_one (may_return w row.target) (is_some row.death) row)

  names_by : (es : List ((ℕ × List ℕ) × NameRow)) → AllByRecursion IsEntry es → filter_map (λ (e : (ℕ × List ℕ) × NameRow). returning (renewed w) e.1) (map renewed_entry es) ≡ map (renewed_deleted w) (filter_map (λ (e : (ℕ × List ℕ) × NameRow). returning w e.1) es)
  names_by [] all = refl
  names_by (e ∷ es) all = by (returning w e.1) refl (names_by es all.1) where
    by : (o : Option DeletedName) → returning w e.1 ≡ o
        → filter_map (λ (e : (ℕ × List ℕ) × NameRow). returning (renewed w) e.1) (map renewed_entry es) ≡ map (renewed_deleted w) (filter_map (λ (e : (ℕ × List ℕ) × NameRow). returning w e.1) es)
        → filter_map (λ (e : (ℕ × List ℕ) × NameRow). returning (renewed w) e.1) (map renewed_entry (e ∷ es)) ≡ map (renewed_deleted w) (filter_map (λ (e : (ℕ × List ℕ) × NameRow). returning w e.1) (e ∷ es))
    by None is rest = rw (same_returning e.1 all.0.1, is) rest
    by (Some row) is rest = rw (same_returning e.1 all.0.1, is) (ap (λ (rows : List DeletedName). renewed_deleted w row ∷ rows) rest)

pub same_restorable : RenewedHasSameRestorable
unfolding restorable
same_restorable w old =
    ap (λ (es : List ((ℕ × List ℕ) × NameRow)). filter_map (λ (e : (ℕ × List ℕ) × NameRow). returning (renewed w) e.1) es) (newest_by w old w.names [] (names_whole w old) tt)
    ∙ names_by w old (newest_rows w.names) (newest_held w old w.names [] (names_whole w old) tt)
