-- The scan of a renewed world.
use Rattle.ele_renewal.proofs.Found.{IsWhole, versions_whole}
use Rattle.ele_renewal.proofs.Fresh.{file_lt, has_file, version_lt}
use Rattle.ele_renewal.proofs.Views.{same_due, same_ripe}
use Rattle.ele_renewal.proofs.Words.{AllByRecursion, Bool, IsClosed, IsStart, List, None, Option, Some, VersionRow, World, [], all-weaker, ap, arith, cond, false, is_version, list_any, map, nat_tests, new_file, new_version, option_map, refl, renewed, renewed_version, true, ℕ, ◌==◌, ◌∙◌, ◌∷◌, ◌≡◌}
use Rattle.ele_due.specs.declared.key.Key.{Key}
use Rattle.ele_due.specs.InOrder.{in_order}
use Rattle.ele_due.specs.Key.{key_cmp}
use Rattle.ele_model.specs.Due.{is_due_at, ripe_of}
use Rattle.ele_model.specs.Scan.{due_key, key_of, scan}
use Rattle.ele_renewal.specs.SameScan.{RenewedHasSameScan, renewed_key}
use Rattle.std.specs.BTreeSet.{insert_key}
use Rattle.std.specs.List.{filter_map}
use Rattle.std.specs.Prelude.{fold}
use Rattle.std.specs.Ordering.{nat_cmp}

-- keys in order, under a change of keys that keeps their order
module _ (g : Key → Key) (P : Key → Type 0) (keeps : (a b : Key) → P a → P b → key_cmp (g a) (g b) ≡ key_cmp a b) where
  all_inserted : (key : Key) (keys : List Key) → P key → AllByRecursion P keys → AllByRecursion P (insert_key key_cmp keys key)
  all_inserted key [] one all = (one, tt)
  all_inserted key (x ∷ xs) one all = grind (arith, all_inserted key xs one all.1)

  inserted : (key : Key) (keys : List Key) → P key → AllByRecursion P keys → insert_key key_cmp (map g keys) (g key) ≡ map g (insert_key key_cmp keys key)
  inserted key [] one all = refl
  inserted key (x ∷ xs) one all = grind (arith, keeps key x one all.0, inserted key xs one all.1)

  folded : (keys sorted : List Key) → AllByRecursion P keys → AllByRecursion P sorted → fold (insert_key key_cmp) (map g sorted) (map g keys) ≡ map g (fold (insert_key key_cmp) sorted keys)
  folded [] sorted all held = refl
  folded (key ∷ keys) sorted all held = ap (λ (ks : List Key). fold (insert_key key_cmp) ks (map g keys)) (inserted key sorted all.0 held) ∙ folded keys (insert_key key_cmp sorted key) all.1 (all_inserted key sorted all.0 held)

  pub ordered : (keys : List Key) → AllByRecursion P keys → in_order (map g keys) ≡ map g (in_order keys)
  ordered keys all = folded keys [] all tt

module _ (w : World) (old : IsStart w) (closed : IsClosed w) where
  -- the key of a held version
  abbrev IsHeldKey : Key → Type 0
  IsHeldKey key = (has_file w.files key.file ≡ true) × (list_any (is_version key.file key.number) w.versions ≡ true)

  same_file_cmp : (a b : ℕ) → has_file w.files a ≡ true → has_file w.files b ≡ true → nat_cmp (new_file w.files a) (new_file w.files b) ≡ nat_cmp a b
  same_file_cmp a b here there = grind (arith, nat_tests, file_lt w.files a b here, file_lt w.files b a there)

  same_number_cmp : (file a b : ℕ) → list_any (is_version file a) w.versions ≡ true → list_any (is_version file b) w.versions ≡ true → nat_cmp (new_version w.versions file a) (new_version w.versions file b) ≡ nat_cmp a b
  same_number_cmp file a b here there = grind (arith, nat_tests, version_lt w.versions file a b here, version_lt w.versions file b a there)

  same_cmp : (a b : Key) → IsHeldKey a → IsHeldKey b → key_cmp (renewed_key w a) (renewed_key w b) ≡ key_cmp a b
  same_cmp a b here there = elim (a.file == b.file) as (λ t. (a.file == b.file) ≡ t → key_cmp (renewed_key w a) (renewed_key w b) ≡ key_cmp a b) [
    | true ↦ λ e.
        let same : b.file ≡ a.file = grind (arith, nat_tests, e) in
        let second : list_any (is_version a.file b.number) w.versions ≡ true = rw (← same) there.1 in
        rw (same_file_cmp a.file b.file here.0 there.0, same, same_number_cmp a.file a.number b.number here.1 second) refl
    | false ↦ λ e. rw (same_file_cmp a.file b.file here.0 there.0) (grind (arith, nat_tests, e))
  ] refl

  module _ (moment : ℕ) where
    abbrev later : World
    later = record w { now = moment }

    key_one : (due : Bool) (ripe : Option ℕ) (row : VersionRow) → cond due (option_map (key_of (renewed_version w row)) ripe) None ≡ option_map (renewed_key w) (cond due (option_map (key_of row) ripe) None)
    key_one true None row = refl
    key_one true (Some ripe) row = refl
    key_one false ripe row = refl

    same_key : (row : VersionRow) → IsWhole w old.formed.versions row → due_key (record (renewed w) { now = moment }) (renewed_version w row) ≡ option_map (renewed_key w) (due_key (record w { now = moment }) row)
    unfolding due_key is_due_at ripe_of
    same_key row whole = rw (same_due w old closed row whole moment, same_ripe w old closed row whole) (key_one (is_due_at w row moment) (ripe_of w row) row)

    held_key : (row : VersionRow) → IsWhole w old.formed.versions row → (key : Key) → due_key (record w { now = moment }) row ≡ Some key → IsHeldKey key
    unfolding due_key
    held_key row whole key is = by (is_due_at (record w { now = moment }) row moment) (ripe_of (record w { now = moment }) row) is where
      by : (due : Bool) (ripe : Option ℕ) → cond due (option_map (key_of row) ripe) None ≡ Some key → IsHeldKey key
      by true None is = absurd cc
      by true (Some ripe) is = let file : row.file ≡ key.file = cc in let number : row.number ≡ key.number = cc in rw (← file, ← number) (whole.0, whole.1)
      by false ripe is = absurd cc

-- keys of rows whose keys are changed
keys_by : (g : Key → Key) (h : VersionRow → VersionRow) (p q : VersionRow → Option Key) (xs : List VersionRow) → AllByRecursion (λ x. p (h x) ≡ option_map g (q x)) xs → filter_map p (map h xs) ≡ map g (filter_map q xs)
keys_by g h p q [] same = refl
keys_by g h p q (x ∷ xs) same = grind (arith, keys_by g h p q xs same.1)

keys_of_held : (P : VersionRow → Type 0) (Q : Key → Type 0) (q : VersionRow → Option Key) → ((x : VersionRow) → P x → (key : Key) → q x ≡ Some key → Q key) → (xs : List VersionRow) → AllByRecursion P xs → AllByRecursion Q (filter_map q xs)
keys_of_held P Q q gives [] all = tt
keys_of_held P Q q gives (x ∷ xs) all = by (q x) refl (keys_of_held P Q q gives xs all.1) where
  by : (o : Option Key) → q x ≡ o → AllByRecursion Q (filter_map q xs) → AllByRecursion Q (filter_map q (x ∷ xs))
  by None is rest = rw is rest
  by (Some key) is rest = rw is (gives x all.0 key is, rest)

pub same_scan : RenewedHasSameScan
unfolding scan
same_scan w old closed moment =
    let same = keys_by (renewed_key w) (renewed_version w) (due_key (record (renewed w) { now = moment })) (due_key (record w { now = moment })) w.versions
    (all-weaker (IsWhole w old.formed.versions) (λ row. due_key (record (renewed w) { now = moment }) (renewed_version w row) ≡ option_map (renewed_key w) (due_key (record w { now = moment }) row)) w.versions (same_key w old closed moment) (versions_whole w old.formed.versions)) in
    rw same (ordered (renewed_key w) (IsHeldKey w old closed) (same_cmp w old closed) (filter_map (due_key (record w { now = moment })) w.versions)
    (keys_of_held (IsWhole w old.formed.versions) (IsHeldKey w old closed) (due_key (record w { now = moment })) (held_key w old closed moment) w.versions (versions_whole w old.formed.versions)))
