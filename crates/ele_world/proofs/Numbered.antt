-- What a number reads, describes and opens, and which number the refusal has if it was removed.
use Rattle.ele_model.proofs.Basics.{nat_tests, arith, ◌≡◌, ℕ, ◌<◌, ◌≤◌, true, List, [], ◌∷◌, Option, Some, None, Ok, Err, Result, refl, find, AllByRecursion, AllLater, all-found, all-weaker, any-found, found_passes, last_has, last_passing, option_map}
use Rattle.ele_model.proofs.Words.{World, TaggedPath, HasParts, ArePlaced, IsVersion, Versions, file_now, is_version, last_number, version_at, version_meant, walk_now, is_held}
use Rattle.ele_world.proofs.Words.{VersionRow, File, Forgotten, Refusal}
use Rattle.ele_path.specs.declared.tagged.Tag.TheVariants as tag
use Rattle.ele_model.specs.declared.refusal.Refusal.TheVariants.{NoVersion}
use Rattle.ele_lists.proofs.Cuts.{any-found as first_passing}
use Rattle.ele_world.specs.Answered.{AnswersVersion, Refuses}
use Rattle.ele_world.specs.NumberMeans.{IsGreatestBelow, MeansNumber}
use Rattle.ele_model.specs.Tagged.{is_before}
use Rattle.ele_model.proofs.Versions.{IsFound, all_found}
use Rattle.ele_world.proofs.Written.{handle_reads}
use Rattle.ele_model.proofs.Walks.{file_of}

pub all_held : (w : World) → HasParts w → AllByRecursion (λ row. is_held w row.file row.number ≡ true) w.versions
all_held w k = all-weaker (IsFound w.versions) (λ row. is_held w row.file row.number ≡ true) w.versions (λ row found. any-found (is_version row.file row.number) (is_version row.file row.number) w.versions row found (grind (arith, nat_tests))) (all_found w.versions (k.holds Versions).placed)

-- ---- the last number below is the greatest

record IsUpTo (last : Option ℕ) (number : ℕ) : Type 0 where
  is : ℕ
  found : last ≡ Some is
  most : number ≤ is

module _ (file number : ℕ) where
  abbrev Below : List VersionRow → VersionRow → Type 0
  Below rows row = is_before file number row ≡ true → IsUpTo (last_number (is_before file number) rows) row.number

  first_below : (x : VersionRow) (xs : List VersionRow) (found : Option VersionRow) → last_passing (is_before file number) xs ≡ found → AllByRecursion (ArePlaced x) xs → Below (x ∷ xs) x
  first_below x xs None e placed = λ is. grind (arith, nat_tests, e, is)
  first_below x xs (Some z) e placed = let of = last_has (is_before file number) (ArePlaced x) xs z placed e in let after = of.0.after in λ is. grind (arith, nat_tests, e, is, of.1, after)

  all_below : (rows : List VersionRow) → AllLater ArePlaced rows → AllByRecursion (Below rows) rows
  all_below [] placed = tt
  all_below (x ∷ xs) placed = (first_below x xs (last_passing (is_before file number) xs) refl placed.0, all-weaker (Below xs) (Below (x ∷ xs)) xs (λ y below is. grind (arith, nat_tests, below is)) (all_below xs placed.1))

  greatest_below : (w : World) → HasParts w → IsGreatestBelow w file number (last_number (is_before file number) w.versions)
  greatest_below w k = record {
    held = λ other is. held other (last_passing (is_before file number) w.versions) refl is;
    greatest = λ other held less. up other less (first_passing (is_version file other) w.versions held);
  } where
    held : (other : ℕ) (found : Option VersionRow) → last_passing (is_before file number) w.versions ≡ found → option_map (λ (row : VersionRow). row.number) found ≡ Some other → (is_held w file other ≡ true) × (other < number)
    held other None e is = absurd cc
    held other (Some z) e is =
        let of = last_has (is_before file number) (λ row. is_held w row.file row.number ≡ true) w.versions z (all_held w k) e in
        let own : z.file ≡ file = grind (arith, nat_tests, of.1) in
        let same : z.number ≡ other = cc in
        (rw (own, same) at of.0, grind (arith, nat_tests, of.1, same))

    up : (other : ℕ) → other < number → ((row : VersionRow) × (find (is_version file other) w.versions ≡ Some row)) → (last : ℕ) × (last_number (is_before file number) w.versions ≡ Some last) × (other ≤ last)
    up other less there =
        let passes = found_passes (is_version file other) w.versions there.0 there.1 in
        let most = all-found (is_version file other) (Below w.versions) w.versions there.0 there.1 (all_below w.versions (k.holds Versions).placed) (grind (arith, nat_tests, passes)) in
        (most.is, most.found, grind (arith, nat_tests, passes, most.most))

-- ---- what is answered

module _ (w : World) (path : List (List ℕ)) (file number : ℕ) (k : HasParts w) (named : file_now w.names path ≡ Ok file) where
  abbrev t : TaggedPath
  t = record { path = path; tag = tag.Number number }

  abbrev meant : Result VersionRow Refusal
  meant = version_meant w.files w.versions file (tag.Number number)

  leads : walk_now w.names path ≡ Ok (File file)
  leads = file_of (walk_now w.names path) file named

  at : version_at w t ≡ meant
  at = rw leads refl

  answers : (row : VersionRow) → meant ≡ Ok row → row.file ≡ file → AnswersVersion w t row
  answers row is own = record {
    read = grind (arith, nat_tests, leads, is);
    stat = grind (arith, nat_tests, leads, is, own);
    opened = λ handle told. let by = handle_reads w t handle k told in grind (arith, at, is, by.meant, by.reads);
  }

  refuses : (refusal : Refusal) → meant ≡ Err refusal → Refuses w t refusal
  refuses refusal is = record { read = grind (arith, nat_tests, leads, is); stat = grind (arith, nat_tests, leads, is); opened = grind (arith, nat_tests, leads, is) }

  is_held_row : (row : VersionRow) → find (is_version file number) w.versions ≡ Some row → (meant ≡ Ok row) × (row.file ≡ file)
  is_held_row row found = grind (arith, nat_tests, k.holds Versions, all-found (is_version file number) (IsVersion w.files w.now) w.versions row found, found_passes (is_version file number) w.versions row found, found)

  means : MeansNumber w t file number
  means = record {
    held = λ row found. let is = is_held_row row found in answers row is.0 is.1;
    gone = λ none first made. (last_number (is_before file number) w.versions, greatest_below file number w k, refuses (Forgotten (last_number (is_before file number) w.versions)) (grind (arith, nat_tests, none, first, made)));
    never = λ out. refuses NoVersion (grind (arith, nat_tests, out));
  }

pub number_means : (w : World) (path : List (List ℕ)) (file number : ℕ) → HasParts w → file_now w.names path ≡ Ok file → MeansNumber w (record { path = path; tag = tag.Number number }) file number
number_means w path file number k named = means w path file number k named
