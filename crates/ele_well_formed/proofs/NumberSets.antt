-- Numbers as a set: what is in it, of rows that give numbers.
use Rattle.ele_well_formed.proofs.Rows.{IsAt, any_before, later_more, none_passes, there}
use Rattle.ele_well_formed.proofs.Words.{AllLater, AreOthers, HandleRow, IsMisplaced, all-any, all-weaker, take, true, ◌+◌, List, NameRow, None, Option, Some, VersionRow, [], Bool, arith, directory_in, endless, false, file_written, filter_map, is_endless, is_live_directory, is_live_name_of, is_name_of_directory, is_version_of, is_writer, list_any, live_directory, live_file, map, nat_tests, option_map_or, refl, ℕ, ◌==◌, ◌∷◌, ◌≡◌}

-- a number is among those of the rows if it is that of some row
any_filter_map : {X : Type 0} (f : X → Option ℕ) (p : X → Bool) (q : ℕ) (xs : List X) → ((x : X) → option_map_or (λ n. n == q) (f x) false ≡ p x) → list_any (λ n. n == q) (filter_map f xs) ≡ list_any p xs
any_filter_map f p q [] same = refl
any_filter_map f p q (x ∷ xs) same = grind (arith, nat_tests, same x, any_filter_map f p q xs same)

pub named_directories_are : (names : List NameRow) (q : ℕ) → list_any (λ n. n == q) (filter_map (λ (row : NameRow). directory_in row.target) names) ≡ list_any (is_name_of_directory q) names
named_directories_are names q = any_filter_map (λ (row : NameRow). directory_in row.target) (is_name_of_directory q) q names (λ row. grind (arith, nat_tests))

pub live_directories_are : (names : List NameRow) (q : ℕ) → list_any (λ n. n == q) (filter_map live_directory names) ≡ list_any (is_live_directory q) names
live_directories_are names q = any_filter_map live_directory (is_live_directory q) q names (λ row. grind (arith, nat_tests))

pub live_files_are : (names : List NameRow) (q : ℕ) → list_any (λ n. n == q) (filter_map live_file names) ≡ list_any (is_live_name_of q) names
live_files_are names q = any_filter_map live_file (is_live_name_of q) q names (λ row. grind (arith, nat_tests))

pub written_files_are : (handles : List HandleRow) (q : ℕ) → list_any (λ n. n == q) (filter_map (λ (row : HandleRow). file_written row.reads) handles) ≡ list_any (is_writer q) handles
written_files_are handles q = any_filter_map (λ (row : HandleRow). file_written row.reads) (is_writer q) q handles (λ row. grind (arith, nat_tests))

pub endless_files_are : (versions : List VersionRow) (q : ℕ) → list_any (λ n. n == q) (filter_map endless versions) ≡ list_any (is_endless q) versions
endless_files_are versions q = any_filter_map endless (is_endless q) q versions (λ row. grind (arith, nat_tests))

pub held_files_are : (versions : List VersionRow) (q : ℕ) → list_any (λ n. n == q) (map (λ (row : VersionRow). row.file) versions) ≡ list_any (is_version_of q) versions
held_files_are [] q = refl
held_files_are (row ∷ rows) q = grind (arith, nat_tests, held_files_are rows q)

-- ---- live names of directories

live_id : (x : NameRow) (id q : ℕ) → live_directory x ≡ Some id → is_live_directory q x ≡ (id == q)
live_id x id q live = grind (arith, nat_tests)

live_none : (x : NameRow) (q : ℕ) → live_directory x ≡ None → is_live_directory q x ≡ false
live_none x q live = grind (arith, nat_tests)

module _ (names : List NameRow) (at : ℕ) (x : NameRow) (here : IsAt names at x) where
  -- a live name of a directory that an earlier one means
  pub others_wrong : (id : ℕ) → live_directory x ≡ Some id → list_any (is_live_directory id) (take at names) ≡ true → IsMisplaced AreOthers names at
  others_wrong id live any = let first = any_before (is_live_directory id) names at any in
      record { place = first.place; before = first.before; earlier = first.row; row = x; found = first.found; there = there names at x here; wrong = λ others. let no = others id first.passes in grind (arith, nat_tests, no, live_id x id id live) }

  -- or that none does
  pub others_more : (id : ℕ) → live_directory x ≡ Some id → list_any (is_live_directory id) (take at names) ≡ false → AllLater AreOthers (take at names) → AllLater AreOthers (take (at + 1) names)
  others_more id live none later = later_more names at x here AreOthers later (all-weaker (λ z. is_live_directory id z ≡ false) (λ z. AreOthers z x) (take at names) (λ z no q yes. grind (arith, nat_tests, no, yes, live_id x id q live)) (none_passes (is_live_directory id) (take at names) none))

  -- or another name
  pub others_none : live_directory x ≡ None → AllLater AreOthers (take at names) → AllLater AreOthers (take (at + 1) names)
  others_none live later = later_more names at x here AreOthers later (all-any (λ z. AreOthers z x) (take at names) (λ z q yes. live_none x q live))

  pub live_more : (id q : ℕ) → live_directory x ≡ Some id → is_live_directory q x ≡ (id == q)
  live_more id q live = live_id x id q live

  pub live_same : (q : ℕ) → live_directory x ≡ None → is_live_directory q x ≡ false
  live_same q live = live_none x q live
