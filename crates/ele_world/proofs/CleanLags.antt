-- A clean of the world that lags: one more version is removed, and its file with it if that has nothing else.
use Rattle.ele_model.proofs.Basics.{◌≡◌, ◌==◌, ◌<◌, ℕ, Bool, true, false, not, ◌&&◌, ◌||◌, List, [], None, Some, Option, refl, ap, sym, subst, ◌∙◌, arith, nat_tests, filter, find, remove_first}
use Rattle.ele_model.proofs.Basics.{all-found, all-none, all-weaker, list_any-filter, filter-both, filter-passes, filter-same, found_passes, later-filter, remove_first-key}
use Rattle.ele_lists.proofs.Filters.{find-filter}
use Rattle.ele_model.proofs.Words.{DropIdle, Files, HasParts, Key, Take, World, after_change, clean_step, first_due, forgotten, is_file, is_target_file, is_version, is_version_of, without_file, is_held, next_of, Versions, IsVersion}
use Rattle.ele_world.proofs.Words.{FileRow, NameRow, Target, VersionRow, GroupRow}
use Rattle.ele_world.specs.AnyDueLeave.{AreDue}
use Rattle.ele_model.specs.Due.{is_due, is_due_at}
use Rattle.ele_world.specs.Lags.{Lags}
use Rattle.ele_world.specs.Less.{less, is_dropped, IsEmptied}
use Rattle.ele_world.proofs.AnyDueLeave.{remains}
use Rattle.ele_model.proofs.Cleans.{clean_of}
use Rattle.ele_model.proofs.Dropped.{IsIdle, dropped as dropped_by}
use Rattle.ele_model.proofs.DueRows.{IsDueKey, first_is_due}
use Rattle.ele_model.proofs.Elements.{any_none}
use Rattle.ele_world.proofs.Filters.{remove_first-version}
use Rattle.ele_world.proofs.LagsKeeps.{stays_file, stays_name, live_same, all_of_left, due_lags}
use Rattle.ele_model.proofs.Views.{placed_of}

-- a world with other files, names and versions
abbrev pub with_parts : World → List FileRow → List NameRow → List VersionRow → World
with_parts w files names versions = record w { files = files; names = names; versions = versions }

pub parts_same : (w : World) (f g : List FileRow) (n m : List NameRow) (r s : List VersionRow) → f ≡ g → n ≡ m → r ≡ s → with_parts w f n r ≡ with_parts w g m s
parts_same w f g n m r s files names versions = ap (λ x. with_parts w x n r) files ∙ ap (λ x. with_parts w g x r) names ∙ ap (λ x. with_parts w g m x) versions

-- ---- a file goes from the world that lags alone

-- one file more
abbrev pub with_dropped : ℕ → (ℕ → Bool) → ℕ → Bool
with_dropped file dropped other = dropped other || (other == file)

module _ (gone : ℕ → ℕ → Bool) (dropped : ℕ → Bool) (v : World) (k : HasParts v) (file : ℕ) where
  abbrev u : World
  u = less gone dropped v

  files_less : remove_first (is_file file) (filter (stays_file dropped) v.files) ≡ filter (stays_file (with_dropped file dropped)) v.files
  files_less =
      remove_first-key (λ (row : FileRow). row.id) file (filter (stays_file dropped) v.files) (later-filter (λ (x y : FileRow). x.id < y.id) (λ (x y : FileRow). x.id < y.id) (stays_file dropped) v.files (λ x y a b lt. lt) (k.holds Files).placed)
      ∙ filter-both (λ (row : FileRow). not (row.id == file)) (stays_file dropped) v.files
      ∙ filter-same (λ (row : FileRow). stays_file dropped row && not (row.id == file)) (stays_file (with_dropped file dropped)) v.files (λ row. grind (arith, nat_tests))

  name_less : (target : Target) → (not (is_dropped dropped target) && not (is_target_file file target)) ≡ not (is_dropped (with_dropped file dropped) target)
  name_less target = grind (arith, nat_tests)

  names_less : filter (λ (row : NameRow). not (is_target_file file row.target)) (filter (stays_name dropped) v.names) ≡ filter (stays_name (with_dropped file dropped)) v.names
  names_less =
      filter-both (λ (row : NameRow). not (is_target_file file row.target)) (stays_name dropped) v.names
      ∙ filter-same (λ (row : NameRow). stays_name dropped row && not (is_target_file file row.target)) (stays_name (with_dropped file dropped)) v.names (λ row. name_less row.target)

  pub file_less : v.groups ≡ [] → without_file u file ≡ less gone (with_dropped file dropped) v
  file_less none =
      let same : forgotten file v.groups ≡ v.groups = rw none refl in
      ap (λ (groups : List GroupRow). let w : World = record (without_file u file) { groups = groups } in w) same
      ∙ parts_same v (remove_first (is_file file) u.files) (filter (stays_file (with_dropped file dropped)) v.files) (filter (λ (row : NameRow). not (is_target_file file row.target)) u.names) (filter (stays_name (with_dropped file dropped)) v.names) u.versions u.versions files_less names_less refl

  -- it has nothing there, so in the other world only what was removed
  idle_emptied : 0 < next_of v.files file → dropped file ≡ false → IsIdle u file → IsEmptied gone v file
  idle_emptied there stays idle = record { there = there; nameless = sym (live_same dropped file stays v.names) ∙ idle.nameless; undrafted = idle.undrafted; unheld = unheld } where
    unheld : (number : ℕ) → is_held v file number ≡ true → gone file number ≡ true
    unheld number held = by (gone file number) refl where
      by : (b : Bool) → gone file number ≡ b → b ≡ true
      by true e = refl
      by false e =
          let none = any_none (is_version file number) u.versions (all-weaker (λ (x : VersionRow). is_version_of file x ≡ false) (λ x. is_version file number x ≡ false) u.versions (λ x h. grind (arith, nat_tests)) (all-none (is_version_of file) u.versions idle.unheld)) in
          let same = list_any-filter (is_version file number) (remains gone) v.versions (λ x left. grind (arith, nat_tests, e)) in
          sym none ∙ same ∙ held

  -- the file goes if nothing is left of it
  pub drop_lags : v.groups ≡ [] → AreDue v gone → ((other : ℕ) → dropped other ≡ true → IsEmptied gone v other) → 0 < next_of v.files file → dropped file ≡ false → Lags (after_change u (DropIdle file)) v
  drop_lags none due emptied there stays = dropped_by (λ x. Lags x v) u file
      (λ idle. record { gone = gone; dropped = with_dropped file dropped; is = file_less none; due = due; emptied = more idle; ungrouped = none })
      (λ busy. record { gone = gone; dropped = dropped; is = refl; due = due; emptied = emptied; ungrouped = none }) where
        more : IsIdle u file → (other : ℕ) → with_dropped file dropped other ≡ true → IsEmptied gone v other
        more idle other is = by (dropped other) refl where
          by : (b : Bool) → dropped other ≡ b → IsEmptied gone v other
          by true e = emptied other e
          by false e = let same : file ≡ other = grind (arith, nat_tests, is, e) in subst (IsEmptied gone v) same (idle_emptied there stays idle)

-- ---- the first due version of the world that lags goes

-- one version more
abbrev pub with_gone : ℕ → ℕ → (ℕ → ℕ → Bool) → ℕ → ℕ → Bool
with_gone file number gone f n = gone f n || ((f == file) && (n == number))

module _ (gone : ℕ → ℕ → Bool) (dropped : ℕ → Bool) (v : World) (k : HasParts v) (due : AreDue v gone) (emptied : (file : ℕ) → dropped file ≡ true → IsEmptied gone v file) (formed : HasParts (less gone dropped v)) (key : Key) (is : first_due (less gone dropped v) ≡ Some key) where
  abbrev behind : World
  behind = less gone dropped v

  abbrev p : VersionRow → Bool
  p = is_version key.file key.number

  abbrev gone_then : ℕ → ℕ → Bool
  gone_then = with_gone key.file key.number gone

  first : IsDueKey behind key
  first = first_is_due behind key (placed_of behind formed) is

  versions_less : remove_first p (filter (remains gone) v.versions) ≡ filter (remains gone_then) v.versions
  versions_less =
      remove_first-version key.file key.number (filter (remains gone) v.versions) (placed_of behind formed)
      ∙ filter-both (λ row. not (p row)) (remains gone) v.versions
      ∙ filter-same (λ row. remains gone row && not (p row)) (remains gone_then) v.versions (λ row. grind (arith, nat_tests))

  take_less : after_change behind (Take key.file key.number) ≡ less gone_then dropped v
  take_less = parts_same v behind.files behind.files behind.names behind.names (remove_first p behind.versions) (filter (remains gone_then) v.versions) refl refl versions_less

  -- the version is held in the other world, and due there
  passes : p first.row ≡ true
  passes = found_passes p behind.versions first.row first.found

  left : remains gone first.row ≡ true
  left = all-found p (λ row. remains gone row ≡ true) behind.versions first.row first.found (filter-passes (remains gone) v.versions)

  found_there : find p v.versions ≡ Some first.row
  found_there = sym (find-filter p (remains gone) v.versions (λ x is. grind (arith, nat_tests, left, passes))) ∙ first.found

  due_there : is_due v key.file key.number ≡ true
  unfolding is_due
  due_there =
      let same = all-found p (λ row. is_due_at behind row behind.now ≡ is_due_at v row v.now) behind.versions first.row first.found (due_lags gone dropped v k due emptied) in
      rw found_there (sym same ∙ first.due)

  due_more : AreDue v gone_then
  due_more f n named = by (gone f n) refl where
    by : (b : Bool) → gone f n ≡ b → is_due v f n ≡ true
    by true e = due f n e
    by false e =
        let file : key.file ≡ f = grind (arith, nat_tests, named, e) in
        let number : key.number ≡ n = grind (arith, nat_tests, named, e) in
        rw (← file, ← number) due_there

  emptied_more : (file : ℕ) → dropped file ≡ true → IsEmptied gone_then v file
  emptied_more file is =
      let all = emptied file is in
      record { there = all.there; nameless = all.nameless; undrafted = all.undrafted; unheld = λ number held. grind (arith, nat_tests, all.unheld number held) }

  file_stays : dropped key.file ≡ false
  file_stays =
      let stays = all-found p (λ (row : VersionRow). dropped row.file ≡ false) behind.versions first.row first.found (all_of_left gone dropped v k due emptied) in
      grind (arith, nat_tests, passes, stays)

  file_there : 0 < next_of v.files key.file
  file_there =
      let its = all-found p (IsVersion v.files v.now) v.versions first.row found_there (k.holds Versions).each in
      grind (arith, nat_tests, passes, its.numbered)

  pub removed_lags : v.groups ≡ [] → Lags ((clean_of behind (Some key)).1) v
  removed_lags none = subst (λ (x : World). Lags (after_change x (DropIdle key.file)) v) (sym take_less) (drop_lags gone_then dropped v k key.file none due_more emptied_more file_there file_stays)

pub clean_lags : (u v : World) → HasParts u → HasParts v → Lags u v → Lags ((clean_step u).1) v
clean_lags u v formed k lags = subst (λ (x : World). Lags ((clean_step x).1) v) (sym lags.is) (by (first_due (less lags.gone lags.dropped v)) refl) where
  by : (o : Option Key) → first_due (less lags.gone lags.dropped v) ≡ o → Lags ((clean_of (less lags.gone lags.dropped v) o).1) v
  by None e = record { gone = lags.gone; dropped = lags.dropped; is = refl; due = lags.due; emptied = lags.emptied; ungrouped = lags.ungrouped }
  by (Some key) e = removed_lags lags.gone lags.dropped v k lags.due lags.emptied (subst HasParts lags.is formed) key e lags.ungrouped
