-- The result of dropping a file: it is removed with its names if it had nothing else, or nothing changes.
use Rattle.ele_model.proofs.Basics.{◌≡◌, ◌==◌, ℕ, Bool, true, false, not, List, refl, arith, AllByRecursion, list_any, nat_tests, remove_first, all-none, find-remove_first, list_any-filter, filter, all-filter, filter-passes, later-filter, all-weaker}
use Rattle.ele_model.proofs.Basics.{all-both, all-remove_first, later-remove_first, length-remove_first-le, any-filtered, length-split}
use Rattle.ele_model.proofs.Words.{DropIdle, is_idle, without_file, after_change, is_version_of, World, is_file, next_of, policy_of, is_live, has_draft, is_draft, is_target_file, DraftRow, FileRow, NameRow, VersionRow, IsNameRow, AreApart, AreOthers}
use Rattle.ele_model.proofs.Words.{IsVersion, IsDraft, Part, Names, Versions, Drafts, Current, Holds, HasParts, IsOfLive, Ended, Groups, is_live_name_of}
use Rattle.ele_model.proofs.KeptGroups.{groups_forgotten}

-- nothing is left of the file
pub record IsIdle (w : World) (file : ℕ) : Type 0 where
  pub nameless : is_live w file ≡ false
  pub unheld : list_any (is_version_of file) w.versions ≡ false
  pub undrafted : has_draft w file ≡ false

pub idle_is : (w : World) (file : ℕ) → is_idle w file ≡ true → IsIdle w file
idle_is w file h = record { nameless = grind (arith, h); unheld = grind (arith, h); undrafted = grind (arith, h) }

-- what is true both if it is removed and if it stays
pub dropped : (Q : World → Type 0) (w : World) (file : ℕ) → (IsIdle w file → Q (without_file w file)) → (is_idle w file ≡ false → Q w) → Q (after_change w (DropIdle file))
dropped Q w file goes stays = grind (arith, nat_tests, idle_is)

-- the versions stay
pub dropped_versions : (w : World) (file : ℕ) → (after_change w (DropIdle file)).versions ≡ w.versions
dropped_versions w file = dropped (λ v. v.versions ≡ w.versions) w file (λ idle. refl) (λ busy. refl)

-- the names that stay
abbrev pub stays_named : ℕ → NameRow → Bool
stays_named file row = not (is_target_file file row.target)

-- a name that goes makes no other file live
pub live_other : (w : World) (file other : ℕ) → (other == file) ≡ false → is_live (without_file w file) other ≡ is_live w other
live_other w file other apart = grind (arith, nat_tests, list_any-filter)

-- no row is of an idle file
pub idle_versions : (w : World) (file : ℕ) → IsIdle w file → AllByRecursion (λ (row : VersionRow). (row.file == file) ≡ false) w.versions
idle_versions w file idle = all-none (is_version_of file) w.versions idle.unheld

pub idle_drafts : (w : World) (file : ℕ) → IsIdle w file → AllByRecursion (λ (row : DraftRow). (row.file == file) ≡ false) w.drafts
idle_drafts w file idle = all-none (is_draft file) w.drafts idle.undrafted

-- ---- the other files

pub next_of-removed : (files : List FileRow) (file other : ℕ) → (other == file) ≡ false → next_of (remove_first (is_file file) files) other ≡ next_of files other
next_of-removed files file other apart = grind (arith, nat_tests, find-remove_first (is_file file) (is_file other) files)

pub policy_of-removed : (files : List FileRow) (file other : ℕ) → (other == file) ≡ false → policy_of (remove_first (is_file file) files) other ≡ policy_of files other
policy_of-removed files file other apart = grind (arith, nat_tests, find-remove_first (is_file file) (is_file other) files)

-- ---- a world stays well formed

module _ (w : World) (file : ℕ) (idle : IsIdle w file) where
  abbrev files : List FileRow
  files = remove_first (is_file file) w.files

  abbrev keep : NameRow → Bool
  keep = stays_named file

  abbrev names : List NameRow
  names = filter keep w.names

  drop_file_keeps : HasParts w → HasParts (without_file w file)
  drop_file_keeps k = record { holds = by } where
    by : (part : Part) → Holds (without_file w file) part
    by Names = grind (arith, nat_tests, k.holds Names, all-weaker (λ row. (keep row ≡ true) × IsNameRow w.files w.now row) (IsNameRow files w.now) names, next_of-removed, all-both (λ row. keep row ≡ true) (IsNameRow w.files w.now) names, filter-passes keep w.names, all-filter (IsNameRow w.files w.now) keep w.names, later-filter AreApart AreApart keep w.names)
    by Versions = grind (arith, nat_tests, k.holds Versions, all-weaker (λ row. ((row.file == file) ≡ false) × IsVersion w.files w.now row) (IsVersion files w.now) w.versions, next_of-removed, all-both (λ row. (row.file == file) ≡ false) (IsVersion w.files w.now) w.versions, idle_versions w file idle)
    by Drafts = grind (arith, nat_tests, k.holds Drafts, all-weaker (λ row. ((row.file == file) ≡ false) × IsDraft w.files w.now row) (IsDraft files w.now) w.drafts, next_of-removed, all-both (λ row. (row.file == file) ≡ false) (IsDraft w.files w.now) w.drafts, idle_drafts w file idle)
    by Current = λ other live. grind (arith, nat_tests, k.holds Current other, any-filtered (is_live_name_of other) keep w.names live, next_of-removed w.files file other)
    by Ended = grind (arith, nat_tests, k.holds Ended, all-weaker (λ row. ((row.file == file) ≡ false) × IsOfLive w.names row) (IsOfLive names) w.versions, live_other w file, all-both (λ row. (row.file == file) ≡ false) (IsOfLive w.names) w.versions, idle_versions w file idle)
    by Groups = groups_forgotten w.made.groups w.files files w.now file w.groups (λ other apart h. rw (next_of-removed w.files file other apart) h) (k.holds Groups)
    by part = grind (arith, nat_tests, k.holds part, length-remove_first-le (is_file file) w.files, length-split keep w.names, all-remove_first, later-remove_first, all-weaker, all-filter, list_any-filter, later-filter AreOthers AreOthers keep w.names)

pub drop_keeps : (w : World) (file : ℕ) → HasParts w → HasParts (after_change w (DropIdle file))
drop_keeps w file k = dropped HasParts w file (λ idle. drop_file_keeps w file idle k) (λ busy. k)
