-- The law of any due versions with the files that have nothing else, one after the other.
use Rattle.ele_model.proofs.Basics.{◌≡◌, ◌==◌, true, false, not, List, [], ◌∷◌, refl, sym, ◌∙◌, arith, nat_tests, map, list_any, remove_first, AllByRecursion, false≢true, all-both, all-remove_first, all-weaker, filter-passes, remove_first-key, filter-same_all, subst, ℕ, Bool}
use Rattle.ele_model.proofs.Words.{DropIdle, after_change, after_changes, is_idle, without_file, kept_rows, is_file, HasNoIdle, Files, HasParts, World}
use Rattle.ele_world.proofs.Words.{FileRow}
use Rattle.ele_world.specs.AnyDueLeave.{AreDue, LeavesOthersDue, without_versions}
use Rattle.ele_model.specs.RipeRows.{due_rows}
use Rattle.ele_world.specs.IdleLeave.{without_idle}
use Rattle.ele_world.proofs.AnyDueLeave.{any_due_leave, stays_due}
use Rattle.ele_model.proofs.Formed.{well_formed}
use Rattle.ele_model.proofs.Dropped.{dropped, drop_keeps, live_other}
use Rattle.ele_model.proofs.DropViews.{SeesSame, dropped_sees, due_same, kept_same}

-- ---- the rows stay as they are

dropped_due : (w v : World) → SeesSame w v → due_rows v ≡ due_rows w
dropped_due w v same = grind (arith, nat_tests, filter-same_all, all-weaker, due_same w v same, same.now, same.versions)

-- a world whose rows are due as in another, less idle files
abbrev IsSame : World → World → Type 0
IsSame w v = (due_rows v ≡ due_rows w) × (kept_rows v ≡ kept_rows w) × HasParts v

all_dropped : (w : World) (files : List FileRow) → HasParts w → IsSame w (after_changes w (map (λ (row : FileRow). DropIdle row.id) files))
all_dropped w [] k = (refl, refl, k)
all_dropped w (row ∷ files) k =
    let v = after_change w (DropIdle row.id) in
    let same = dropped_sees w row.id in
    let then = all_dropped v files (drop_keeps w row.id k) in
    (then.0 ∙ dropped_due w v same, then.1 ∙ kept_same w v same, then.2)

-- ---- none is left that is idle

-- an idle file is among the rest
abbrev IsToGo : World → List FileRow → FileRow → Type 0
IsToGo w files row = is_idle w row.id ≡ true → list_any (is_file row.id) files ≡ true

-- the file itself is removed, and another is as idle as before
goes : (w : World) (row : FileRow) (files : List FileRow) → HasParts w → AllByRecursion (IsToGo w (row ∷ files)) w.files → AllByRecursion (IsToGo (after_change w (DropIdle row.id)) files) (after_change w (DropIdle row.id)).files
goes w row files k all = dropped (λ v. AllByRecursion (IsToGo v files) v.files) w row.id (λ idle. gone) (λ busy. all-weaker (IsToGo w (row ∷ files)) (IsToGo w files) w.files (λ x to_go idle. grind (arith, nat_tests, to_go, busy, false≢true)) all) where
  others : AllByRecursion (λ x. not (x.id == row.id) ≡ true) (remove_first (is_file row.id) w.files)
  others = subst (AllByRecursion (λ (x : FileRow). not (x.id == row.id) ≡ true)) (sym (remove_first-key (λ (x : FileRow). x.id) row.id w.files (k.holds Files).placed)) (filter-passes (λ (x : FileRow). not (x.id == row.id)) w.files)

  gone : AllByRecursion (IsToGo (without_file w row.id) files) (remove_first (is_file row.id) w.files)
  gone = all-weaker (λ x. (not (x.id == row.id) ≡ true) × IsToGo w (row ∷ files) x) (IsToGo (without_file w row.id) files) (remove_first (is_file row.id) w.files) (λ x h idle. grind (arith, nat_tests, h, live_other w row.id x.id, false≢true)) (all-both _ _ (remove_first (is_file row.id) w.files) others (all-remove_first (is_file row.id) (IsToGo w (row ∷ files)) w.files all))

all_gone : (w : World) (files : List FileRow) → HasParts w → AllByRecursion (IsToGo w files) w.files → HasNoIdle (after_changes w (map (λ (row : FileRow). DropIdle row.id) files))
all_gone w [] k all = all-weaker (IsToGo w []) (λ row. is_idle w row.id ≡ false) w.files (λ row to_go. grind (arith, nat_tests, to_go, false≢true)) all
all_gone w (row ∷ files) k all = all_gone (after_change w (DropIdle row.id)) files (drop_keeps w row.id k) (goes w row files k all)

-- each row is one of all
each_among : (files : List FileRow) → AllByRecursion (λ row. list_any (is_file row.id) files ≡ true) files
each_among [] = tt
each_among (row ∷ files) = (grind (arith, nat_tests), all-weaker (λ x. list_any (is_file x.id) files ≡ true) (λ x. list_any (is_file x.id) (row ∷ files) ≡ true) files (λ x h. grind (arith, nat_tests, h)) (each_among files))

pub idle_leave : (w : World) (gone : ℕ → ℕ → Bool) → HasParts w → AreDue w gone → let after = without_idle (without_versions gone w) in LeavesOthersDue w gone after × HasNoIdle after
idle_leave w gone k due =
    let v = without_versions gone w in
    let left = any_due_leave w gone k due in
    let parts : HasParts v = (stays_due w gone k due).formed in
    let same = all_dropped v v.files parts in (
      record { well_formed = well_formed (without_idle v) same.2; due = same.0 ∙ left.due; kept = same.1 ∙ left.kept },
      all_gone v v.files parts (all-weaker (λ row. list_any (is_file row.id) v.files ≡ true) (IsToGo v v.files) v.files (λ row h idle. h) (each_among v.files)),
    )
