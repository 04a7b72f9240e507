-- A change made in a world and in one that lags behind it, with the same versions and files missing before and after.
use Rattle.ele_model.proofs.Basics.{◌≡◌, ◌==◌, ◌≤◌, ℕ, Bool, true, false, not, List, [], ◌∷◌, ◌++◌, None, Some, Option, refl, ap, sym, ◌∙◌, arith, nat_tests, nat_le, list_any, option_map_or, AllByRecursion}
use Rattle.ele_model.proofs.Basics.{all-split, false≢true, list_any-append, is_none, is_some}
use Rattle.ele_model.proofs.Words.{Change, HasParts, World, after_change, has_draft, is_live, is_live_name_of, ripe_at, next_of}
use Rattle.ele_world.proofs.Words.{NameRow, Target, File, Directory}
use Rattle.ele_world.specs.AnyDueLeave.{AreDue}
use Rattle.ele_world.specs.Lags.{Lags}
use Rattle.ele_world.specs.Less.{less, is_dropped, IsEmptied}
use Rattle.ele_world.proofs.LiveNames.{StaysLive}
use Rattle.ele_world.proofs.LagsKeeps.{stays_name}
use Rattle.ele_model.proofs.RipeAt.{is_due_is}

-- the first is the second without these versions and files
pub record Behind (gone : ℕ → ℕ → Bool) (dropped : ℕ → Bool) (u v : World) : Type 0 where
  pub is : u ≡ less gone dropped v
  pub formed : HasParts v
  pub due : AreDue v gone
  pub emptied : (file : ℕ) → dropped file ≡ true → IsEmptied gone v file
  pub ungrouped : v.groups ≡ []

-- what a change of the second has to keep
pub record KeepsBehind (gone : ℕ → ℕ → Bool) (dropped : ℕ → Bool) (v after : World) : Type 0 where
  pub time : v.now ≤ after.now
  pub ripe : (file number : ℕ) → gone file number ≡ true → ripe_at after file number ≡ ripe_at v file number
  pub emptied : (file : ℕ) → dropped file ≡ true → IsEmptied gone v file → IsEmptied gone after file
  pub groups : after.groups ≡ v.groups

due_on : (ripe : Option ℕ) (now then : ℕ) → now ≤ then → option_map_or (λ m. nat_le m now) ripe false ≡ true → option_map_or (λ m. nat_le m then) ripe false ≡ true
due_on ripe now then le is = grind (arith, nat_tests)

module _ (gone : ℕ → ℕ → Bool) (dropped : ℕ → Bool) (u v : World) (b : Behind gone dropped u v) where
  pub lagging : Lags u v
  lagging = record { gone = gone; dropped = dropped; is = b.is; due = b.due; emptied = b.emptied; ungrouped = b.ungrouped }

  pub change_on : (change : Change) → after_change (less gone dropped v) change ≡ less gone dropped (after_change v change) → HasParts (after_change v change) → KeepsBehind gone dropped v (after_change v change) → Behind gone dropped (after_change u change) (after_change v change)
  change_on change same formed keeps = record {
    is = ap (λ (w : World). after_change w change) b.is ∙ same;
    formed = formed;
    due = λ file number named.
        let after : World = after_change v change in
        is_due_is after file number formed ∙ rw (keeps.ripe file number named) (due_on (ripe_at v file number) v.now after.now keeps.time (sym (is_due_is v file number b.formed) ∙ b.due file number named));
    emptied = λ file is. keeps.emptied file is (b.emptied file is);
    ungrouped = keeps.groups ∙ b.ungrouped;
  }

  -- what is missing has a ripe moment
  pub due_moment : (file number : ℕ) → gone file number ≡ true → is_some (ripe_at v file number) ≡ true
  due_moment file number named = some_on (ripe_at v file number) (sym (is_due_is v file number b.formed) ∙ b.due file number named) where
    some_on : (o : Option ℕ) → option_map_or (λ m. nat_le m v.now) o false ≡ true → is_some o ≡ true
    some_on None is = absurd (false≢true is)
    some_on (Some m) is = refl

  -- ---- what isn't missing

  pub live_there : (file : ℕ) → is_live v file ≡ true → dropped file ≡ false
  live_there file live = by (dropped file) refl where
    by : (c : Bool) → dropped file ≡ c → c ≡ false
    by false e = refl
    by true e = sym live ∙ (b.emptied file e).nameless

  pub drafted_there : (file : ℕ) → has_draft v file ≡ true → dropped file ≡ false
  drafted_there file drafted = by (dropped file) refl where
    by : (c : Bool) → dropped file ≡ c → c ≡ false
    by false e = refl
    by true e = sym drafted ∙ (b.emptied file e).undrafted

  -- a file that isn't there yet
  pub new_there : (file : ℕ) → next_of v.files file ≡ 0 → dropped file ≡ false
  new_there file new = by (dropped file) refl where
    by : (c : Bool) → dropped file ≡ c → c ≡ false
    by false e = refl
    by true e = absurd (let there = (b.emptied file e).there in omega (arith, new, there))

  -- a file that is there is another than one that is missing
  pub apart_from : (file other : ℕ) → dropped file ≡ false → dropped other ≡ true → (file == other) ≡ false
  apart_from file other stays is = by (file == other) refl where
    by : (c : Bool) → (file == other) ≡ c → c ≡ false
    by false e = refl
    by true e = let same : file ≡ other = grind (arith, nat_tests, e) in absurd (false≢true (sym stays ∙ rw same is))

  -- a version without a ripe moment
  pub unripe_there : (file number : ℕ) → ripe_at v file number ≡ None → gone file number ≡ false
  unripe_there file number none = by (gone file number) refl where
    by : (c : Bool) → gone file number ≡ c → c ≡ false
    by false e = refl
    by true e = sym (b.due file number e) ∙ is_due_is v file number b.formed ∙ rw none refl

  -- the live names
  pub names_live : AllByRecursion (StaysLive (stays_name dropped)) v.names
  names_live = all-split (StaysLive (stays_name dropped)) v.names one where
    target_stays : (target : Target) (row : NameRow) → row.target ≡ target → is_none row.death ≡ true → (before behind : List NameRow) → v.names ≡ before ++ row ∷ behind → not (is_dropped dropped target) ≡ true
    target_stays (Directory id) row is live before behind whole = refl
    target_stays (File file) row is live before behind whole =
        let passes : is_live_name_of file row ≡ true = rw (is, live) (grind (arith, nat_tests)) in
        let there = live_there file (ap (list_any (is_live_name_of file)) whole ∙ list_any-append (is_live_name_of file) before (row ∷ behind) ∙ grind (arith, nat_tests, passes)) in
        rw there refl

    one : (before : List NameRow) (row : NameRow) (behind : List NameRow) → v.names ≡ before ++ row ∷ behind → StaysLive (stays_name dropped) row
    one before row behind whole live = target_stays row.target row refl live before behind whole
