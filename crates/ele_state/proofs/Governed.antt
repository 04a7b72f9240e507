-- The keys and the book, once a file has another policy.
use Rattle.ele_state.proofs.Words.{AreChanges, get_or, is_one, is_own, length, take, ◌+◌, None, Rule, case_in, case_moment, case_of, is_live, is_open, moment_is, nat_le, newer_held, none_asked, option_map, ripe_past, rule_in, IsInfoOf, ◌∙◌, Versions, all_found, ap, find, cover_of, next_closing, option_and_then, rows_of, ◌≡◌, ℕ, ◌<◌, ◌==◌, Bool, true, false, cond, ◌&&◌, ◌||◌, List, ◌∷◌, Option, Some, refl, sym, subst, arith, filter, map, AllByRecursion, list_any, nat_tests, world_of, IsSound, unread_under, held_world, IsBooked, Rows, Held, changed_at, Kind, Policy, IsLawful, is_kind, kind_of, Usage, Book, sums_of, only_at, plus, Fits, IsWithin, GroupRow, VersionInfo, VersionRow, SetFilePolicy, after_change, is_version_of, info_of, file_usage, usage_of, usages, Bounded, World, is_version, next_of, policy_of, in_order_of, put_under_keeps, usage_same, usages_fit, [], HasParts, KeyChange, if_changed}
use Rattle.std.proofs.lemmas.List.Folds.{list_any_more}
use Rattle.ele_state.proofs.Questions.{under_told}
use Rattle.ele_state.proofs.Changes.{Move, any_is, one_changes, one_stays, wider}
use Rattle.ele_state.proofs.Booked.{booked, plus-cancel, same_kind}
use Rattle.ele_model.proofs.PolicyUsage.{file_within, policy_usage}
use Rattle.ele_model.proofs.PolicyMoments.{policy_others, policy_own}

-- ---- the keys of a file's versions

-- the version is the one of the file with this info
abbrev pub is_among : ℕ → List VersionInfo → ℕ → ℕ → Bool
is_among file held owner number = (owner == file) && list_any (λ info. info.number == number) held

module _ (file : ℕ) where
  pub one_more : (held : List VersionInfo) (i : ℕ) (info : VersionInfo) → i < length held → info ≡ get_or held i info → (owner number : ℕ) → is_among file (take (i + 1) held) owner number ≡ (is_among file (take i held) owner number || is_one file info.number owner number)
  one_more held i info within at owner number = rw (list_any_more (λ (s : VersionInfo). s.number == number) held i info within, ← at) (grind (arith, nat_tests))

  pub held_told : (number : ℕ) (rows : List VersionRow) → list_any (λ (s : VersionInfo). s.number == number) (map info_of (filter (is_version_of file) rows)) ≡ list_any (is_version file number) rows
  held_told number [] = refl
  held_told number (row ∷ rows) = grind (arith, nat_tests, held_told number rows)

-- a version that isn't held has none
pub unheld : (groups : List GroupRow) (h : Held) (file number : ℕ) (rule : Rule) → find (is_version file number) h.versions ≡ None → unread_under groups rule h file number ≡ None
unheld groups h file number rule none = grind (arith, nat_tests, none)

module _ (groups : List GroupRow) (h : Held) (file : ℕ) (was is : Rule) where
  abbrev AreOf : (ℕ → ℕ → Bool) → List KeyChange → Type 0
  AreOf touched changes = AreChanges touched (unread_under groups was h) (unread_under groups is h) changes

  -- of a version by its info
  module _ (info : VersionInfo) (told : IsInfoOf h file info) where
    abbrev told_under : Rule → Option ℕ
    told_under rule = cond (is_open h.handles file info.number) None (option_and_then (case_moment (cover_of groups file) (case_in rule h.versions file info.number info.closed)) info.ended)

    has : (rule : Rule) → unread_under groups rule h file info.number ≡ told_under rule
    has rule = ap (cond (is_open h.handles file info.number) None) (under_told h file info told (cover_of groups file) rule)

    pub stays_under : told_under is ≡ told_under was → AreOf (is_one file info.number) []
    stays_under same = one_stays _ _ file info.number (has is ∙ same ∙ sym (has was))

    pub changes_under : (one other : Option ℕ) → told_under was ≡ one → told_under is ≡ other → AreOf (is_one file info.number) (if_changed (Some (record { file = file; number = info.number; was = one; is = other })))
    changes_under one other before then = one_changes _ _ file info.number one other (has was ∙ before) (has is ∙ then)

  -- so if these are all held ones, no other changes
  pub all_under : (held : List VersionInfo) (changes : List KeyChange) → held ≡ map info_of (filter (is_version_of file) h.versions) → AreOf (is_among file held) changes → AreOf (is_own file) changes
  all_under held changes all are = wider _ _ (is_among file held) (is_own file) changes (λ owner number h. grind (arith, nat_tests, h)) (λ owner number own none. grind (arith, nat_tests, own, none, held_told file number h.versions, all, any_is (is_version file number) h.versions)) are

-- a live name keeps those that have too few newer ones, and leaves the others their moments
module _ (groups : List GroupRow) (policy : Policy) (h : Held) (file number : ℕ) (given : IsLawful policy) where
  abbrev held : ℕ
  held = newer_held h.versions file number

  few_none : (closed ended : ℕ) → nat_le (rule_in policy true).newer held ≡ false → case_moment (cover_of groups file) (case_of policy closed (next_closing h.versions file number) false) ended ≡ None
  few_none closed ended few = ap (option_and_then (ripe_past (cover_of groups file closed (Some ended)))) (given.ripe_unmet (case_of policy closed (next_closing h.versions file number) false) ended held true few)

  pub asked : unread_under groups (rule_in policy true) h file number ≡ cond (nat_le (rule_in policy true).newer held) (unread_under groups (rule_in policy false) h file number) None
  asked = grind (arith, nat_tests, none_asked held, few_none)

-- so is each info of a file whose versions are in order
all_told : (h : Held) (file : ℕ) (rows : List VersionRow) → AllByRecursion (λ row. find (is_version row.file row.number) h.versions ≡ Some row) rows → AllByRecursion (IsInfoOf h file) (map info_of (filter (is_version_of file) rows))
all_told h file [] all = tt
all_told h file (row ∷ rows) all = grind (arith, nat_tests, all_told h file rows all.1, all.0)

pub stamps_told : (rows : Rows) (file : ℕ) (held : List VersionInfo) → IsSound rows → held ≡ map info_of (filter (is_version_of file) rows.files.versions) → AllByRecursion (IsInfoOf rows.files file) held
stamps_told rows file held sound is = rw is (all_told rows.files file rows.files.versions (all_found rows.files.versions (sound.formed.holds Versions).placed))

-- which moments another policy changes
pub governed : (w : World) (file : ℕ) (was policy : Policy) → HasParts w → policy_of w.files file ≡ Some was → 0 < next_of w.files file → IsLawful policy
    → Move w (after_change w (SetFilePolicy file policy)) (is_own file) (unread_under w.groups (rule_in was (is_live w file)) (rows_of w)) (unread_under w.groups (rule_in policy (is_live w file)) (rows_of w))
governed w file was policy k filed there given = record {
  had = λ owner number own. let same : owner ≡ file = grind (arith, nat_tests, own) in rw same (moment_is w (in_order_of w k) file number (rule_in was (is_live w file)) (ap (option_map (λ (p : Policy). rule_in p (is_live w file))) filed));
  has = λ owner number own. let same : owner ≡ file = grind (arith, nat_tests, own) in rw same (policy_own w file policy k given there number);
  others = λ owner number other. policy_others w file policy k owner number other;
}

-- ---- the book

kinds_apart : (a b : Kind) → (a ≡ b → ⊥) → is_kind a b ≡ false
kinds_apart x0 x1 other = grind (arith, nat_tests)

fits_at : (w : World) → AllByRecursion Fits (usages w) → (k : Kind) → Fits (usage_of w k)
fits_at w all x2 = grind (arith, nat_tests)

module _ (rows : Rows) (file : ℕ) (was : Policy) (sound : IsSound rows) (filed : policy_of rows.files.files file ≡ Some was) where
  abbrev uses : Usage
  uses = file_usage rows.files.versions rows.files.drafts file

  -- the kind that the file leaves has what it uses
  pub uses_within : IsWithin uses (sums_of rows.book (kind_of was))
  uses_within = subst (IsWithin uses) (sym (booked rows sound.tracked (kind_of was))) (file_within (world_of rows) file was was sound.formed filed)

  module _ (policy : Policy) (given : IsLawful policy) where
    abbrev now : World
    now = after_change (world_of rows) (SetFilePolicy file policy)

    -- and the kind that it moves to can take it
    pub uses_fit : (kind_of was ≡ kind_of policy → ⊥) → Fits (plus (sums_of rows.book (kind_of policy)) uses)
    uses_fit other =
        let formed = put_under_keeps (world_of rows) file policy given.given sound.formed in
        let moves = policy_usage (world_of rows) file was policy sound.formed filed (kind_of policy) in
        grind (arith, nat_tests, moves, kinds_apart, same_kind, booked rows sound.tracked (kind_of policy), fits_at now (usages_fit now formed (formed.holds Bounded)) (kind_of policy))

    -- once it has moved the book follows
    pub governed_book : (book : Book) → ((k : Kind) → plus (sums_of book k) (only_at (kind_of was) uses k) ≡ plus (sums_of rows.book k) (only_at (kind_of policy) uses k)) → IsBooked (changed_at rows.files 0 (SetFilePolicy file policy ∷ [])) book
    governed_book book moved k =
        grind (arith, nat_tests, plus-cancel (sums_of book k) (usage_of now k) (only_at (kind_of was) uses k), moved k, booked rows sound.tracked k, policy_usage (world_of rows) file was policy sound.formed filed k, usage_same (held_world (changed_at rows.files 0 (SetFilePolicy file policy ∷ []))) now refl refl refl k)
