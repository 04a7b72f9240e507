-- What becomes of a held version.
use Rattle.ele_state.proofs.Words.{Rule, case_moment, moment_is, rule_in, rule_of, is_live, ◌≡◌, ℕ, Bool, true, false, Option, Some, None, IsSome, refl, ap, sym, subst, ◌∙◌, arith, nat_tests, nat_le, find, slice_get, option_map, option_map_or, all-found, found_passes, IsSound, IsInfoOf, Rows, world_of, Held, Policy, VersionInfo, VersionRow, Versions, World, cover_of, file_view, is_open, is_version, policy_of, info_of, in_order_of, ripe_at_is}
use Rattle.ele_model.proofs.Words.{IsVersion, Now}
use Rattle.ele_policy.specs.RipeCase.{closing_of}
use Rattle.ele_policy.specs.declared.cause.Cause.{Cause}
use Rattle.ele_policy.specs.declared.cause.Newer.{Newer}
use Rattle.ele_files.specs.Beside.{IsBeside}
use Rattle.ele_files.specs.declared.files.newer.Beside.{Beside}
use Rattle.ele_fates.specs.Fate.{IsCauseBy, IsFreeFate, newer_of}
use Rattle.ele_model.proofs.Fates.{nearest_newer, protected_told}
use Rattle.ele_model.proofs.RipeMoments.{ripens}
use Rattle.ele_model.specs.Due.{is_due_at, ripe_of}
use Rattle.ele_model.specs.Fate.{HasCause, HasFate, IsFate, IsMarkedBy, newer_version, newer_versions}
use Rattle.ele_model.specs.GroupRows.{is_marked}
use Rattle.ele_model.specs.Neighbours.{case_in, is_newer_of}
use Rattle.ele_model.specs.declared.fate.Fate.{Fate}
use Rattle.ele_model.specs.declared.fate.Fate.TheVariants.{Current, Open, Marked, Kept, Due}

-- ---- by its row

-- a version that has ended, that neither a handle nor a mark protects, and its rule
pub record IsFree (rows : Rows) (file : ℕ) (info : VersionInfo) : Type 0 where
  pub ended : ℕ
  pub ends : info.ended ≡ Some ended
  pub unread : is_open rows.files.handles file info.number ≡ false
  pub unmarked : is_marked rows.groups file info.closed (Some ended) rows.moment ≡ false
  pub rule : Rule
  pub ruled : rule_of (world_of rows) file ≡ Some rule

-- what its policy alone makes of it, beside its next one, as it has its cover and its case
abbrev pub IsMade : (rows : Rows) (file : ℕ) (info : VersionInfo) → IsFree rows file info → Fate → Type 0
IsMade rows file info free fate =
    let next = option_map newer_of (option_map info_of (find (is_newer_of file info.number) rows.files.versions)) in
    IsFreeFate (cover_of rows.groups file info.closed (Some free.ended)) (case_in free.rule rows.files.versions file info.number info.closed) next free.ended rows.moment fate

-- what is beside a version says when its next one closed
pub beside_closing : (h : Held) (file : ℕ) (info : VersionInfo) (live : Bool) (beside : Beside) → IsBeside h file info live beside → beside.case.next_closed ≡ closing_of (option_map newer_of beside.next)
beside_closing h file info live beside is = rw (is.case, is.next) (by (find (is_newer_of file info.number) h.versions)) where
  by : (o : Option VersionRow) → option_map (λ (r : VersionRow). r.closed) o ≡ closing_of (option_map newer_of (option_map info_of o))
  by None = refl
  by (Some next) = refl

-- a rule is of the file's policy
filed_by : (live : Bool) (o : Option Policy) (rule : Rule) → option_map (λ (policy : Policy). rule_in policy live) o ≡ Some rule → o ≡ Some rule.policy
filed_by live None rule is = absurd cc
filed_by live (Some policy) rule is = let same : rule_in policy live ≡ rule = cc in ap (λ (r : Rule). Some r.policy) same

unruled_by : (live : Bool) (o : Option Policy) → option_map (λ (policy : Policy). rule_in policy live) o ≡ None → o ≡ None
unruled_by live None is = refl
unruled_by live (Some policy) is = absurd cc

module _ (rows : Rows) (sound : IsSound rows) (row : VersionRow) (found : find (is_version row.file row.number) rows.files.versions ≡ Some row) where
  abbrev w : World
  w = world_of rows

  governed : rule_of w row.file ≡ None → ⊥
  governed unruled =
      let none : policy_of w.files row.file ≡ None = unruled_by (is_live w row.file) (policy_of w.files row.file) unruled in
      let is = all-found (is_version row.file row.number) (IsVersion w.files w.now) w.versions row found (sound.formed.holds Versions).each in
      let there = is.numbered in
      grind (arith, nat_tests)

  module _ (free : IsFree rows row.file (info_of row)) where
    abbrev next_row : Option VersionRow
    next_row = find (is_newer_of row.file row.number) w.versions

    abbrev next_newer : Option Newer
    next_newer = option_map newer_of (option_map info_of next_row)

    filed : policy_of w.files row.file ≡ Some free.rule.policy
    filed = filed_by (is_live w row.file) (policy_of w.files row.file) free.rule free.ruled

    ripe_told : ripe_of w row ≡ case_moment (cover_of w.groups row.file) (case_in free.rule w.versions row.file row.number row.closed) free.ended
    ripe_told = sym (ripe_at_is w row.file row.number ∙ rw found refl) ∙ moment_is w (in_order_of w sound.formed) row.file row.number free.rule free.ruled ∙ rw (free.unread, found, free.ends) refl

    due_told : (ripe : Option ℕ) → ripe_of w row ≡ ripe → is_due_at w row w.now ≡ option_map_or (λ m. nat_le m w.now) ripe false
    due_told ripe is = ripens w sound.formed row w.now (sound.formed.holds Now) ∙ ap (λ (o : Option ℕ). option_map_or (λ m. nat_le m w.now) o false) is

    next_is : slice_get (newer_versions (file_view w row.file) row) 0 ≡ next_newer
    next_is = nearest_newer w row ∙ by next_row where
      by : (o : Option VersionRow) → option_map newer_version o ≡ option_map newer_of (option_map info_of o)
      by None = refl
      by (Some next) = refl

    cause_is : (since : ℕ) (cause : Cause) → IsCauseBy free.rule.policy row.closed free.ended next_newer since cause → HasCause (file_view w row.file) row since cause
    cause_is since cause is = record {
      policy = free.rule.policy;
      policy_is = filed;
      ended = free.ended;
      has_ended = free.ends;
      why = is (newer_versions (file_view w row.file) row) next_is;
    }

    made_fate : (fate : Fate) → IsMade rows row.file (info_of row) free fate → IsFate w row fate
    made_fate Current is = absurd is
    made_fate Open is = absurd is
    made_fate (Marked name mark) is = absurd is
    made_fate (Kept until level) is = let ripe = is.0 ∙ sym ripe_told in record {
      has_ended = rw free.ends refl;
      unprotected = protected_told w row w.now ∙ rw (free.unread, free.ends, free.unmarked) refl;
      not_due = due_told until (sym ripe) ∙ is.1;
      until_is = ripe;
      level_is = is.2 ∙ rw (filed, free.ends) refl;
    }
    made_fate (Due since cause) is = let ripe = ripe_told ∙ is.0 in record { due = due_told (Some since) ripe ∙ is.1; ripe = ripe; why = cause_is since cause is.2 }

-- ---- by its info

-- what is so of the file and the info of each held row is so of the info of one
told_row : (h : Held) (P : ℕ → VersionInfo → Type 0) → ((row : VersionRow) → find (is_version row.file row.number) h.versions ≡ Some row → P row.file (info_of row)) → (file : ℕ) (info : VersionInfo) → IsInfoOf h file info → P file info
told_row h P each file info told = by (find (is_version file info.number) h.versions) refl told where
  by : (o : Option VersionRow) → find (is_version file info.number) h.versions ≡ o → option_map info_of o ≡ Some info → P file info
  by None found is = absurd (cc)
  by (Some row) found is =
      let own : find (is_version row.file row.number) h.versions ≡ Some row = grind (arith, nat_tests, found, is, found_passes (is_version file info.number) h.versions row found) in
      let filed : row.file ≡ file = grind (arith, nat_tests, found_passes (is_version file info.number) h.versions row found) in
      let same : info_of row ≡ info = cc in
      subst (P file) same (subst (λ (f : ℕ). P f (info_of row)) filed (each row own))

-- if it has no end, a handle reads it, or a mark keeps it
abbrev IsFateBy : Rows → ℕ → VersionInfo → Fate → Type 0
IsFateBy rows file info Current = info.ended ≡ None
IsFateBy rows file info Open = IsSome info.ended × (is_open rows.files.handles file info.number ≡ true)
IsFateBy rows file info (Marked name mark) = IsSome info.ended × (is_open rows.files.handles file info.number ≡ false) × IsMarkedBy rows.groups file info.closed info.ended rows.moment name mark
IsFateBy rows file info fate = ⊥

is_fate : (rows : Rows) (row : VersionRow) (fate : Fate) → IsFateBy rows row.file (info_of row) fate → IsFate (world_of rows) row fate
is_fate rows row Current is = is
is_fate rows row Open is = is
is_fate rows row (Marked name mark) is = is
is_fate rows row (Kept until level) is = absurd is
is_fate rows row (Due since cause) is = absurd is

module _ (rows : Rows) where
  pub fate_told : (file : ℕ) (info : VersionInfo) → IsInfoOf rows.files file info → (fate : Fate) → IsFateBy rows file info fate → HasFate (world_of rows) file info.number fate
  fate_told = told_row rows.files (λ file info. (fate : Fate) → IsFateBy rows file info fate → HasFate (world_of rows) file info.number fate) (λ row found fate is. record { row = row; held = found; is = is_fate rows row fate is })

  pub fate_made : IsSound rows → (file : ℕ) (info : VersionInfo) → IsInfoOf rows.files file info → (free : IsFree rows file info) (fate : Fate) → IsMade rows file info free fate → HasFate (world_of rows) file info.number fate
  fate_made sound = told_row rows.files (λ file info. (free : IsFree rows file info) (fate : Fate) → IsMade rows file info free fate → HasFate (world_of rows) file info.number fate) (λ row found free fate is. record { row = row; held = found; is = made_fate rows sound row found free fate is })

  pub fate_ungoverned : IsSound rows → (file : ℕ) (info : VersionInfo) → IsInfoOf rows.files file info → rule_of (world_of rows) file ≡ None → ⊥
  fate_ungoverned sound = told_row rows.files (λ file info. rule_of (world_of rows) file ≡ None → ⊥) (λ row found. governed rows sound row found)
