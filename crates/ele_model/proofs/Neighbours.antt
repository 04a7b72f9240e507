-- A version's ripe moment: none while a handle reads it or it is marked for ever, and else what its case, its end and the ends of
-- marks tell.
use Rattle.ele_model.proofs.Basics.{subst, option_map, option_map_or, false≢true, is_some, length, length-map, length-filter, filter-both, nat_le, ◌≡◌, ℕ, ◌+◌, ◌≤◌, ◌==◌, Bool, true, false, cond, List, [], ◌∷◌, Option, Some, None, refl, ap, sym, ◌∙◌, arith, filter, slice_get, find, option_and_then, IfSome, AllByRecursion, list_any}
use Rattle.ele_model.proofs.Basics.{nat_tests, slice_get-map, find-cut, find-filter_both, AllLater, update_first, all-weaker, not_found}
use Rattle.ele_model.proofs.Words.{Beside, Case, Rule, case_beside, case_in, case_moment, case_of, rule_in, rule_of, floor_of, meets_floor, newer_held, is_newer, is_newer_of, is_version_of, is_live, Policy, IsLawful, FileRow, VersionRow, ended_at, ripe_at, FileView, file_view, beside, ripe_in, ripe_past, Cover, cover_by, cover_of}
use Rattle.ele_model.proofs.Words.{next_closing, moment_under, free_moment, ArePlaced, AreVersions, IsVersion, Versions, HasParts, World, is_open, is_version, next_of, policy_of}
use Rattle.ele_lists.proofs.Sums.{sum_by-update_same}
use Rattle.ele_model.specs.Due.{ripe_of}
use Rattle.ele_model.proofs.Readers.{numbers_are}
use Rattle.ele_model.proofs.RipeAt.{ripe_at_is}
use Rattle.ele_model.proofs.RipeMoments.{ripe_if, ripe_told}
use Rattle.ele_model.proofs.Views.{IsLife, policies_of, policy_is, lives_in, view_in, closings_in_order}

-- what ripe moments rest on: the policies are lawful, and each file's versions are in order
pub record AreInOrder (files : List FileRow) (versions : List VersionRow) : Type 0 where
  pub policies : AllByRecursion (λ row. IsLawful row.policy) files
  pub lives : AllByRecursion IsLife versions
  pub placed : AllLater ArePlaced versions

pub versions_in_order : (files : List FileRow) (now : ℕ) (versions : List VersionRow) → AllByRecursion (λ row. IsLawful row.policy) files → AreVersions files now versions → AreInOrder files versions
versions_in_order files now versions policies are = record { policies = policies; lives = lives_in files now versions are.each; placed = are.placed }

pub in_order_of : (w : World) → HasParts w → AreInOrder w.files w.versions
in_order_of w k = versions_in_order w.files w.now w.versions (policies_of w k) (k.holds Versions)

slice_get-filter : {X : Type 0} (p : X → Bool) (xs : List X) → slice_get (filter p xs) 0 ≡ find p xs
slice_get-filter p [] = refl
slice_get-filter p (x ∷ xs) = grind (arith, nat_tests, slice_get-filter p xs)

-- ---- rules

-- as many newer ones are enough as meet the floor that is in force
enough_told : (policy : Policy) (live : Bool) (newer : ℕ) → meets_floor policy live newer ≡ nat_le (rule_in policy live).newer newer
enough_told policy live newer = grind (arith, nat_tests)

-- a rule that a file has: that of a lawful policy in a file that is live or not
pub record IsInForce (rule : Rule) : Type 0 where
  pub lawful : IsLawful rule.policy
  pub live : Bool
  pub newer_is : rule.newer ≡ (rule_in rule.policy live).newer

pub in_force : (w : World) (file : ℕ) (rule : Rule) → AreInOrder w.files w.versions → rule_of w file ≡ Some rule → IsInForce rule
in_force w file rule ordered is = by (policy_of w.files file) (policy_is w.files file ordered.policies) is where
  by : (p : Option Policy) → IfSome p IsLawful → option_map (λ policy. rule_in policy (is_live w file)) p ≡ Some rule → IsInForce rule
  by None given is = absurd cc
  by (Some policy) given is =
      let same : rule_in policy (is_live w file) ≡ rule = cc in
      subst IsInForce same (record { lawful = given; live = is_live w file; newer_is = refl })

module _ (cover : ℕ → Option ℕ → Cover) (rule : Rule) (is : IsInForce rule) (case : Case) (ended : ℕ) where
  -- without enough newer ones nothing ripens
  pub case_unmet : (newer : ℕ) → nat_le rule.newer newer ≡ false → case_moment cover (record case { policy = rule.policy; enough = false }) ended ≡ None
  case_unmet newer unmet =
      ap (option_and_then (ripe_past (cover case.closed (Some ended)))) (is.lawful.ripe_unmet case ended newer is.live (enough_told rule.policy is.live newer ∙ ap (λ least. nat_le least newer) (sym is.newer_is) ∙ unmet))

  -- if the rule asks for some, it doesn't matter which is the next
  pub case_floored : (other : Option ℕ) → 1 ≤ rule.newer → case_moment cover (record case { policy = rule.policy }) ended ≡ case_moment cover (record case { policy = rule.policy; next_closed = other }) ended
  case_floored other some =
      ap (option_and_then (ripe_past (cover case.closed (Some ended)))) (is.lawful.ripe_counted case ended other (by is.live (rw is.newer_is at some))) where
        by : (live : Bool) → 1 ≤ (rule_in rule.policy live).newer → 1 ≤ floor_of rule.policy
        by true h = h
        by false h = absurd (omega (arith, h))

-- ---- a held version's moment

-- by the marks that a file's view has
abbrev cover_in : FileView → ℕ → Option ℕ → Cover
cover_in v closed ended = cover_by closed ended v.marks

-- what it is, by its cover, by whether it is open, by its case, if its file is there, and by its end
abbrev moment_if : (ℕ → Option ℕ → Cover) → Bool → Option Case → Option ℕ → Option ℕ
moment_if cover b case ended = cond b None (option_and_then (λ c. option_and_then (case_moment cover c) ended) case)

ripe_in_case : (v : FileView) (row : VersionRow) → IfSome v.policy IsLawful → AllLater ◌≤◌ (row.closed ∷ (beside v row).newer)
    → ripe_in v row ≡ moment_if (cover_in v) (list_any (λ number. number == row.number) v.pinned) (option_map (λ p. case_beside p row.closed (beside v row)) v.policy) row.ended
ripe_in_case v row governed in_order = ripe_told v row governed ∙ by (list_any (λ number. number == row.number) v.pinned) v.policy row.ended governed where
  by : (b : Bool) (p : Option Policy) (e : Option ℕ) → IfSome p IsLawful → ripe_if b v row p e ≡ moment_if (cover_in v) b (option_map (λ p. case_beside p row.closed (beside v row)) p) e
  by true p e given = refl
  by false None None given = refl
  by false None (Some ended) given = refl
  by false (Some policy) None given = refl
  by false (Some policy) (Some ended) given =
      ap (option_and_then (ripe_past (cover_by row.closed (Some ended) v.marks)))
      (given.ripe_seen (case_beside policy row.closed (beside v row)) ended (beside v row) (record { in_order = in_order; next = refl; enough = refl }))

module _ (w : World) (row : VersionRow) where
  abbrev own_beside : Beside
  own_beside = beside (file_view w row.file) row

  -- as many closings are beside it as newer versions of its file are held
  newer_told : length own_beside.newer ≡ newer_held w.versions row.file row.number
  newer_told =
      length-map (filter (is_newer row) (filter (is_version_of row.file) w.versions)) (λ (r : VersionRow). r.closed)
      ∙ ap length (filter-both (is_newer row) (is_version_of row.file) w.versions)
      ∙ length-filter (is_newer_of row.file row.number) w.versions

  -- and the first of them is that of the next one
  next_told : slice_get own_beside.newer 0 ≡ next_closing w.versions row.file row.number
  next_told = grind (arith, nat_tests, slice_get-map, slice_get-filter, find-filter_both)

  -- so its case is that of its file's rows
  case_told : (policy : Policy) → case_beside policy row.closed own_beside ≡ case_in (rule_in policy (is_live w row.file)) w.versions row.file row.number row.closed
  case_told policy =
      ap (λ next. case_of policy row.closed next (meets_floor policy (is_live w row.file) (length own_beside.newer))) next_told
      ∙ ap (case_of policy row.closed (next_closing w.versions row.file row.number))
      (enough_told policy (is_live w row.file) (length own_beside.newer) ∙ ap (nat_le (rule_in policy (is_live w row.file)).newer) newer_told)

  -- and this determines its moment
  abbrev under_rule : Rule → Option ℕ
  under_rule rule = option_and_then (case_moment (cover_of w.groups row.file) (case_in rule w.versions row.file row.number row.closed)) row.ended

  row_moment : IfSome (policy_of w.files row.file) IsLawful → AllLater ◌≤◌ (row.closed ∷ own_beside.newer)
      → ripe_of w row ≡ cond (is_open w.handles row.file row.number) None (option_and_then under_rule (rule_of w row.file))
  unfolding ripe_of
  row_moment governed in_order =
      ripe_in_case (file_view w row.file) row governed in_order
      ∙ ap (λ b. moment_if (cover_of w.groups row.file) b (option_map (λ p. case_beside p row.closed own_beside) (policy_of w.files row.file)) row.ended) (numbers_are w.handles row.file row.number)
      ∙ ap (cond (is_open w.handles row.file row.number) None) (by (policy_of w.files row.file)) where
        by : (p : Option Policy) → option_and_then (λ c. option_and_then (case_moment (cover_of w.groups row.file) c) row.ended) (option_map (λ p. case_beside p row.closed own_beside) p) ≡ option_and_then under_rule (option_map (λ p. rule_in p (is_live w row.file)) p)
        by None = refl
        by (Some policy) = ap (λ c. option_and_then (case_moment (cover_of w.groups row.file) c) row.ended) (case_told policy)

abbrev nothing : Option ℕ
nothing = None

-- if the file's version of that number is this row
module _ (w : World) (ordered : AreInOrder w.files w.versions) (file number : ℕ) where
  abbrev row_under : Rule → VersionRow → Option ℕ
  row_under rule row = option_and_then (case_moment (cover_of w.groups file) (case_in rule w.versions file number row.closed)) row.ended

  found_row : (row : VersionRow) → find (is_version file number) w.versions ≡ Some row → ripe_of w row ≡ cond (is_open w.handles file number) None (option_and_then (λ rule. row_under rule row) (rule_of w file))
  found_row row found =
      let cut = find-cut (is_version file number) w.versions row found in
      let passes = cut.passes in
      let own : row.file ≡ file = grind (arith, nat_tests) in
      let its : row.number ≡ number = grind (arith, nat_tests) in
      let view = view_in w row.file ordered.policies ordered.lives ordered.placed in
      let in_order = closings_in_order w cut.before row cut.behind view cut.whole in
      rw (← own, ← its) (row_moment w row view.governed in_order)

  pub ripe_at_near : ripe_at w file number ≡ cond (is_open w.handles file number) None (free_moment w (cover_of w.groups file) file number)
  ripe_at_near = ripe_at_is w file number ∙ by (find (is_version file number) w.versions) refl where
    none : (b : Bool) (r : Option Rule) → None ≡ cond b None (option_and_then (λ (rule : Rule). nothing) r)
    none true r = refl
    none false None = refl
    none false (Some rule) = refl

    by : (o : Option VersionRow) → find (is_version file number) w.versions ≡ o → option_and_then (ripe_of w) o ≡ cond (is_open w.handles file number) None (option_and_then (λ rule. option_and_then (row_under rule) o) (rule_of w file))
    by None missing = none (is_open w.handles file number) (rule_of w file)
    by (Some row) found = found_row row found

  -- under the file's rule
  pub moment_is : (rule : Rule) → rule_of w file ≡ Some rule → ripe_at w file number ≡ cond (is_open w.handles file number) None (moment_under (cover_of w.groups file) rule w.versions file number)
  moment_is rule is = ripe_at_near ∙ ap (λ (r : Option Rule). cond (is_open w.handles file number) None (option_and_then (λ rule. moment_under (cover_of w.groups file) rule w.versions file number) r)) is

-- if the rule asks for none, there are enough
pub none_asked : (newer : ℕ) → nat_le 0 newer ≡ true
none_asked newer = grind (arith, nat_tests)

-- how many newer ones the file's rule asks for, and whether the version has as many
abbrev pub least_newer : World → ℕ → ℕ
least_newer w file = option_map_or (λ rule. rule.newer) (rule_of w file) 0

abbrev pub has_enough : World → ℕ → ℕ → Bool
has_enough w file number = option_map_or (λ rule. nat_le rule.newer (newer_held w.versions file number)) (rule_of w file) false

-- none without enough
pub unmet_moment : (w : World) (file number : ℕ) → AreInOrder w.files w.versions → has_enough w file number ≡ false → ripe_at w file number ≡ None
unmet_moment w file number ordered unmet = by (rule_of w file) refl where
  ended_by : (rule : Rule) → rule_of w file ≡ Some rule → nat_le rule.newer (newer_held w.versions file number) ≡ false → (closed : ℕ) (e : Option ℕ)
      → option_and_then (case_moment (cover_of w.groups file) (case_of rule.policy closed (next_closing w.versions file number) false)) e ≡ None
  ended_by rule is few closed None = refl
  ended_by rule is few closed (Some ended) = case_unmet (cover_of w.groups file) rule (in_force w file rule ordered is) (case_of rule.policy closed (next_closing w.versions file number) false) ended (newer_held w.versions file number) few

  held_by : (rule : Rule) → rule_of w file ≡ Some rule → nat_le rule.newer (newer_held w.versions file number) ≡ false → (b : Bool) (o : Option VersionRow)
      → cond b None (option_and_then (λ (row : VersionRow). option_and_then (case_moment (cover_of w.groups file) (case_of rule.policy row.closed (next_closing w.versions file number) false)) row.ended) o) ≡ None
  held_by rule is few true o = refl
  held_by rule is few false None = refl
  held_by rule is few false (Some row) = ended_by rule is few row.closed row.ended

  unfiled : (b : Bool) → cond b None nothing ≡ None
  unfiled true = refl
  unfiled false = refl

  by : (r : Option Rule) → rule_of w file ≡ r → ripe_at w file number ≡ None
  by None is = ripe_at_near w ordered file number ∙ rw is (unfiled (is_open w.handles file number))
  by (Some rule) is =
      let few : nat_le rule.newer (newer_held w.versions file number) ≡ false = rw is at unmet in
      moment_is w ordered file number rule is ∙ rw few (held_by rule is few (is_open w.handles file number) (find (is_version file number) w.versions))

-- ---- by two covers

module _ (versions : List VersionRow) (file number : ℕ) where
  -- whatever is true of the version, if it is held
  abbrev pub IfHeld : (VersionRow → Type 0) → Type 0
  IfHeld P = (row : VersionRow) → find (is_version file number) versions ≡ Some row → P row

  -- if both are the same for the version, so is its moment
  pub moment_same : (t u : ℕ → Option ℕ → Cover) (rule : Rule) → IfHeld (λ row. t row.closed row.ended ≡ u row.closed row.ended) → moment_under t rule versions file number ≡ moment_under u rule versions file number
  moment_same t u rule same = grind (arith, nat_tests)

-- whatever the file's rule is
pub free_same : (w : World) (file number : ℕ) (t u : ℕ → Option ℕ → Cover) → IfHeld w.versions file number (λ row. t row.closed row.ended ≡ u row.closed row.ended) → free_moment w t file number ≡ free_moment w u file number
free_same w file number t u same = by (rule_of w file) where
  by : (r : Option Rule) → option_and_then (λ rule. moment_under t rule w.versions file number) r ≡ option_and_then (λ rule. moment_under u rule w.versions file number) r
  by None = refl
  by (Some rule) = moment_same w.versions file number t u rule same

-- so it is the same in two worlds in which these are
pub found_moment : (w v : World) (file number : ℕ) → AreInOrder w.files w.versions → AreInOrder v.files v.versions
    → ((closed : ℕ) (ended : Option ℕ) → cover_of v.groups file closed ended ≡ cover_of w.groups file closed ended)
    → policy_of v.files file ≡ policy_of w.files file → has_enough v file number ≡ has_enough w file number → is_open v.handles file number ≡ is_open w.handles file number
    → next_closing v.versions file number ≡ next_closing w.versions file number
    → find (is_version file number) v.versions ≡ find (is_version file number) w.versions → ripe_at v file number ≡ ripe_at w file number
found_moment w v file number before after marked policy met opens next same = grind (arith, nat_tests, ripe_at_near w before file number, ripe_at_near v after file number)

-- ---- the next held version

-- an end leaves it at its place
pub next_closing-ended : (p : VersionRow → Bool) (now : ℕ) (rows : List VersionRow) (file number : ℕ) → next_closing (update_first p (ended_at now) rows) file number ≡ next_closing rows file number
next_closing-ended p now [] file number = refl
next_closing-ended p now (x ∷ xs) file number = grind (arith, nat_tests, next_closing-ended p now xs file number)

-- nor how many newer ones are held
pub newer_held-ended : (p : VersionRow → Bool) (now : ℕ) (rows : List VersionRow) (file number : ℕ) → newer_held (update_first p (ended_at now) rows) file number ≡ newer_held rows file number
newer_held-ended p now rows file number = sum_by-update_same (λ (x : VersionRow). cond (is_newer_of file number x) 1 0) p (ended_at now) rows (λ x. refl)

pub none_past : (files : List FileRow) (now : ℕ) (rows : List VersionRow) (file number : ℕ) → AllByRecursion (IsVersion files now) rows → next_of files file ≤ number + 1 → next_closing rows file number ≡ None
none_past files now rows file number each past = grind (arith, nat_tests, not_found, all-weaker)

-- if the floor was met and still is, a moment that was there stays
pub found_kept : (w v : World) (file number : ℕ) → AreInOrder w.files w.versions → AreInOrder v.files v.versions
    → ((closed : ℕ) (ended : Option ℕ) → cover_of v.groups file closed ended ≡ cover_of w.groups file closed ended)
    → policy_of v.files file ≡ policy_of w.files file → (has_enough w file number ≡ true → has_enough v file number ≡ true) → is_open v.handles file number ≡ is_open w.handles file number
    → next_closing v.versions file number ≡ next_closing w.versions file number
    → find (is_version file number) v.versions ≡ find (is_version file number) w.versions → is_some (ripe_at w file number) ≡ true → ripe_at v file number ≡ ripe_at w file number
found_kept w v file number before after marked policy met opens next same some = by (has_enough w file number) refl where
  by : (b : Bool) → has_enough w file number ≡ b → ripe_at v file number ≡ ripe_at w file number
  by true is = found_moment w v file number before after marked policy (met is ∙ sym is) opens next same
  by false unmet = absurd (false≢true (sym (ap is_some (unmet_moment w file number before unmet)) ∙ some))
