-- The info of one version, and of the first that are due.
use Rattle.ele_state.proofs.Words.{HasParts, [], ◌∷◌, Cover, IsInfoOf, Rule, case_in, case_moment, few_enough, find, is_version, moment_under, ripe_case, ripe_past, rows_of, rule_of, subst, AllLater, ArePlaced, VersionRow, option_and_then, with_newer, ◌-◌, ◌==◌, ◌≡◌, ℕ, ◌≤◌, false, ◌&&◌, List, cond, Option, Some, None, refl, ap, sym, ◌∙◌, arith, nat_le, slice_get, filter_map, option_map, option_map_or, nat_tests, world_of, IsSound, former_moment, gained_moment, Rows, Key, has_key, is_ripe_by, Held, VersionInfo, ripe_at, free_moment, newest_of, due_key, first_due, cover_of, GroupRow, info_of, World, is_open, in_order_of, ripe_at_near, is_due_is, scan_members}
use Rattle.ele_state.proofs.Changes.{passing}
use Rattle.ele_moment.specs.Last.{last_moment}
use Rattle.ele_due.specs.InOrder.{in_order}
use Rattle.ele_due.specs.Queue.{if_ripe}
use Rattle.ele_model.proofs.Newer.{newest_newer}
use Rattle.ele_model.proofs.RipeAt.{scan_members_at}
use Rattle.ele_model.specs.Change.{Time, after_change}
use Rattle.ele_model.specs.Due.{is_due}
use Rattle.ele_model.specs.Scan.{scan}

-- the due rows have the keys of the queue that are ripe
pub due_keys : (rows : Rows) → IsSound rows → (k : Key) → has_key k (filter_map (due_key (world_of rows)) rows.files.versions) ≡ (is_ripe_by rows.moment k && has_key k rows.queue)
due_keys rows sound k = scan_members (world_of rows) sound.formed k ∙ ap (λ b. is_ripe_by rows.moment k && b) (sym (sound.tracked.queue k))

-- at any other moment they have those of the queue that are ripe by then
pub keys_by : (rows : Rows) (moment : ℕ) → IsSound rows → moment ≤ last_moment → (k : Key) → has_key k (filter_map (due_key (after_change (world_of rows) (Time moment))) rows.files.versions) ≡ (is_ripe_by moment k && has_key k rows.queue)
keys_by rows moment sound fits k = scan_members_at (world_of rows) moment sound.formed fits k ∙ ap (λ b. is_ripe_by moment k && b) (sym (sound.tracked.queue k))

pub scan_is : (w : World) → in_order (filter_map (due_key w) w.versions) ≡ scan w
unfolding scan
scan_is w = refl

-- none is due if there is no first one
pub none_due : (w : World) → first_due w ≡ None → [] ≡ scan w
none_due w none = by (scan w) none where
  by : (keys : List Key) → slice_get keys 0 ≡ None → [] ≡ keys
  by [] is = refl
  by (key ∷ keys) is = absurd cc

-- the first of the queue is the first of the scan, if it is ripe
pub first_is : (rows : Rows) (first : Option Key) → IsSound rows
    → ((moment : ℕ) (ripe : List Key) → ((k : Key) → has_key k ripe ≡ (is_ripe_by moment k && has_key k rows.queue)) → slice_get (in_order ripe) 0 ≡ if_ripe moment first) → if_ripe rows.moment first ≡ first_due (world_of rows)
unfolding scan
first_is rows first sound is = sym (is rows.moment (filter_map (due_key (world_of rows)) rows.files.versions) (due_keys rows sound))

-- and that of the scan at any other moment, if it is ripe by then
pub first_at : (rows : Rows) (moment : ℕ) (first : Option Key) → IsSound rows → moment ≤ last_moment
    → ((at : ℕ) (ripe : List Key) → ((k : Key) → has_key k ripe ≡ (is_ripe_by at k && has_key k rows.queue)) → slice_get (in_order ripe) 0 ≡ if_ripe at first)
    → if_ripe moment first ≡ first_due (after_change (world_of rows) (Time moment))
unfolding scan
first_at rows moment first sound fits is = sym (is moment (filter_map (due_key (after_change (world_of rows) (Time moment))) rows.files.versions) (keys_by rows moment sound fits))

-- a version is due if its key is ripe and in the queue
pub due_by_key : (rows : Rows) (file number : ℕ) → IsSound rows → is_due (world_of rows) file number ≡ option_map_or (λ m. nat_le m rows.moment && has_key (record { ripe = m; file = file; number = number }) rows.queue) (ripe_at (world_of rows) file number) false
due_by_key rows file number sound = grind (arith, nat_tests, is_due_is (world_of rows) file number sound.formed)

-- the ripe moment of a version, by whether a handle reads it
pub ripe_told : (rows : Rows) (file number : ℕ) → HasParts (world_of rows) → ripe_at (world_of rows) file number ≡ cond (is_open rows.files.handles file number) None (free_moment (world_of rows) (cover_of rows.groups file) file number)
ripe_told rows file number formed = ripe_at_near (world_of rows) (in_order_of (world_of rows) formed) file number

-- the moment that the version gets that gains, by its info
abbrev gained_by : List GroupRow → Held → Rule → ℕ → ℕ → VersionInfo → Option ℕ
gained_by groups h rule file now info = cond (is_open h.handles file info.number) None (gained_moment (cover_of groups file) rule now info.closed info.ended)

pub former_told : (groups : List GroupRow) (h : Held) (rule : Rule) (file now : ℕ) (gaining : VersionInfo) → option_map info_of (with_newer h.versions file (rule.newer - 1)) ≡ Some gaining
    → option_and_then (former_moment groups h rule file now) (with_newer h.versions file (rule.newer - 1)) ≡ gained_by groups h rule file now gaining
former_told groups h rule file now gaining told = grind (arith, nat_tests, told)

-- one fewer than a rule asks for are enough if it asks for none
pub none_enough : (rule : Rule) → (rule.newer == 0) ≡ few_enough rule
none_enough rule = grind (arith, nat_tests)

-- the newest has no newer one
pub newest_told : (versions : List VersionRow) (file : ℕ) (newest : Option VersionInfo) → AllLater ArePlaced versions → option_map info_of (newest_of versions file) ≡ newest → newest ≡ option_map info_of (with_newer versions file 0)
newest_told versions file newest placed is = grind (arith, nat_tests, is, newest_newer versions file placed)

-- the info of a held version determines its moment
module _ (h : Held) (file : ℕ) (info : VersionInfo) (told : IsInfoOf h file info) where
  pub under_told : (cover : ℕ → Option ℕ → Cover) (rule : Rule) → moment_under cover rule h.versions file info.number ≡ option_and_then (case_moment cover (case_in rule h.versions file info.number info.closed)) info.ended
  under_told cover rule = grind (arith, nat_tests, told)

-- the moment by its policy alone, if its file has one
abbrev pub unmarked : World → ℕ → VersionInfo → ℕ → Option ℕ
unmarked w file info ended = option_and_then (λ rule. ripe_case (case_in rule w.versions file info.number info.closed) ended) (rule_of w file)

-- with a cover it is that one, or the cover's end
pub covered_told : (w : World) (file : ℕ) (info : VersionInfo) → IsInfoOf (rows_of w) file info → (cover : ℕ → Option ℕ → Cover)
    → free_moment w cover file info.number ≡ option_and_then (λ ended. option_and_then (ripe_past (cover info.closed (Some ended))) (unmarked w file info ended)) info.ended
covered_told w file info told cover = by (rule_of w file) info.ended (λ rule. under_told (rows_of w) file info told cover rule) where
  by : (r : Option Rule) (e : Option ℕ)
      → ((rule : Rule) → moment_under cover rule w.versions file info.number ≡ option_and_then (case_moment cover (case_in rule w.versions file info.number info.closed)) e)
      → option_and_then (λ rule. moment_under cover rule w.versions file info.number) r ≡ option_and_then (λ ended. option_and_then (ripe_past (cover info.closed (Some ended))) (option_and_then (λ rule. ripe_case (case_in rule w.versions file info.number info.closed) ended) r)) e
  by None None under = refl
  by None (Some ended) under = refl
  by (Some rule) None under = under rule
  by (Some rule) (Some ended) under = under rule

-- which a file's row has, if it is found under a number
pub told_under : (h : Held) (file number : ℕ) (info : VersionInfo) → Some info ≡ option_map info_of (find (is_version file number) h.versions) → (info.number ≡ number) × IsInfoOf h file info
told_under h file number info found = grind (arith, nat_tests, found, passing (is_version file number) h.versions)

-- so a found version's info and its file's rule determine its moment
module _ (w : World) (cover : ℕ → Option ℕ → Cover) (file number : ℕ) where
  pub unheld_free : None ≡ option_map info_of (find (is_version file number) w.versions) → free_moment w cover file number ≡ None
  unheld_free none = by (rule_of w file) where
    by : (r : Option Rule) → option_and_then (λ rule. moment_under cover rule w.versions file number) r ≡ None
    by None = refl
    by (Some rule) = grind (arith, nat_tests, none)

  pub unruled_free : rule_of w file ≡ None → free_moment w cover file number ≡ None
  unruled_free none = rw none refl

  module _ (info : VersionInfo) (found : Some info ≡ option_map info_of (find (is_version file number) w.versions)) where
    told_free : free_moment w cover file number ≡ option_and_then (λ ended. option_and_then (ripe_past (cover info.closed (Some ended))) (unmarked w file info ended)) info.ended
    told_free =
        let told = told_under (rows_of w) file number info found in
        subst (λ (n : ℕ). free_moment w cover file n ≡ option_and_then (λ ended. option_and_then (ripe_past (cover info.closed (Some ended))) (unmarked w file info ended)) info.ended) told.0 (covered_told w file info told.1 cover)

    pub unended_free : info.ended ≡ None → free_moment w cover file number ≡ None
    unended_free none = told_free ∙ rw none refl

    pub free_told : (rule : Rule) (ended : ℕ) → info.ended ≡ Some ended → rule_of w file ≡ Some rule → free_moment w cover file number ≡ case_moment cover (case_in rule w.versions file info.number info.closed) ended
    free_told rule ended ends ruled = told_free ∙ rw (ends, ruled) refl
