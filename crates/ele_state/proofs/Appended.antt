-- Which keys the versions have, after a file got its next version: two are added, and all others stay.
use Rattle.ele_model.proofs.Basics.{all-not_found}
use Rattle.ele_model.proofs.Versions.{IsFound}
use Rattle.ele_state.proofs.Words.{AllLater, ArePlaced, Bool, Cell, Cover, IsLawful, IsQueued, Key, List, MayGrow, KeyChange, None, Option, Policy, Some, VersionRow, World, all-found, all_found, and-false, ap, arith, cond, cover_of, Case, Rule, case_moment, case_of, is_some, ripe_case, ripe_past, sym, few_enough, least_newer, option_map, rule_in, rule_of, false, false≢true, find, found_passes, gained_moment, gaining_is, gaining_was, has_key, has_newer, held_before, is_entry, is_live, is_moment, comes, is_open, is_version, is_version_of, nat_tests, new_keys, newer_held, next_after, next_before, next_of, not, one_with_newer, option_and_then, option_map_or, or-false, others_after, policy_is, policy_of, refl, ripe_at, rows_of, touches, true, unwrap_or, with_newer, with_version, ◌&&◌, ◌-◌, ◌<◌, ◌==◌, ◌||◌, ◌∙◌, ◌≡◌, ℕ}
use Rattle.ele_state.proofs.Changes.{any_is, found_is, passing}

-- ---- what the version gets that gains

-- the moment was added, or was there, and not both
record IsGained (m : ℕ) (was came is : Option ℕ) : Type 0 where
  is_now : is_moment m is ≡ (is_moment m came || is_moment m was)
  wasnt : is_moment m came ≡ true → is_moment m was ≡ false

-- one that it had alone it has beside another
kept_or_came : (m : ℕ) (alone beside : Option ℕ) → (is_some alone ≡ true → beside ≡ alone) → IsGained m alone (cond (is_some alone) None beside) beside
kept_or_came m None beside keeps = record { is_now = sym (or-false (is_moment m beside)); wasnt = λ h. refl }
kept_or_came m (Some r) beside keeps = rw (keeps refl) (record { is_now = refl; wasnt = λ h. absurd (false≢true h) })

module _ (cover : ℕ → Option ℕ → Cover) (rule : Rule) (now closed ended : ℕ) (given : IsLawful rule.policy) where
  abbrev alone : Case
  alone = case_of rule.policy closed None (few_enough rule)

  abbrev past : Option ℕ → Option ℕ
  past ripe = option_and_then (ripe_past (cover closed (Some ended))) ripe

  keeps_alone : (o : Option ℕ) → ripe_case alone ended ≡ o → is_some (past o) ≡ true → case_moment cover (case_of rule.policy closed (Some now) true) ended ≡ past o
  keeps_alone None none some = absurd (false≢true some)
  keeps_alone (Some r) is some = ap past (given.ripe_keeps alone ended r now is)

gained : (cover : ℕ → Option ℕ → Cover) (rule : Rule) (now closed m : ℕ) (ended : Option ℕ) → IsLawful rule.policy
    → IsGained m (option_and_then (case_moment cover (case_of rule.policy closed None (few_enough rule))) ended) (gained_moment cover rule now closed ended) (case_moment cover (case_of rule.policy closed (Some now) true) (unwrap_or ended now))
gained cover rule now closed m None given = grind (arith, nat_tests, or-false)
gained cover rule now closed m (Some ended) given =
    kept_or_came m (case_moment cover (case_of rule.policy closed None (few_enough rule)) ended) (case_moment cover (case_of rule.policy closed (Some now) true) ended)
    (keeps_alone cover rule now closed ended given (ripe_case (case_of rule.policy closed None (few_enough rule)) ended) refl)

-- ---- the held version that has so many newer ones

module _ (versions : List VersionRow) (file newer : ℕ) where
  abbrev its : VersionRow → Bool
  its row = is_version_of file row && (newer_held versions file row.number == newer)

  pub record HasNewer (row : VersionRow) : Type 0 where
    pub found : find (is_version file row.number) versions ≡ Some row
    pub least : newer_held versions file row.number ≡ newer

  pub one_has : (row : VersionRow) → AllLater ArePlaced versions → with_newer versions file newer ≡ Some row → HasNewer row
  one_has row placed is = grind (arith, nat_tests, found_passes its versions row is, all-found its (IsFound versions) versions row is (all_found versions placed))

  -- no version has so many if none is found
  pub none_has : (n : ℕ) → with_newer versions file newer ≡ None → has_newer versions file newer n ≡ false
  none_has n none = grind (arith, nat_tests, any_is (is_version file n) versions, passing (is_version file n) versions, found_is (is_version file n) (λ row. its row ≡ false) versions (all-not_found its versions none))

  -- and if one is, only that one has
  pub one_alone : (row : VersionRow) (n : ℕ) → HasNewer row → has_newer versions file newer n ≡ (n == row.number)
  one_alone row n has = by (find (is_version file n) versions) refl where
    by : (o : Option VersionRow) → find (is_version file n) versions ≡ o → has_newer versions file newer n ≡ (n == row.number)
    by None unheld = grind (arith, nat_tests, any_is (is_version file n) versions, has.found)
    by (Some other) found =
        let number : other.number ≡ n = grind (arith, nat_tests, found_passes (is_version file n) versions other found) in
        let own = rw (← number) at found in
        grind (arith, nat_tests, any_is (is_version file n) versions, number, found, has.least, one_with_newer versions file other row own has.found)

module _ (w : World) (file opened : ℕ) (cells : List Cell) (k : MayGrow w file) (policy : Policy) (filed : policy_of w.files file ≡ Some policy) where
  abbrev next : ℕ
  next = next_of w.files file

  abbrev pub appended : World
  appended = with_version w file opened cells

  abbrev rule : Rule
  rule = rule_in policy (is_live w file)

  ruled : rule_of w file ≡ Some rule
  ruled = ap (option_map (λ (p : Policy). rule_in p (is_live w file))) filed

  asks : least_newer w file ≡ rule.newer
  asks = ap (λ (r : Option Rule). option_map_or (λ (x : Rule). x.newer) r 0) ruled

  given : IsLawful policy
  given = let all = policy_is w.files file k.policies in rw filed at all

  abbrev own : Bool → Option ℕ
  own live = cond (not live) (case_moment (cover_of w.groups file) (case_of policy w.now None true) w.now) None

  abbrev came : VersionRow → Option ℕ
  came row = cond (is_open w.handles file row.number) None (gained_moment (cover_of w.groups file) rule w.now row.closed row.ended)

  -- the one that gains
  abbrev gaining : Option VersionRow
  gaining = with_newer w.versions file (rule.newer - 1)

  has : (row : VersionRow) → gaining ≡ Some row → HasNewer w.versions file (rule.newer - 1) row
  has row is = one_has w.versions file (rule.newer - 1) row k.versions.placed is

  gains : (row : VersionRow) (m : ℕ) → gaining ≡ Some row → IsGained m (ripe_at w file row.number) (came row) (ripe_at appended file row.number)
  gains row m is =
      let h = has row is in
      grind (arith, nat_tests, gaining_was w file opened cells k row h.found rule ruled h.least, gaining_is w file opened cells k row h.found rule ruled h.least, gained (cover_of w.groups file) rule w.now row.closed m row.ended given)

  gains_before : (row : VersionRow) → gaining ≡ Some row → row.number < next
  gains_before row is = held_before w file opened cells k row (has row is).found

  -- ---- the queue

  -- the keys that are added, if that is the version that gains
  abbrev comes_with : Bool → Option VersionRow → Key → Bool
  comes_with live o j = is_entry file (option_map_or (λ (row : VersionRow). row.number) o 0) (option_and_then came o) j || (is_entry file next (own live) j || false)

  abbrev touched_with : Option VersionRow → ℕ → ℕ → Bool
  touched_with o f n = (f == file) && ((n == next) || option_map_or (λ (row : VersionRow). n == row.number) o false)

  touches_with : (f n : ℕ) (o : Option VersionRow) → gaining ≡ o → touches w file f n ≡ touched_with o f n
  touches_with f n None is = rw (asks, none_has w.versions file (rule.newer - 1) n is) refl
  touches_with f n (Some row) is = rw (asks, one_alone w.versions file (rule.newer - 1) row n (has row is)) refl

  -- none of them was there
  next_absent : (f n m : ℕ) → (f == file) ≡ true → (n == next) ≡ true → is_moment m (ripe_at w f n) ≡ false
  next_absent f n m own its = grind (arith, nat_tests, next_before w file opened cells k)

  gaining_absent : (row : VersionRow) (f n m : ℕ) → gaining ≡ Some row → (f == file) ≡ true → (n == row.number) ≡ true → is_moment m (came row) ≡ true → is_moment m (ripe_at w f n) ≡ false
  gaining_absent row f n m is own its comes = grind (arith, nat_tests, (gains row m is).wasnt comes)

  absent : (live : Bool) (j : Key) (o : Option VersionRow) → gaining ≡ o → comes_with live o j ≡ true → is_moment j.ripe (ripe_at w j.file j.number) ≡ false
  absent live j None e is = grind (arith, nat_tests, and-false, or-false, false≢true, next_absent j.file j.number j.ripe)
  absent live j (Some row) e is = grind (arith, nat_tests, and-false, or-false, false≢true, next_absent j.file j.number j.ripe, gaining_absent row j.file j.number j.ripe e)

  -- whether the version of that file and number has that moment
  abbrev ripens : World → Key → Bool
  ripens v j = is_moment j.ripe (ripe_at v j.file j.number)

  -- of the new one
  new_now : (j : Key) → (j.file == file) ≡ true → (j.number == next) ≡ true → ripens appended j ≡ is_moment j.ripe (own (is_live w file))
  new_now j its_file its_number =
      let same : j.file ≡ file = grind (arith, nat_tests, its_file) in
      let number : j.number ≡ next = grind (arith, nat_tests, its_number) in
      rw (same, number) (ap (is_moment j.ripe) (next_after w file opened cells k policy filed ∙ turned (is_live w file))) where
        turned : (live : Bool) → cond live None (case_moment (cover_of w.groups file) (case_of policy w.now None true) w.now) ≡ own live
        turned true = refl
        turned false = refl

  -- of the one that gains
  gaining_now : (j : Key) (row : VersionRow) → gaining ≡ Some row → (j.file == file) ≡ true → (j.number == row.number) ≡ true → ripens appended j ≡ (is_moment j.ripe (came row) || ripens w j)
  gaining_now j row e its_file its_number =
      let same : j.file ≡ file = grind (arith, nat_tests, its_file) in
      let number : j.number ≡ row.number = grind (arith, nat_tests, its_number) in
      rw (same, number) (gains row j.ripe e).is_now

  -- so all have what they have now, by these
  all_now : (own_file is_next gains_it came_now own_now had has : Bool) → (own_file ≡ true → gains_it ≡ true → is_next ≡ false) → (own_file ≡ true → gains_it ≡ true → has ≡ (came_now || had))
      → (own_file ≡ true → is_next ≡ true → had ≡ false) → (own_file ≡ true → is_next ≡ true → has ≡ own_now)
      → ((((own_file && gains_it) && came_now) || (((own_file && is_next) && own_now) || false)) || had) ≡ cond (own_file && (is_next || gains_it)) has had
  all_now own_file is_next gains_it came_now own_now had has apart gain absent_next new = grind (arith, nat_tests)

  has_now : (j : Key) (o : Option VersionRow) → gaining ≡ o → (comes_with (is_live w file) o j || ripens w j) ≡ cond (touched_with o j.file j.number) (ripens appended j) (ripens w j)
  has_now j None e = grind (arith, nat_tests, and-false, or-false, next_absent j.file j.number j.ripe, new_now j, false≢true)
  has_now j (Some row) e =
      all_now (j.file == file) (j.number == next) (j.number == row.number) (is_moment j.ripe (came row)) (is_moment j.ripe (own (is_live w file))) (ripens w j) (ripens appended j)
      (λ its_file its_number. grind (arith, nat_tests, gains_before row e, its_number)) (gaining_now j row e) (next_absent j.file j.number j.ripe) (new_now j)

  module _ (again : Bool) (gives : (not again || (rule.newer == 0)) ≡ true) where
    abbrev keys : List KeyChange
    keys = new_keys w.groups (rows_of w) policy (is_live w file) file w.now again

    -- with the added keys the queue has those of all versions
    pub appended_keys : (j : Key) → (comes keys j || ripens w j) ≡ ripens appended j
    appended_keys j = rw gives (has_now j gaining refl ∙ rw (← touches_with j.file j.number gaining refl) (grind (arith, nat_tests, others_after w file opened cells k j.file j.number)))

    pub appended_queue : (queue after : List Key) → IsQueued w queue → ((j : Key) → has_key j after ≡ (comes keys j || has_key j queue)) → IsQueued appended after
    appended_queue queue after queued edited j = edited j ∙ ap (λ b. comes keys j || b) (queued j) ∙ appended_keys j

    -- none of them was there
    pub none_there : (j : Key) → comes keys j ≡ true → ripens w j ≡ false
    none_there j is = absent (is_live w file) j gaining refl (rw gives at is)

-- ---- keys that are refused

-- none of them was there, so the queue is as it was if they are removed
module _ (keys : List KeyChange) (before : List Key) (absent : (j : Key) → comes keys j ≡ true → has_key j before ≡ false) where
  pub refused : (after : List Key) → ((j : Key) → has_key j after ≡ (not (comes keys j) && has_key j before)) → (j : Key) → has_key j after ≡ has_key j before
  refused after went j = grind (arith, nat_tests, went j, absent j)

  pub taken_back : (between after : List Key) → ((j : Key) → has_key j between ≡ (comes keys j || has_key j before)) → ((j : Key) → has_key j after ≡ (not (comes keys j) && has_key j between)) → (j : Key) → has_key j after ≡ has_key j before
  taken_back between after came went j = grind (arith, nat_tests, came j, went j, absent j)
