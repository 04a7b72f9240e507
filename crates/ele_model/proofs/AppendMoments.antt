-- Which ripe moments change when a file gets a version: the new one's own, and that of the held one which with it has as many
-- newer ones as the file's rule asks for; if it asks for none, that of the newest held one, which ends unless it had, and gets a
-- neighbour.
use Rattle.ele_model.proofs.Basics.{◌≡◌, ℕ, ◌+◌, ◌-◌, ◌<◌, ◌==◌, Bool, true, false, cond, ◌&&◌, ◌||◌, List, [], ◌∷◌, Some, None, is_none, refl, ap, sym, subst, ◌∙◌, arith, find, option_and_then, option_map, option_map_or, unwrap_or, AllByRecursion}
use Rattle.ele_model.proofs.Basics.{nat_tests, Option, ◌≤◌, nat_le, nat_lt, list_any, zero, suc, sum_by-cons, all-none, all-not_found, AllLater, insert_before, update_first, later-weaker, all-insert_before, all-update_first, all-weaker, all-found, found_passes, not_found, find-insert_before}
use Rattle.ele_model.proofs.Basics.{list_any-update_first, any-found, find-inserted, find-update_other}
use Rattle.ele_model.proofs.Words.{Cell, Cover, Policy, Rule, case_moment, case_of, rule_in, rule_of, newer_held, IsLawful, VersionRow, ended_at, next_version, with_end, with_version, ripe_of, ripe_at, cover_of, is_newer_of, next_closing, ArePlaced, AreHeldRead, AreVersions}
use Rattle.ele_model.proofs.Words.{IsVersion, Readers, Versions, HasParts, World, is_file, is_live, is_open, is_version, is_version_after, next_of, policy_of}
use Rattle.std.proofs.Common.{zero-add}
use Rattle.std.specs.List.{count_by}
use Rattle.ele_lists.proofs.Cuts.{any-found as first_passing}
use Rattle.ele_lists.proofs.Sums.{any-count, sum_by-insert_before}
use Rattle.ele_model.proofs.NextVersion.{new_found, none_next}
use Rattle.ele_model.proofs.Files.{policies-numbered}
use Rattle.ele_model.proofs.Elements.{any_none}
use Rattle.ele_model.proofs.KeptVersions.{behind_too, ended_versions, next_placed}
use Rattle.ele_model.proofs.Neighbours.{AreInOrder, IsInForce, case_floored, found_moment, has_enough, in_force, least_newer, moment_is, unmet_moment, newer_held-ended, next_closing-ended, none_asked, none_past, versions_in_order}
use Rattle.ele_model.proofs.Readers.{unread_unheld}
use Rattle.ele_model.proofs.RipeAt.{ripe_at_is}
use Rattle.ele_model.proofs.Views.{IsLife, lives_in, policies_of}

-- an element that is found before another one is still found when an element is added after it
find-insert_behind : {X : Type 0} (p q : X → Bool) (y : X) (xs : List X) (x : X) → AllLater (λ x z. p x ≡ true → p z ≡ true) xs → find q xs ≡ Some x → p x ≡ false → find q (insert_before p y xs) ≡ Some x
find-insert_behind p q y [] x later found before = absurd cc
find-insert_behind p q y (z ∷ xs) x later found before = grind (arith, nat_tests, all-found q (λ x. p z ≡ true → p x ≡ true) xs, find-insert_behind p q y xs x)

-- the last of those that have no end ends, and the others stay as they are
found_ended : (file last n now : ℕ) (rows : List VersionRow) (row : VersionRow) → find (is_version file n) rows ≡ Some row → ((n == last) ≡ false → is_none row.ended ≡ false) → find (is_version file n) (update_first (is_version file last) (ended_at now) rows) ≡ Some (ended_at now row)
found_ended file last n now [] row found had = absurd cc
found_ended file last n now (x ∷ xs) row found had = grind (arith, nat_tests, found_ended file last n now xs row)

-- ---- how many newer ones are held

-- no more pass the second test than the first
count-weaker : {X : Type 0} (p q : X → Bool) (xs : List X) → ((x : X) → q x ≡ true → p x ≡ true) → count_by q xs ≤ count_by p xs
count-weaker p q [] weaker = omega arith
count-weaker {X} p q (x ∷ xs) weaker = grind (arith, nat_tests, sum_by-cons (λ (y : X). cond (p y) 1 0) x xs, sum_by-cons (λ (y : X). cond (q y) 1 0) x xs, weaker x, count-weaker p q xs weaker)

-- and fewer, if one passes only the first test
count-fewer : {X : Type 0} (p q : X → Bool) (xs : List X) (y : X) → ((x : X) → q x ≡ true → p x ≡ true) → p y ≡ true → q y ≡ false → (t : X → Bool) → find t xs ≡ Some y → count_by q xs < count_by p xs
count-fewer p q [] y weaker first second t found = absurd cc
count-fewer {X} p q (x ∷ xs) y weaker first second t found = grind (arith, nat_tests, sum_by-cons (λ (z : X). cond (p z) 1 0) x xs, sum_by-cons (λ (z : X). cond (q z) 1 0) x xs, weaker x, count-weaker p q xs weaker, count-fewer p q xs y weaker first second t)

-- of two versions of a file the older one has more newer ones
older_more : (rows : List VersionRow) (file n : ℕ) (row : VersionRow) → find (is_version file row.number) rows ≡ Some row → n < row.number → newer_held rows file row.number < newer_held rows file n
older_more rows file n row found older =
    let passes = found_passes (is_version file row.number) rows row found in
    count-fewer (is_newer_of file n) (is_newer_of file row.number) rows row (λ x h. grind (arith, nat_tests, h, older)) (grind (arith, nat_tests, passes, older)) (grind (arith, nat_tests)) (is_version file row.number) found

-- so none has as many as another
pub one_with_newer : (rows : List VersionRow) (file : ℕ) (x y : VersionRow) → find (is_version file x.number) rows ≡ Some x → find (is_version file y.number) rows ≡ Some y → newer_held rows file x.number ≡ newer_held rows file y.number → x.number ≡ y.number
one_with_newer rows file x y found there same = grind (arith, nat_tests, older_more rows file x.number y there, older_more rows file y.number x found)

-- the file's version of that number is held, and has so many newer ones
abbrev pub has_newer : List VersionRow → ℕ → ℕ → ℕ → Bool
has_newer versions file newer n = list_any (is_version file n) versions && (newer_held versions file n == newer)

-- ---- the next one

-- what is known of a world whose file may get a version
pub record MayGrow (w : World) (file : ℕ) : Type 0 where
  pub there : 0 < next_of w.files file
  pub versions : AreVersions w.files w.now w.versions
  pub readers : AreHeldRead w.versions w.handles
  pub policies : AllByRecursion (λ row. IsLawful row.policy) w.files

pub may_grow : (w : World) (file : ℕ) → HasParts w → 0 < next_of w.files file → MayGrow w file
may_grow w file k there = record { there = there; versions = k.holds Versions; readers = k.holds Readers; policies = policies_of w k }

-- the next version of the file, and the one that with it has enough newer ones; if the rule asks for none, the newest
abbrev pub touches : World → ℕ → ℕ → ℕ → Bool
touches w file f n = (f == file) && ((n == next_of w.files file) || has_newer w.versions file (least_newer w file - 1) n)

unheld_moment : (w : World) (file number : ℕ) → AllByRecursion (λ row. is_version file number row ≡ false) w.versions → ripe_at w file number ≡ None
unheld_moment w file number none = ripe_at_is w file number ∙ ap (option_and_then (ripe_of w)) (not_found (is_version file number) w.versions none)

module _ (w : World) (file opened : ℕ) (cells : List Cell) (k : MayGrow w file) where
  abbrev next : ℕ
  next = next_of w.files file

  abbrev new : VersionRow
  new = next_version w file opened cells

  abbrev appended : World
  appended = with_version w file opened cells

  abbrev p : VersionRow → Bool
  p = is_version file (next - 1)

  abbrev behind : VersionRow → Bool
  behind = is_version_after file next

  abbrev floor : ℕ
  floor = least_newer w file

  abbrev cover : ℕ → Option ℕ → Cover
  cover = cover_of w.groups file

  ended : AreVersions w.files w.now (with_end w file)
  ended = ended_versions w file k.versions

  ordered : AreInOrder w.files w.versions
  ordered = versions_in_order w.files w.now w.versions k.policies k.versions

  then_ordered : AreInOrder appended.files appended.versions
  then_ordered = grind (arith, nat_tests, k.policies, all-update_first (is_file file), all-insert_before behind IsLife new (with_end w file), lives_in w.files w.now (with_end w file), ended, next_placed w file k.versions opened cells)

  -- its rule stays
  rule_still : rule_of appended file ≡ rule_of w file
  rule_still = ap (option_map (λ policy. rule_in policy (is_live w file))) (policies-numbered w.files file file)

  none_there : AllByRecursion (λ row. is_version file next row ≡ false) w.versions
  none_there = all-weaker (IsVersion w.files w.now) (λ row. is_version file next row ≡ false) w.versions (none_next w.files w.now file) k.versions.each

  pub next_before : ripe_at w file next ≡ None
  next_before = unheld_moment w file next none_there

  none_behind : next_closing appended.versions file next ≡ None
  none_behind = grind (arith, nat_tests, find-insert_before behind (is_newer_of file next) new (with_end w file), none_past w.files w.now (with_end w file) file next ended.each)

  -- it has its moment if it ends at once
  pub next_after : (policy : Policy) → policy_of w.files file ≡ Some policy → ripe_at appended file next ≡ cond (is_live w file) None (case_moment cover (case_of policy w.now None true) w.now)
  next_after policy governed =
      let unread = unread_unheld w.versions w.handles file next k.readers (any_none (is_version file next) w.versions none_there) in
      moment_is appended then_ordered file next (rule_in policy (is_live w file)) (rule_still ∙ rw governed refl)
      ∙ rw (new_found w file k.versions.each opened cells, none_behind, unread) (by (is_live w file)) where
        by : (live : Bool) → option_and_then (case_moment cover (case_of policy w.now None (nat_le (rule_in policy live).newer (newer_held appended.versions file next)))) (cond live None (Some w.now)) ≡ cond live None (case_moment cover (case_of policy w.now None true) w.now)
        by true = refl
        by false = ap (λ enough. case_moment cover (case_of policy w.now None enough) w.now) (none_asked (newer_held appended.versions file next))

  -- each other version is found as before, but that its file's last one ends
  found_after : (f n : ℕ) → is_version f n new ≡ false → find (is_version f n) appended.versions ≡ find (is_version f n) (with_end w file)
  found_after f n apart = find-insert_before behind (is_version f n) new (with_end w file) apart

  found_still : (f n : ℕ) → is_version f n new ≡ false → ((f == file) && (n + 1 == next)) ≡ false → find (is_version f n) appended.versions ≡ find (is_version f n) w.versions
  found_still f n apart last = grind (arith, nat_tests, found_after f n, find-update_other p (is_version f n) (ended_at w.now) w.versions)

  -- and what wasn't held isn't
  stays_unheld : (n : ℕ) → (n == next) ≡ false → AllByRecursion (λ row. is_version file n row ≡ false) w.versions → ripe_at appended file n ≡ ripe_at w file n
  stays_unheld n other none = unheld_moment appended file n (grind (arith, nat_tests, all-insert_before behind, all-update_first p)) ∙ sym (unheld_moment w file n none)

  -- ---- one that is held

  newer_after : (f n : ℕ) → newer_held appended.versions f n ≡ cond (is_newer_of f n new) 1 0 + newer_held w.versions f n
  newer_after f n = sum_by-insert_before (λ (x : VersionRow). cond (is_newer_of f n x) 1 0) behind new (with_end w file) ∙ ap (λ m. cond (is_newer_of f n new) 1 0 + m) (newer_held-ended p w.now w.versions f n)

  module _ (row : VersionRow) (found : find (is_version file row.number) w.versions ≡ Some row) where
    abbrev n : ℕ
    n = row.number

    record IsHeld : Type 0 where
      own : row.file ≡ file
      is : IsVersion w.files w.now row
      before : row.number < next

    its : IsHeld
    its = grind (arith, nat_tests, found_passes (is_version file row.number) w.versions row found, all-found (is_version file row.number) (IsVersion w.files w.now) w.versions row found k.versions.each)

    -- it isn't the next one
    pub held_before : row.number < next
    held_before = its.before

    -- it has one newer one more
    one_newer : newer_held appended.versions file n ≡ newer_held w.versions file n + 1
    one_newer = let before = its.before in newer_after file n ∙ grind (arith, nat_tests, before)

    -- it has ended
    row_ended : find (is_version file n) appended.versions ≡ Some (ended_at w.now row)
    row_ended =
        let before = its.before in
        let own = its.own in
        found_after file n (grind (arith, nat_tests)) ∙ found_ended file (next - 1) n w.now w.versions row found (λ other. grind (arith, nat_tests, its.is))

    module _ (none : newer_held w.versions file n ≡ 0) where
      none_newer : AllByRecursion (λ x. is_newer_of file n x ≡ false) w.versions
      none_newer = all-none (is_newer_of file n) w.versions (any-count (is_newer_of file n) w.versions ∙ ap (nat_lt 0) none)

      none_now : next_closing w.versions file n ≡ None
      none_now = ap (option_map (λ (x : VersionRow). x.closed)) (not_found (is_newer_of file n) w.versions none_newer)

      -- the new one is the next after it
      next_behind : next_closing appended.versions file n ≡ Some w.now
      next_behind =
          let before = its.before in
          ap (option_map (λ (x : VersionRow). x.closed)) (find-inserted behind (is_newer_of file n) new (with_end w file) (grind (arith, nat_tests, before)) (all-update_first p (λ x. is_newer_of file n x ≡ false) (λ x. is_newer_of file n x ≡ false) (ended_at w.now) w.versions (λ x h. h) (λ x h. h) none_newer))

    module _ (some : 0 < newer_held w.versions file n) where
      newer : (x : VersionRow) × (find (is_newer_of file n) w.versions ≡ Some x)
      newer = first_passing (is_newer_of file n) w.versions (any-count (is_newer_of file n) w.versions ∙ grind (arith, nat_tests, some))

      -- it isn't the last
      not_last : (n + 1 == next) ≡ false
      not_last = grind (arith, nat_tests, found_passes (is_newer_of file n) w.versions newer.0 newer.1, all-found (is_newer_of file n) (IsVersion w.files w.now) w.versions newer.0 newer.1 k.versions.each)

      -- the rows after it are as before
      next_still : next_closing appended.versions file n ≡ next_closing w.versions file n
      next_still =
          let is = first_passing (is_newer_of file n) (with_end w file) (list_any-update_first p (is_newer_of file n) (ended_at w.now) w.versions (λ x h. refl) ∙ any-count (is_newer_of file n) w.versions ∙ grind (arith, nat_tests, some)) in
          let before : behind is.0 ≡ false = grind (arith, nat_tests, found_passes (is_newer_of file n) (with_end w file) is.0 is.1, all-found (is_newer_of file n) (IsVersion w.files w.now) (with_end w file) is.0 is.1 ended.each) in
          ap (option_map (λ (x : VersionRow). x.closed)) (find-insert_behind behind (is_newer_of file n) new (with_end w file) is.0 (later-weaker ArePlaced (λ x z. behind x ≡ true → behind z ≡ true) (with_end w file) (λ x z placed is. behind_too file next x z is placed) ended.placed) is.1 before ∙ sym is.1)
          ∙ next_closing-ended p w.now w.versions file n

    -- the one that with the new one has enough, or is the newest if the rule asks for none
    module _ (rule : Rule) (ruled : rule_of w file ≡ Some rule) (least : newer_held w.versions file n ≡ rule.newer - 1) where
      force : IsInForce rule
      force = in_force w file rule ordered ruled

      -- it had a moment if it had ended, none is asked for, and it had one alone
      pub gaining_was : ripe_at w file n ≡ cond (is_open w.handles file n) None (option_and_then (case_moment cover (case_of rule.policy row.closed None (nat_le rule.newer (rule.newer - 1)))) row.ended)
      gaining_was = moment_is w ordered file n rule ruled ∙ rw (found, least) (by (is_open w.handles file n) (rule.newer - 1) refl row.ended) where
        by : (b : Bool) (m : ℕ) → rule.newer - 1 ≡ m → (e : Option ℕ) → cond b None (option_and_then (case_moment cover (case_of rule.policy row.closed (next_closing w.versions file n) (nat_le rule.newer m))) e) ≡ cond b None (option_and_then (case_moment cover (case_of rule.policy row.closed None (nat_le rule.newer m))) e)
        by true m is e = refl
        by false m is None = refl
        by false zero is (Some end) = rw (none_now (least ∙ is)) refl
        by false (suc m) is (Some end) = case_floored cover rule force (case_of rule.policy row.closed (next_closing w.versions file n) (nat_le rule.newer (suc m))) end None (grind (arith, nat_tests, is))

      -- and has one with the new version beside it
      pub gaining_is : ripe_at appended file n ≡ cond (is_open w.handles file n) None (case_moment cover (case_of rule.policy row.closed (Some w.now) true) (unwrap_or row.ended w.now))
      gaining_is =
          let enough : nat_le rule.newer (newer_held appended.versions file n) ≡ true = grind (arith, nat_tests, one_newer, least) in
          moment_is appended then_ordered file n rule (rule_still ∙ ruled) ∙ rw (row_ended, enough) (by (is_open w.handles file n) (rule.newer - 1) refl) where
            by : (b : Bool) (m : ℕ) → rule.newer - 1 ≡ m → cond b None (case_moment cover (case_of rule.policy row.closed (next_closing appended.versions file n) true) (unwrap_or row.ended w.now)) ≡ cond b None (case_moment cover (case_of rule.policy row.closed (Some w.now) true) (unwrap_or row.ended w.now))
            by true m is = refl
            by false zero is = rw (next_behind (least ∙ is)) refl
            by false (suc m) is = case_floored cover rule force (case_of rule.policy row.closed (next_closing appended.versions file n) true) (unwrap_or row.ended w.now) (Some w.now) (grind (arith, nat_tests, is))

    -- any other has enough if it had
    module _ (other : (newer_held w.versions file n == floor - 1) ≡ false) where
      still_enough : 0 < newer_held w.versions file n → has_enough appended file n ≡ has_enough w file n
      still_enough some = ap (λ (r : Option Rule). option_map_or (λ rule. nat_le rule.newer (newer_held appended.versions file n)) r false) rule_still ∙ by (rule_of w file) refl where
        by : (r : Option Rule) → rule_of w file ≡ r → option_map_or (λ rule. nat_le rule.newer (newer_held appended.versions file n)) r false ≡ option_map_or (λ rule. nat_le rule.newer (newer_held w.versions file n)) r false
        by None is = refl
        by (Some rule) is = let apart : (newer_held w.versions file n == rule.newer - 1) ≡ false = rw is at other in grind (arith, nat_tests, one_newer, apart, some)

      stays_met : 0 < newer_held w.versions file n → ripe_at appended file n ≡ ripe_at w file n
      stays_met some =
          let before = its.before in
          found_moment w appended file n ordered then_ordered (λ closed ended. refl) (policies-numbered w.files file file)
          (still_enough some) refl (next_still some) (found_still file n (grind (arith, nat_tests, before)) (grind (arith, nat_tests, not_last some)))

      -- the newest, which is still without enough
      module _ (none : newer_held w.versions file n ≡ 0) where
        few : (r : Option Rule) → rule_of w file ≡ r → (newer : ℕ) → newer ≤ 1 → option_map_or (λ rule. nat_le rule.newer newer) r false ≡ false
        few None is newer least = refl
        few (Some rule) is newer least = let apart : (newer_held w.versions file n == rule.newer - 1) ≡ false = rw is at other in grind (arith, nat_tests, none, apart, least)

        stays_unmet : ripe_at appended file n ≡ ripe_at w file n
        stays_unmet =
            let now_few = few (rule_of w file) refl (newer_held w.versions file n) (grind (arith, none)) in
            let then_few = ap (λ (r : Option Rule). option_map_or (λ rule. nat_le rule.newer (newer_held appended.versions file n)) r false) rule_still ∙ few (rule_of w file) refl (newer_held appended.versions file n) (grind (arith, none, one_newer)) in
            unmet_moment appended file n then_ordered then_few ∙ sym (unmet_moment w file n ordered now_few)

      stays_held : ripe_at appended file n ≡ ripe_at w file n
      stays_held = by (newer_held w.versions file n) refl where
        by : (m : ℕ) → newer_held w.versions file n ≡ m → ripe_at appended file n ≡ ripe_at w file n
        by zero is = stays_unmet is
        by (suc m) is = stays_met (omega (arith, is))

  -- ---- all others stay

  stays_own : (m : ℕ) → (m == next) ≡ false → has_newer w.versions file (floor - 1) m ≡ false → ripe_at appended file m ≡ ripe_at w file m
  stays_own m unlike apart = by (find (is_version file m) w.versions) refl where
    by : (o : Option VersionRow) → find (is_version file m) w.versions ≡ o → ripe_at appended file m ≡ ripe_at w file m
    by None none = stays_unheld m unlike (all-not_found (is_version file m) w.versions none)
    by (Some row) found =
        let number : row.number ≡ m = grind (arith, nat_tests, found_passes (is_version file m) w.versions row found) in
        let held = any-found (is_version file m) (is_version file m) w.versions row found (found_passes (is_version file m) w.versions row found) in
        rw (← number) (stays_held row (subst (λ k. find (is_version file k) w.versions ≡ Some row) (sym number) found) (rw number (grind (arith, nat_tests, apart, held))))

  stays_other : (f n : ℕ) → (f == file) ≡ false → ripe_at appended f n ≡ ripe_at w f n
  stays_other f n other =
      let apart : is_version f n new ≡ false = grind (arith, nat_tests, other) in
      let none : is_newer_of f n new ≡ false = grind (arith, nat_tests, other) in
      found_moment w appended f n ordered then_ordered (λ closed ended. refl) (policies-numbered w.files file f)
      (rw (policies-numbered w.files file f, newer_after f n, none, zero-add (newer_held w.versions f n)) refl) refl
      (ap (option_map (λ (x : VersionRow). x.closed)) (find-insert_before behind (is_newer_of f n) new (with_end w file) none) ∙ next_closing-ended p w.now w.versions f n)
      (found_still f n apart (grind (arith, nat_tests, other)))

  pub others_after : (f n : ℕ) → touches w file f n ≡ false → ripe_at appended f n ≡ ripe_at w f n
  others_after f n apart = by (f == file) refl where
    by : (b : Bool) → (f == file) ≡ b → ripe_at appended f n ≡ ripe_at w f n
    by false other = stays_other f n other
    by true own = let same : f ≡ file = grind (arith, nat_tests, own) in rw same (stays_own n (grind (arith, nat_tests, apart, own)) (grind (arith, nat_tests, apart, own)))
