-- A file that has a name again, and a version like a held one.
use Rattle.ele_state.proofs.Words.{File, IsLawful, IsReady, Key, MayGrow, Policy, and-false, Cell, cond, cover_of, false≢true, Rule, case_moment, case_of, few_enough, moment_is, ripe_past, rule_in, rule_of, former_moment, has_key, in_order_of, freed_moment, is_freed, is_live_name_of, is_moment, comes, coming, list_any-append, moments_stay, nat_le, newer_held, not, option_and_then, or-false, policy_is, policy_of, ripe_at, unread_under, unwrap_or, with_newer, with_version, ◌&&◌, ◌==◌, ◌||◌, ◌+◌, ◌∙◌, ap, subst, sym, after_change, after_changes, Append, Revive, IsHome, IsQueued, Shown, live_target, shown_of, ◌≡◌, ℕ, ◌-◌, ◌<◌, ◌≤◌, ◌++◌, Bool, true, false, List, ◌∷◌, Option, None, Some, is_some, refl, arith, find, list_any, option_map, option_map_or, nat_tests, world_of, IsSound, MayAppend, MayRevive, Rows, info_of, cells_of_version, all-found, found_passes, born_row, is_draft, is_version, may_grow, Versions, World, is_held, is_live, next_of, version_cells, versions_made, FileRow, VersionInfo, VersionRow, is_entry, is_open, gained_moment, []}
use Rattle.ele_state.proofs.Appended.{appended_keys, none_there}
use Rattle.ele_state.proofs.Changes.{any_is}
use Rattle.ele_state.proofs.Freed.{freed_is, just_more, none_freed, none_more, one_more}
use Rattle.ele_state.proofs.Governed.{asked}
use Rattle.ele_state.proofs.Grown.{ready}
use Rattle.ele_state.proofs.SoundAfter.{named as may_named}
use Rattle.ele_state.specs.Source.{Version}
use Rattle.ele_lists.proofs.Cuts.{any-found as first_passing}
use Rattle.ele_model.proofs.Basics.{suc, zero}
use Rattle.ele_model.proofs.Views.{policies_of}
use Rattle.ele_model.proofs.Words.{Ended, IsOfLive}
use Rattle.ele_model.proofs.Writers.{written_more}

-- ---- whether the last version is held

-- a file that isn't there holds none
pub unheld : (rows : Rows) (file number : ℕ) → IsSound rows → next_of rows.files.files file ≡ 0 → is_held (world_of rows) file number ≡ false
unheld rows file number sound none = grind (arith, nat_tests, first_passing, all-found, found_passes, sound.formed.holds Versions)

pub no_next : (o : Option FileRow) → None ≡ option_map (λ (row : FileRow). row.next) o → option_map_or (λ (row : FileRow). row.next) o 0 ≡ 0
no_next x0 e = grind (arith, nat_tests)

pub stamped : (p : VersionRow → Bool) (rows : List VersionRow) → is_some (option_map info_of (find p rows)) ≡ list_any p rows
stamped p rows = grind (arith, nat_tests, any_is p rows)

pub told_held : (w : World) (file number : ℕ) (info : VersionInfo) → option_map info_of (find (is_version file number) w.versions) ≡ Some info → is_held w file number ≡ true
told_held w file number info told = sym (stamped (is_version file number) w.versions) ∙ ap is_some told

-- ---- a file gets a version again that is held

module _ (rows : Rows) (file number : ℕ) (sound : IsSound rows) (held : is_held (world_of rows) file number ≡ true) where
  pub held_there : 0 < next_of rows.files.files file
  held_there = grind (arith, nat_tests, first_passing (is_version file number) rows.files.versions held, all-found, found_passes, sound.formed.holds Versions)

  pub held_ready : list_any (is_draft file) rows.files.drafts ≡ false → IsReady rows.files rows.moment file (Version number)
  held_ready undrafted = ready rows file (Version number) sound (record { held = rw (first_passing (is_version file number) rows.files.versions held).1 refl; undrafted = undrafted })

  -- so it may be appended
  pub restores : versions_made (world_of rows) < rows.limits.versions → MayAppend (world_of rows) file rows.moment (version_cells (world_of rows) file number)
  restores room =
      let is = first_passing (is_version file number) rows.files.versions held in
      rw is.1 (grind (arith, nat_tests, held_there, all-found, found_passes, sound.formed.holds Versions, written_more is.0.number (next_of rows.files.files file) is.0.cells))

-- ---- a file without a live name gets a held version again

module _ (rows : Rows) (directory : ℕ) (name : List ℕ) (file number : ℕ) (sound : IsSound rows) (may : MayRevive (world_of rows) directory name file number) where
  abbrev w : World
  w = world_of rows

  its_held : is_held w file number ≡ true
  its_held = told_held w file number (info_of may.row) (ap (option_map info_of) may.held)

  -- the name is there, and not yet counted
  abbrev named : Rows
  named = record rows { names = rows.names ++ born_row directory name (File file) rows.moment ∷ [] }

  abbrev u : World
  u = world_of named

  named_grows : MayGrow u file
  named_grows = let g = may_grow w file sound.formed (held_there rows file number sound its_held) in record { there = g.there; versions = g.versions; readers = g.readers; policies = g.policies }

  -- ---- the keys

  -- each other file is as live as it was, and the file is live
  others_live : (f : ℕ) → (f == file) ≡ false → is_live u f ≡ is_live w f
  others_live f other = grind (arith, nat_tests, list_any-append (is_live_name_of f) rows.names, or-false)

  live_now : is_live u file ≡ true
  live_now = grind (arith, nat_tests, list_any-append (is_live_name_of file) rows.names)

  -- all versions of a file without a live name have ended
  has_ended : (n : ℕ) (row : VersionRow) → find (is_version file n) w.versions ≡ Some row → is_some row.ended ≡ true
  has_ended n row found = grind (arith, nat_tests, found_passes (is_version file n) w.versions row found, all-found (is_version file n) (IsOfLive w.names) w.versions row found (sound.formed.holds Ended), may.nameless)

  module _ (cells : List Cell) (policy : Policy) (filed : policy_of w.files file ≡ Some policy) where
    abbrev v : World
    v = with_version u file rows.moment cells

    abbrev rule : Rule
    rule = rule_in policy true

    abbrev least : ℕ
    least = rule.newer

    abbrev free : ℕ → Option ℕ
    free n = unread_under w.groups (rule_in policy false) rows.files file n

    abbrev met : Key → ℕ → Bool
    met k limit = nat_le limit (newer_held w.versions file k.number)

    abbrev came : Key → Bool
    came k = comes (coming named policy file true) k

    abbrev freed : Key → Bool
    freed k = is_freed w.groups rows.files file policy rows.moment (least - 1) k

    given : IsLawful policy
    given = let all = policy_is w.files file (policies_of w sound.formed) in rw filed at all

    -- without the name none were asked for
    ruled_before : rule_of w file ≡ Some (rule_in policy false)
    ruled_before = rw (may.nameless, filed) refl

    had : (k : Key) → (k.file == file) ≡ true → has_key k rows.queue ≡ is_moment k.ripe (free k.number)
    had k own = grind (arith, nat_tests, own, sound.tracked.queue k, moment_is w (in_order_of w sound.formed) file k.number (rule_in policy false) ruled_before)

    -- with it those have no key that have too few newer ones
    ruled_now : rule_of u file ≡ Some rule
    ruled_now = rw (live_now, filed) refl

    own_named : (n : ℕ) → ripe_at u file n ≡ cond (nat_le least (newer_held w.versions file n)) (free n) None
    own_named n = moment_is u (in_order_of w sound.formed) file n rule ruled_now ∙ asked w.groups policy rows.files file n given

    others_stay : (f n : ℕ) → (f == file) ≡ false → ripe_at u f n ≡ ripe_at w f n
    others_stay f n other = moments_stay w u (in_order_of w sound.formed) refl refl refl refl f n (ap (λ (live : Bool). option_map_or (λ (r : Rule). r.newer) (option_map (λ (p : Policy). rule_in p live) (policy_of w.files f)) 0) (others_live f other))

    named_has : (k : Key) → is_moment k.ripe (ripe_at u k.file k.number) ≡ ((not (k.file == file) || met k least) && has_key k rows.queue)
    named_has k = grind (arith, nat_tests, had k, sound.tracked.queue k, own_named k.number, others_stay k.file k.number)

    -- if it asks for none, the keys are added that any version adds, and else none
    gives : least ≡ 0 → (not true || ((rule_in policy (is_live u file)).newer == 0)) ≡ true
    gives none = rw (live_now, none) refl

    none_come : 1 ≤ least → (k : Key) → came k ≡ false
    none_come some k =
        let forced : (least == 0) ≡ false = grind (arith, nat_tests, some) in
        rw (live_now, forced) (grind (arith, nat_tests, and-false))

    still : least ≡ 0 → (k : Key) → is_moment k.ripe (ripe_at u k.file k.number) ≡ has_key k rows.queue
    still none k = grind (arith, nat_tests, named_has k, none)

    -- if it asks for some, the held version that gains has the moment that it had without
    beside_new : 1 ≤ least → (closed ended : ℕ) → case_moment (cover_of w.groups file) (case_of policy closed (Some rows.moment) true) ended ≡ case_moment (cover_of w.groups file) (case_of policy closed None true) ended
    beside_new some closed ended = ap (option_and_then (ripe_past (cover_of w.groups file closed (Some ended)))) (given.ripe_counted (case_of policy closed (Some rows.moment) true) ended None some)

    too_few : 1 ≤ least → (closed ended : ℕ) → case_moment (cover_of w.groups file) (case_of policy closed None (few_enough rule)) ended ≡ None
    too_few some closed ended =
        let few : few_enough rule ≡ false = grind (arith, nat_tests, some) in
        rw few (ap (option_and_then (ripe_past (cover_of w.groups file closed (Some ended)))) (given.ripe_unmet (case_of policy closed None false) ended (least - 1) true few))

    gained : 1 ≤ least → (row : VersionRow) → former_moment w.groups rows.files rule file rows.moment row ≡ freed_moment w.groups rows.files file policy rows.moment row.number row.closed row.ended
    gained some row = ap (cond (is_open w.handles file row.number) None) (by row.ended) where
      by : (e : Option ℕ) → gained_moment (cover_of w.groups file) rule rows.moment row.closed e ≡ case_moment (cover_of w.groups file) (case_of policy row.closed None true) (unwrap_or e rows.moment)
      by None = beside_new some row.closed rows.moment
      by (Some ended) = rw (too_few some row.closed ended) (beside_new some row.closed ended)

    gains : 1 ≤ least → (k : Key) → comes (coming named policy file false) k ≡ one_more w.groups rows.files file policy rows.moment (sound.formed.holds Versions).placed (least - 1) k
    gains some k = rw live_now (by (with_newer w.versions file (least - 1)) refl) where
      by : (o : Option VersionRow) → with_newer w.versions file (least - 1) ≡ o
          → (is_entry file (option_map_or (λ row. row.number) o 0) (option_and_then (former_moment w.groups rows.files rule file rows.moment) o) k || (is_entry file (next_of w.files file) None k || false)) ≡ one_more w.groups rows.files file policy rows.moment (sound.formed.holds Versions).placed (least - 1) k
      by None none = rw (none_more w.groups rows.files file policy rows.moment (sound.formed.holds Versions).placed (least - 1) k none) (grind (arith, nat_tests, and-false, or-false))
      by (Some row) found = rw (gained some row, just_more w.groups rows.files file policy rows.moment (sound.formed.holds Versions).placed (least - 1) k row found) (grind (arith, nat_tests, and-false, or-false))

    split : (own its has : Bool) (newer : ℕ) → 1 ≤ least → (own ≡ true → its ≡ has) → (not (own && (not (nat_le (least - 1) newer) && its)) && has) ≡ ((own && ((newer == least - 1) && its)) || ((not own || nat_le least newer) && has))
    split own its has newer some same = grind (arith, nat_tests)

    pub revived_absent : (k : Key) → came k ≡ true → has_key k rows.queue ≡ false
    revived_absent k is = by least refl where
      by : (m : ℕ) → least ≡ m → has_key k rows.queue ≡ false
      by zero none = sym (still none k) ∙ none_there u file 0 [] named_grows policy filed true (gives none) k is
      by (suc m) a = absurd (false≢true (sym (none_come (omega (arith, a)) k) ∙ is))

    pub revived_queue : (between after : List Key) → ((k : Key) → has_key k between ≡ (came k || has_key k rows.queue)) → ((k : Key) → has_key k after ≡ (not (freed k) && has_key k between)) → IsQueued v after
    revived_queue between after arrived went k = went k ∙ rw (arrived k) (by least refl) where
      by : (m : ℕ) → least ≡ m → (not (freed k) && (came k || has_key k rows.queue)) ≡ is_moment k.ripe (ripe_at v k.file k.number)
      by zero none =
          let least : least - 1 ≡ 0 = omega (arith, none) in
          rw (least, none_freed w.groups rows.files file policy rows.moment k) (ap (λ b. came k || b) (sym (still none k)) ∙ appended_keys u file rows.moment cells named_grows policy filed true (gives none) k)
      by (suc m) a =
          let some : 1 ≤ least = omega (arith, a) in
          let own = λ (own : (k.file == file) ≡ true). ap (is_moment k.ripe) (freed_is w.groups rows.files file policy rows.moment given some k.number (has_ended k.number)) ∙ sym (had k own) in
          rw (none_come some k) (split (k.file == file) _ (has_key k rows.queue) (newer_held w.versions file k.number) some own ∙ rw (← named_has k, ← gains some k) (appended_keys u file rows.moment cells named_grows policy filed false refl k))

-- ---- with the name

pub revives : (rows : Rows) (shown : Shown) (is : shown_of rows ≡ shown) (directory : ℕ) (name : List ℕ) (file number : ℕ) → IsHome shown.world directory → is_some (live_target shown.world.names directory name) ≡ false → shown.world.made.names < shown.world.limits.names → versions_made shown.world < shown.world.limits.versions → is_live shown.world file ≡ false
    → is_held shown.world file number ≡ true → MayRevive (world_of rows) directory name file number
revives rows shown is directory name file number home free names versions dead held =
    let may : MayRevive shown.world directory name file number = grind (arith, nat_tests, first_passing, may_named shown.world directory name home free names) in
    subst (λ (s : Shown). MayRevive s.world directory name file number) (sym is) may

-- once it is counted the world is that after the change
pub revived_world : (rows : Rows) (directory : ℕ) (name : List ℕ) (file number : ℕ) (now : World) → now ≡ after_changes (record (world_of rows) { names = rows.names ++ born_row directory name (File file) rows.moment ∷ [] }) (Append file rows.moment (cells_of_version rows.files file number) ∷ [])
    → record now { made = record now.made { names = now.made.names + 1 } } ≡ after_change (world_of rows) (Revive directory name file number)
revived_world rows directory name file number now is = ap (λ (v : World). record v { made = record v.made { names = v.made.names + 1 } }) is
