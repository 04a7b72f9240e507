-- Which ripe moments change when names are added, removed or moved: with a file's last name that of its last version, and those of versions
-- that had too few newer ones.
use Rattle.ele_model.proofs.Basics.{◌≡◌, ℕ, ◌-◌, Bool, Option, true, false, ◌==◌, ◌&&◌, List, Some, None, refl, ap, ◌∙◌, arith, cond, false≢true, find, is_some, nat_le, option_and_then, option_map, option_map_or, nat_tests, find-update_other, list_any-update_fails, list_any-update_found}
use Rattle.ele_model.proofs.Words.{Policy, dies, ended_at, case_moment, case_of, newer_held, rule_in, rule_of, with_end, after_change, EndFileName, File, is_live_name, is_live_name_of, live_target, ripe_at, file_view, cover_of, next_closing, Versions, HasParts, World, policy_of, next_of, is_live, is_open, is_version}
use Rattle.ele_model.specs.Due.{ripe_of}
use Rattle.ele_model.proofs.Currents.{HasCurrent, last_ends}
use Rattle.ele_model.proofs.KeptVersions.{ended_versions}
use Rattle.ele_model.proofs.Neighbours.{AreInOrder, least_newer, found_kept, found_moment, in_order_of, newer_held-ended, next_closing-ended, moment_is, none_asked, none_past, versions_in_order}
use Rattle.ele_model.proofs.RipeAt.{ripe_at_is, unended}
use Rattle.ele_model.proofs.Views.{policies_of}

-- if files, versions, handles and groups stay, so do the moments of a file whose rule asks for as many newer ones
pub moments_stay : (w v : World) → AreInOrder w.files w.versions → v.files ≡ w.files → v.versions ≡ w.versions → v.handles ≡ w.handles → v.groups ≡ w.groups
    → (file number : ℕ) → least_newer v file ≡ least_newer w file → ripe_at v file number ≡ ripe_at w file number
moments_stay w v ordered files versions handles groups file number floor = grind (arith, nat_tests, found_moment)

-- whether so many newer ones are enough under the policy, in a file that is live or not
abbrev are_enough : Option Policy → Bool → ℕ → Bool
are_enough policy live newer = option_map_or (λ rule. nat_le rule.newer newer) (option_map (λ p. rule_in p live) policy) false

-- how many the policy asks for
abbrev asked : Option Policy → Bool → ℕ
asked policy live = option_map_or (λ rule. rule.newer) (option_map (λ p. rule_in p live) policy) 0

-- if it asks for as many, as many are enough
asked_same : (policy : Option Policy) (live then : Bool) (newer after : ℕ) → asked policy then ≡ asked policy live → after ≡ newer → are_enough policy then after ≡ are_enough policy live newer
asked_same None live then newer after same held = refl
asked_same (Some policy) live then newer after same held = rw (held) (ap (λ least. nat_le least newer) same)

-- what has enough newer ones in a live file has them in a nameless one
met_stays : (policy : Option Policy) (live then : Bool) (newer : ℕ) → (live ≡ false → then ≡ false) → are_enough policy live newer ≡ true → are_enough policy then newer ≡ true
met_stays policy live then newer nameless met = grind (arith, nat_tests, nameless, met)

-- and those that are there already of a file that doesn't become live
pub moments_kept : (w v : World) → AreInOrder w.files w.versions → v.files ≡ w.files → v.versions ≡ w.versions → v.handles ≡ w.handles → v.groups ≡ w.groups
    → (file number : ℕ) → (is_live w file ≡ false → is_live v file ≡ false) → is_some (ripe_at w file number) ≡ true → ripe_at v file number ≡ ripe_at w file number
moments_kept w v ordered files versions handles groups file number nameless some =
    found_kept w v file number ordered (rw (files, versions) ordered) (λ closed ended. rw groups refl) (rw files refl) (rw (files, versions) (met_stays (policy_of w.files file) (is_live w file) (is_live v file) (newer_held w.versions file number) nameless)) (rw handles refl) (rw versions refl) (rw versions refl) some

-- ---- the end of a file's name

module _ (w : World) (directory : ℕ) (name : List ℕ) (file : ℕ) where
  abbrev after : World
  after = after_change w (EndFileName directory name file)

  abbrev last : ℕ
  last = next_of w.files file - 1

  pub ended_in_order : HasParts w → AreInOrder after.files after.versions
  ended_in_order k = grind (arith, nat_tests, in_order_of, versions_in_order, policies_of, k.holds Versions, ended_versions w file)

  -- no file becomes live by it
  pub still_nameless : (f : ℕ) → is_live w f ≡ false → is_live after f ≡ false
  still_nameless f none =
      let more = list_any-update_fails (is_live_name directory name) (is_live_name_of f) (dies w.now) w.names (λ row. grind (arith, nat_tests)) in
      grind (arith, nat_tests, more, none, false≢true)

  -- and each other stays as live as it is
  pub others_live : live_target w.names directory name ≡ Some (File file) → (f : ℕ) → (f == file) ≡ false → is_live after f ≡ is_live w f
  others_live stands f other = list_any-update_found (is_live_name directory name) (is_live_name_of f) (dies w.now) w.names (λ row found. grind (arith, nat_tests, stands, found, other))

  module _ (k : HasParts w) (f n : ℕ) (apart : ((f == file) && (n == last)) ≡ false) where
    same_next : next_closing after.versions f n ≡ next_closing w.versions f n
    same_next = by (is_live after file) where
      by : (l : Bool) → next_closing (cond l w.versions (with_end w file)) f n ≡ next_closing w.versions f n
      by true = refl
      by false = next_closing-ended (is_version file last) w.now w.versions f n

    same_newer : newer_held after.versions f n ≡ newer_held w.versions f n
    same_newer = by (is_live after file) where
      by : (l : Bool) → newer_held (cond l w.versions (with_end w file)) f n ≡ newer_held w.versions f n
      by true = refl
      by false = newer_held-ended (is_version file last) w.now w.versions f n

    same_found : find (is_version f n) after.versions ≡ find (is_version f n) w.versions
    same_found = by (is_live after file) where
      by : (l : Bool) → find (is_version f n) (cond l w.versions (with_end w file)) ≡ find (is_version f n) w.versions
      by true = refl
      by false = find-update_other (is_version file last) (is_version f n) (ended_at w.now) w.versions (λ row is. grind (arith, nat_tests, apart, is))

    -- those of all other versions stay, if the rule asks for as many newer ones
    pub other_moments : least_newer after f ≡ least_newer w f → ripe_at after f n ≡ ripe_at w f n
    other_moments asks = found_moment w after f n (in_order_of w k) (ended_in_order k) (λ closed ended. refl) refl (asked_same (policy_of w.files f) (is_live w f) (is_live after f) (newer_held w.versions f n) (newer_held after.versions f n) asks same_newer) refl same_next same_found

    -- and those that are there
    pub kept_moments : is_some (ripe_at w f n) ≡ true → ripe_at after f n ≡ ripe_at w f n
    kept_moments some = found_kept w after f n (in_order_of w k) (ended_in_order k) (λ closed ended. refl) refl
        (rw same_newer (met_stays (policy_of w.files f) (is_live w f) (is_live after f) (newer_held w.versions f n) (still_nameless f))) refl same_next same_found some

  module _ (current : HasCurrent w file) where
    -- its last version, which had none, gets one, as it ends now
    pub no_moment : ripe_at w file last ≡ None
    unfolding ripe_of
    no_moment = ripe_at_is w file last ∙ ap (option_and_then (ripe_of w)) current.found ∙ unended (file_view w current.row.file) current.row current.no_end

    -- without a newer one beside it, if the rule asks for none
    pub ended_moment : HasParts w → is_live after file ≡ false → (policy : Policy) → policy_of w.files file ≡ Some policy
        → ripe_at after file last ≡ cond (is_open w.handles file last) None (case_moment (cover_of w.groups file) (case_of policy current.row.closed None true) w.now)
    ended_moment k dead policy governed =
        let found : find (is_version file last) after.versions ≡ Some (ended_at w.now current.row) = rw dead (last_ends w file current) in
        let next : next_closing after.versions file last ≡ None = rw dead (none_past w.files w.now (with_end w file) file last (ended_versions w file (k.holds Versions)).each (omega arith)) in
        let ruled : rule_of after file ≡ Some (rule_in policy false) = rw (dead, governed) refl in
        moment_is after (ended_in_order k) file last (rule_in policy false) ruled ∙ rw (found, next, current.no_end, none_asked (newer_held after.versions file last)) refl
