-- What the end of a file's name leaves of the keys and of the book.
use Rattle.ele_state.proofs.Words.{is_some, ◌&&◌, ◌==◌, ◌||◌, Bool, IsLawful, None, Option, Policy, ap, cond, ended_at, ended_in_order, moment_is, none_asked, option_map, option_map_or, Rule, rule_in, has_key, in_order_of, is_moment, nat_le, newer_held, next_closing, not, option_and_then, policy_is, policy_of, refl, ripe_at, subst, unread_under, ◌≡◌, ℕ, ◌-◌, ◌<◌, true, false, List, Some, None, sym, ◌∙◌, arith, find, count_by, nat_tests, IsQueued, held_world, IsBooked, IsSound, Rows, world_of, Key, Held, current_ended, all-found, found_passes, any-count, count-update_first, Book, EndFileName, after_change, with_end, without_name, is_live_name, live_target, Names, World, is_live, is_live_name_of, is_version, next_of, NameRow, File, ended_moment, other_moments, target_live, VersionRow, Versions, all-weaker, any-found, freed_moment, is_freed, no_moment, not_found, ◌≤◌}
use Rattle.ele_state.proofs.Changes.{any_is}
use Rattle.ele_state.proofs.Freed.{freed_is}
use Rattle.ele_state.proofs.Governed.{asked, unheld}
use Rattle.ele_state.proofs.NewNames.{names_queue}
use Rattle.ele_model.proofs.Basics.{find-update_other}
use Rattle.ele_model.proofs.NameMoments.{others_live as others_as_live}
use Rattle.ele_model.proofs.Neighbours.{next_closing-ended}
use Rattle.ele_model.proofs.Views.{policies_of}
use Rattle.ele_model.proofs.Currents.{HasCurrent, has_current}
use Rattle.ele_model.proofs.EndUsage.{usage_ended}
use Rattle.ele_model.proofs.Words.{IsVersion}
use Rattle.ele_model.specs.Neighbours.{is_newer_of}
use Rattle.std.specs.Prelude.{max}

-- an end that is set changes nothing of the book
pub ended_book : (h : Held) (file now : ℕ) (book : Book) → IsBooked h book → IsBooked (current_ended h file now) book
ended_book h file now book booked k = booked k ∙ sym (usage_ended (held_world h) (is_version file (next_of h.files file - 1)) now k)

module _ (rows : Rows) (directory : ℕ) (name : List ℕ) (file : ℕ) (sound : IsSound rows) (stands : live_target rows.names directory name ≡ Some (File file)) where
  abbrev w : World
  w = world_of rows

  record IsNamed : Type 0 where
    row : NameRow
    found : find (is_live_name directory name) rows.names ≡ Some row
    own : row.target ≡ File file

  named : IsNamed
  named = grind (arith, nat_tests)

  pub name_there : 0 < next_of rows.files.files file
  name_there = grind (arith, nat_tests, named, all-found, sound.formed.holds Names)

  -- ---- how many names are left

  pub last_ends : count_by (is_live_name_of file) rows.names ≡ 1 → is_live (without_name w directory name) file ≡ false
  last_ends last = grind (arith, nat_tests, named, found_passes, count-update_first, any-count (is_live_name_of file) (without_name w directory name).names)

  pub others_live : (count_by (is_live_name_of file) rows.names ≡ 1 → ⊥) → is_live (without_name w directory name) file ≡ true
  others_live more = grind (arith, nat_tests, any-count (is_live_name_of file) (without_name w directory name).names, named, found_passes, count-update_first)

  -- ---- the keys, while another is left

  -- each file is as live as it was
  same_live : is_live (without_name w directory name) file ≡ true → (f : ℕ) → is_live (without_name w directory name) f ≡ is_live w f
  same_live live f = grind (arith, nat_tests, others_as_live w directory name file stands f, target_live rows.names directory name (File file) stands, live)

  pub unlinked_queue : is_live (without_name w directory name) file ≡ true → IsQueued (without_name w directory name) rows.queue
  unlinked_queue live = names_queue rows (without_name w directory name).names sound (same_live live)

  -- ---- the keys, with the last one

  module _ (last_name : count_by (is_live_name_of file) rows.names ≡ 1) (policy : Policy) (filed : policy_of w.files file ≡ Some policy) where
    abbrev v : World
    v = after_change w (EndFileName directory name file)

    dead : is_live (without_name w directory name) file ≡ false
    dead = last_ends last_name

    abbrev last : ℕ
    last = next_of w.files file - 1

    abbrev least : ℕ
    least = (rule_in policy true).newer

    abbrev newer : ℕ → ℕ
    newer n = newer_held w.versions file n

    abbrev free : ℕ → Option ℕ
    free n = unread_under w.groups (rule_in policy false) rows.files file n

    given : IsLawful policy
    given = let all = policy_is w.files file (policies_of w sound.formed) in rw filed at all

    live_before : is_live w file ≡ true
    live_before = target_live rows.names directory name (File file) stands

    current : HasCurrent w file
    current = has_current w file sound.formed live_before

    -- what it was with the name
    was : (n : ℕ) → ripe_at w file n ≡ cond (nat_le least (newer n)) (free n) None
    was n = moment_is w (in_order_of w sound.formed) file n (rule_in policy true) (rw (filed, live_before) refl) ∙ asked w.groups policy rows.files file n given

    -- and what it is without
    unasked : (n : ℕ) → (n == last) ≡ false → ripe_at v file n ≡ free n
    unasked n apart =
        let ended_next : next_closing (with_end w file) file n ≡ next_closing w.versions file n = next_closing-ended (is_version file last) w.now w.versions file n in
        let found : find (is_version file n) (with_end w file) ≡ find (is_version file n) w.versions = find-update_other (is_version file last) (is_version file n) (ended_at w.now) w.versions (λ row is. grind (arith, nat_tests, apart, is)) in
        moment_is v (ended_in_order w directory name file sound.formed) file n (rule_in policy false) (rw (dead, filed) refl) ∙ rw (dead, none_asked (newer_held (with_end w file) file n), none_asked (newer n), ended_next, found) refl

    others : (f n : ℕ) → (f == file) ≡ false → ripe_at v f n ≡ ripe_at w f n
    others f n other = other_moments w directory name file sound.formed f n (rw other refl) (ap (λ (live : Bool). option_map_or (λ (rule : Rule). rule.newer) (option_map (λ (p : Policy). rule_in p live) (policy_of w.files f)) 0) (others_as_live w directory name file stands f other))

    -- ---- the newest version is the current one

    not_past : (row : VersionRow) → IsVersion w.files w.now row → is_newer_of file last row ≡ false
    not_past row is = let numbered = is.numbered in grind (arith, nat_tests, numbered)

    none_newer : newer last ≡ 0
    none_newer = grind (arith, nat_tests, any_is (is_newer_of file last) w.versions, not_found (is_newer_of file last) w.versions, all-weaker (IsVersion w.files w.now) (λ row. is_newer_of file last row ≡ false) w.versions not_past (sound.formed.holds Versions).each, any-count (is_newer_of file last) w.versions)

    module _ (n : ℕ) (row : VersionRow) (found : find (is_version file n) w.versions ≡ Some row) (apart : (n == last) ≡ false) where
      its : IsVersion w.files w.now row
      its = all-found (is_version file n) (IsVersion w.files w.now) w.versions row found (sound.formed.holds Versions).each

      passes : is_version file n row ≡ true
      passes = found_passes (is_version file n) w.versions row found

      some_newer : 1 ≤ newer n
      some_newer =
          let numbered = its.numbered in
          let last_passes = found_passes (is_version file last) w.versions current.row current.found in
          let is_newer : is_newer_of file n current.row ≡ true = grind (arith, nat_tests, numbered, passes, last_passes, apart) in
          grind (arith, nat_tests, any-found (is_version file last) (is_newer_of file n) w.versions current.row current.found is_newer, any-count (is_newer_of file n) w.versions)

      has_ended : is_some row.ended ≡ true
      has_ended = grind (arith, nat_tests, its.open_end, passes, apart)

    -- ---- the keys of the newest versions

    module _ (newest : ℕ) (is : newest ≡ max least 1) where
      abbrev then_is : ℕ → Option ℕ
      then_is n = option_and_then (λ row. freed_moment w.groups rows.files file policy rows.moment row.number row.closed row.ended) (find (is_version file n) w.versions)

      last_is : ripe_at v file last ≡ then_is last
      last_is = grind (arith, nat_tests, ended_moment w directory name file current sound.formed dead policy filed, current.found, current.no_end, found_passes (is_version file last) w.versions current.row current.found)

      -- those of so many of the newest versions are determined by them alone, and weren't there, and the others stay
      record IsFreed (n : ℕ) : Type 0 where
        now : ripe_at v file n ≡ cond (nat_le newest (newer n)) (ripe_at w file n) (then_is n)
        before : nat_le newest (newer n) ≡ false → ripe_at w file n ≡ None

      freed : (n : ℕ) → IsFreed n
      freed n = by (n == last) refl (find (is_version file n) w.versions) refl where
        by : (b : Bool) → (n == last) ≡ b → (o : Option VersionRow) → find (is_version file n) w.versions ≡ o → IsFreed n
        by true own o found =
            let same : n ≡ last = grind (arith, nat_tests, own) in
            let few : nat_le newest (newer last) ≡ false = grind (arith, nat_tests, none_newer, is) in
            rw same (record { now = rw few last_is; before = λ h. no_moment w directory name file current })
        by false apart None none =
            let gone : free n ≡ None = unheld w.groups rows.files file n (rule_in policy false) none in
            record { now = unasked n apart ∙ rw (was n, gone, none) (grind (arith, nat_tests)); before = λ h. was n ∙ rw gone (grind (arith, nat_tests)) }
        by false apart (Some row) found =
            let some = some_newer n row found apart in
            let alone = λ (some_asked : 1 ≤ least). freed_is w.groups rows.files file policy rows.moment given some_asked n (λ r its. has_ended n r its apart) in
            record { now = grind (arith, nat_tests, unasked n apart, was n, some, is, alone); before = grind (arith, nat_tests, was n, some, is) }

      -- ---- the queue

      abbrev comes_free : Key → Bool
      comes_free k = is_freed rows.groups rows.files file policy rows.moment newest k

      either : (many : Bool) (m : ℕ) (before then : Option ℕ) → (many ≡ false → before ≡ None) → ((not many && is_moment m then) || is_moment m before) ≡ is_moment m (cond many before then)
      either many m before then none = grind (arith, nat_tests)

      pub ended_queue : (after : List Key) → ((k : Key) → has_key k after ≡ (comes_free k || has_key k rows.queue)) → IsQueued (record (without_name w directory name) { versions = with_end w file }) after
      ended_queue after edited = let queued : IsQueued v after = λ k. edited k ∙ by k (k.file == file) refl in subst (λ (u : World). IsQueued u after) ended_world queued where
        ended_world : v ≡ record (without_name w directory name) { versions = with_end w file }
        ended_world = rw dead refl

        by : (k : Key) (b : Bool) → (k.file == file) ≡ b → (comes_free k || has_key k rows.queue) ≡ is_moment k.ripe (ripe_at v k.file k.number)
        by k true own =
            let same : k.file ≡ file = grind (arith, nat_tests, own) in
            rw (sound.tracked.queue k, own, same, (freed k.number).now) (either (nat_le newest (newer k.number)) k.ripe (ripe_at w file k.number) (then_is k.number) (freed k.number).before)
        by k false other = rw other (sound.tracked.queue k ∙ ap (is_moment k.ripe) (sym (others k.file k.number other)))

      -- none of them was there, so if memory is refused, all is as it was
      pub still_queued : (after : List Key) → ((k : Key) → has_key k after ≡ (not (comes_free k) && has_key k rows.queue)) → IsQueued w after
      still_queued after edited k = grind (arith, nat_tests, edited k, freed k.number, sound.tracked.queue k)
