-- The moments of a file's newest versions, if its rule asks for no newer ones.
use Rattle.ele_state.proofs.Words.{IsLawful, cond, cover_of, case_moment, case_of, ripe_past, rule_in, false≢true, is_open, is_some, next_closing, unread_under, unwrap_or, ◌≤◌, comes, if_changed, sym, Held, has_newer, freed_moment, is_entry, is_freed, ◌∙◌, ap, refl, ◌≡◌, ℕ, ◌+◌, ◌==◌, nat_le, Bool, true, false, not, ◌&&◌, ◌||◌, List, Option, Some, None, find, option_and_then, option_map, arith, nat_tests, and-false, AllLater, ArePlaced, VersionRow, GroupRow, VersionInfo, Policy, Key, info_of, is_version, is_moment, found_passes, newer_held, none_asked, with_newer}
use Rattle.ele_state.proofs.Changes.{any_is, brought}
use Rattle.ele_state.proofs.Governed.{unheld}
use Rattle.ele_state.proofs.Appended.{none_has, one_alone, one_has}

-- one more is one that has just so many newer ones
pub step : (newest n : ℕ) (own m : Bool) → (own && (not (nat_le (newest + 1) n) && m)) ≡ ((own && (not (nat_le newest n) && m)) || (own && ((n == newest) && m)))
step newest n own m = grind (arith, nat_tests)

module _ (groups : List GroupRow) (h : Held) (file : ℕ) (policy : Policy) (now : ℕ) where
  abbrev its : VersionRow → Option ℕ
  its row = freed_moment groups h file policy now row.number row.closed row.ended

  pub none_freed : (k : Key) → is_freed groups h file policy now 0 k ≡ false
  none_freed k = rw (none_asked (newer_held h.versions file k.number)) (and-false (k.file == file))

  -- under a policy that may ask for some one that has ended has the moment that it has if it asks for none
  module _ (given : IsLawful policy) (some : 1 ≤ (rule_in policy true).newer) where
    alone : (nearest : Option ℕ) (closed : ℕ) (e : Option ℕ) → is_some e ≡ true → case_moment (cover_of groups file) (case_of policy closed None true) (unwrap_or e now) ≡ option_and_then (case_moment (cover_of groups file) (case_of policy closed nearest true)) e
    alone nearest closed None is = absurd (false≢true is)
    alone nearest closed (Some ended) is = ap (option_and_then (ripe_past (cover_of groups file closed (Some ended)))) (given.ripe_counted (case_of policy closed None true) ended nearest some)

    pub freed_is : (n : ℕ) → ((row : VersionRow) → find (is_version file n) h.versions ≡ Some row → is_some row.ended ≡ true) → option_and_then its (find (is_version file n) h.versions) ≡ unread_under groups (rule_in policy false) h file n
    freed_is n ended = by (find (is_version file n) h.versions) refl where
      by : (o : Option VersionRow) → find (is_version file n) h.versions ≡ o → option_and_then its o ≡ unread_under groups (rule_in policy false) h file n
      by None none = sym (unheld groups h file n (rule_in policy false) none)
      by (Some row) found =
          let number : row.number ≡ n = grind (arith, nat_tests, found_passes (is_version file n) h.versions row found) in
          rw (found, number, none_asked (newer_held h.versions file n)) (ap (cond (is_open h.handles file n) None) (alone (next_closing h.versions file n) row.closed row.ended (ended row found)))

  module _ (placed : AllLater ArePlaced h.versions) (newest : ℕ) (k : Key) where
    abbrev pub one_more : Bool
    one_more = (k.file == file) && ((newer_held h.versions file k.number == newest) && is_moment k.ripe (option_and_then its (find (is_version file k.number) h.versions)))

    -- it is asked of a held version alone
    held_more : one_more ≡ ((k.file == file) && (has_newer h.versions file newest k.number && is_moment k.ripe (option_and_then its (find (is_version file k.number) h.versions))))
    held_more = grind (arith, nat_tests, and-false, any_is (is_version file k.number) h.versions)

    pub none_more : with_newer h.versions file newest ≡ None → one_more ≡ false
    none_more none = held_more ∙ rw (none_has h.versions file newest k.number none) (and-false (k.file == file))

    pub just_more : (row : VersionRow) → with_newer h.versions file newest ≡ Some row → one_more ≡ is_entry file row.number (its row) k
    just_more row e = let has = one_has h.versions file newest row placed e in held_more ∙ grind (arith, nat_tests, and-false, has.found, one_alone h.versions file newest row k.number has)

    pub freed_same : None ≡ option_map info_of (with_newer h.versions file newest) → is_freed groups h file policy now (newest + 1) k ≡ (is_freed groups h file policy now newest k || false)
    freed_same told = grind (arith, nat_tests, step newest (newer_held h.versions file k.number) (k.file == file), none_more, told)

    pub freed_more : (info : VersionInfo) (moment : Option ℕ) → Some info ≡ option_map info_of (with_newer h.versions file newest) → moment ≡ freed_moment groups h file policy now info.number info.closed info.ended
        → is_freed groups h file policy now (newest + 1) k ≡ (is_freed groups h file policy now newest k || comes (if_changed (Some (record { file = file; number = info.number; was = None; is = moment }))) k)
    freed_more info moment told is = grind (arith, nat_tests, step newest (newer_held h.versions file k.number) (k.file == file), just_more, told, is, brought k file info.number moment)
