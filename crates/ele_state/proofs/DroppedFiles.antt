-- What the drop of a file leaves of the rows, the keys and the book.
use Rattle.ele_state.proofs.Words.{subst, ◌≡◌, IsQueued, is_moment, ℕ, ◌==◌, ◌<◌, true, not, filter, List, ◌∷◌, Some, None, refl, ap, sym, ◌∙◌, arith, find, AllByRecursion, nat_tests, world_of, IsSound, held_world, IsBooked, Rows, rows_of, remove_first-unfound, all-weaker, filter-all, Kind, Policy, kind_of, Book, sums_of, only_at, plus, IsWithin, DropIdle, is_idle, without_file, after_change, forgotten, usage_of, IsGroup, Groups, World, is_file, next_of, policy_of, GroupRow, File, dropped, usage_same, []}
use Rattle.ele_state.proofs.Booked.{booked, plus-cancel, same_kind}
use Rattle.ele_state.proofs.NewNames.{other_target, unnamed}
use Rattle.ele_lists.proofs.Edits.{all-not_found}
use Rattle.ele_model.proofs.DropViews.{ripe_at_dropped}
use Rattle.ele_model.proofs.DropUsage.{one_file, dropped_at}

-- ---- a file that isn't there

module _ (rows : Rows) (file : ℕ) (sound : IsSound rows) (none : policy_of rows.files.files file ≡ None) where
  abbrev w : World
  w = world_of rows

  no_row : find (is_file file) w.files ≡ None
  no_row = grind (arith, nat_tests)

  -- nor does a group have it
  no_member : (members : List ℕ) → AllByRecursion (λ member. 0 < next_of w.files member) members → filter (λ member. not (member == file)) members ≡ members
  no_member members there = filter-all (λ member. not (member == file)) members (all-weaker (λ member. 0 < next_of w.files member) (λ member. not (member == file) ≡ true) members (λ member is. other_target w.files file (File member) (rw no_row refl) is) there)

  no_group : (rows : List GroupRow) → AllByRecursion (IsGroup w.files w.now) rows → forgotten file rows ≡ rows
  no_group [] all = refl
  no_group (row ∷ rows) all = rw (no_member row.members all.0.there, no_group rows all.1) refl

  -- nothing of it goes
  pub absent_stays : w ≡ after_change w (DropIdle file)
  absent_stays = dropped (λ v. w ≡ v) w file (λ idle. sym (rw (
    remove_first-unfound (is_file file) w.files (all-not_found (is_file file) w.files no_row),
    unnamed w file sound.formed (rw no_row refl),
    no_group w.groups (sound.formed.holds Groups).each,
  ) refl)) (λ busy. refl)

-- no key changes
pub dropped_queue : (rows : Rows) (file : ℕ) → IsSound rows → is_idle (world_of rows) file ≡ true → IsQueued (without_file (world_of rows) file) rows.queue
dropped_queue rows file sound idle =
    let w = world_of rows in
    let gone : after_change w (DropIdle file) ≡ without_file w file = rw idle refl in
    subst (λ (v : World). IsQueued v rows.queue) gone (λ k. sound.tracked.queue k ∙ ap (is_moment k.ripe) (sym (ripe_at_dropped w file k.file k.number)))

-- ---- the book

module _ (rows : Rows) (file : ℕ) (policy : Policy) (sound : IsSound rows) (filed : policy_of rows.files.files file ≡ Some policy) (idle : is_idle (world_of rows) file ≡ true) where
  -- its kind has it
  pub dropped_within : IsWithin one_file (sums_of rows.book (kind_of policy))
  dropped_within = grind (arith, nat_tests, dropped_at (world_of rows) file policy filed idle (kind_of policy), booked rows sound.tracked (kind_of policy), same_kind)

  -- and has what the others of its kind use, once it is off
  pub dropped_book : (book : Book) → ((k : Kind) → plus (sums_of book k) (only_at (kind_of policy) one_file k) ≡ sums_of rows.book k) → IsBooked (rows_of (without_file (world_of rows) file)) book
  dropped_book book taken k =
      let after = without_file (world_of rows) file in
      grind (arith, nat_tests, plus-cancel (sums_of book k) (usage_of after k) (only_at (kind_of policy) one_file k), taken k, booked rows sound.tracked k, dropped_at (world_of rows) file policy filed idle k, usage_same (held_world (rows_of after)) after refl refl refl k)
