-- A file that was just made leaves no trace if it is removed again with its name and its first version.
use Rattle.ele_lists.proofs.Cuts.{remove_first-at}
use Rattle.ele_model.proofs.Created.{created, first_version, new_file as new_row, undrafted_yet, versions_before}
use Rattle.ele_model.proofs.Elements.{any_none}
use Rattle.ele_model.proofs.MadeMoments.{moment_stays}
use Rattle.ele_state.proofs.Words.{AllByRecursion, Files, HasParts, Held, IsBooked, IsQueued, Key, Kind, List, Policy, World, all-weaker, ap, append-nil, arith, created_usage, Rows, IsTracked, filter, is_target_file, has_key, held_world, is_file, is_version, is_version_of, is_moment, kind_of, list_any, nat_tests, not, only_at, only_at_is, plus, refl, remove_first, rows_of, sums_of, usage_of, usage_same, subst, without, world_of, Book, Usage, false, true, ℕ, [], ◌+◌, ◌-◌, ◌<◌, ◌∙◌, ◌≡◌, sym}
use Rattle.ele_files.specs.Held.{is_bare, without_file}
use Rattle.ele_state.specs.Tracked.{new_file}
use Rattle.ele_usage.specs.Adding.{IsWithin}
use Rattle.ele_state.proofs.Booked.{plus-cancel, same_kind}
use Rattle.ele_state.proofs.NewNames.{name_goes}

-- the rows without the file, with these keys and this book
abbrev pub unmade : Rows → ℕ → List Key → Book → Rows
unmade rows id queue book = record rows {
  files = without_file (without rows.files id 1) id;
  names = filter (λ row. not (is_target_file id row.target)) rows.names;
  queue = queue;
  book = book;
  made = record rows.made { files = rows.made.files - 1; names = rows.made.names - 1; versions = rows.made.versions - 1 };
}

-- its world, which depends on theirs alone
abbrev world_unmade : ℕ → World → World
world_unmade id v = let h = without_file (without (rows_of v) id 1) id in record v {
  files = h.files;
  versions = h.versions;
  drafts = h.drafts;
  handles = h.handles;
  names = filter (λ row. not (is_target_file id row.target)) v.names;
  made = record v.made { files = v.made.files - 1; names = v.made.names - 1; versions = v.made.versions - 1; handles = h.opened };
}

less : (n : ℕ) → n + 1 - 1 ≡ n
less n = omega arith

module _ (w : World) (directory : ℕ) (name : List ℕ) (policy : Policy) (k : HasParts w) where
  abbrev id : ℕ
  id = w.made.files + 1

  abbrev pub made : World
  made = created w directory name id policy

  -- its first version goes
  version_goes : remove_first (is_version id 1) made.versions ≡ w.versions
  version_goes =
      let others : AllByRecursion (λ row. is_version id 1 row ≡ false) w.versions = all-weaker (λ row. row.file < id) (λ row. is_version id 1 row ≡ false) w.versions (λ row before. grind (arith, nat_tests, before)) (versions_before w k) in
      remove_first-at (is_version id 1) w.versions (first_version w id) [] others (grind (arith, nat_tests)) ∙ append-nil w.versions

  -- and its row
  row_goes : remove_first (is_file id) made.files ≡ w.files
  row_goes =
      let others : AllByRecursion (λ row. is_file id row ≡ false) w.files = grind (arith, nat_tests, all-weaker, k.holds Files) in
      remove_first-at (is_file id) w.files (new_row id policy) [] others (grind (arith, nat_tests)) ∙ append-nil w.files

  pub file_goes : without_file (without (rows_of made) id 1) id ≡ rows_of w
  file_goes = rw (version_goes, row_goes) refl

  -- it has no other version, and no draft
  pub left_bare : is_bare (without (rows_of made) id 1) id ≡ true
  left_bare =
      let none : list_any (is_version_of id) w.versions ≡ false = any_none (is_version_of id) w.versions (all-weaker (λ row. row.file < id) (λ row. is_version_of id row ≡ false) w.versions (λ row before. grind (arith, nat_tests, before)) (versions_before w k)) in
      rw (version_goes, none, undrafted_yet w k) refl

  -- the queue has no key of it
  pub unmade_queue : (queue : List Key) → IsQueued made queue → IsQueued w queue
  unmade_queue queue queued j = queued j ∙ ap (is_moment j.ripe) (moment_stays w directory name policy k j.file j.number)

  -- the book has it
  module _ (book : Book) (booked : IsBooked (rows_of made) book) where
    had : (kind : Kind) → sums_of book kind ≡ plus (usage_of w kind) (only_at (kind_of policy) new_file kind)
    had kind = grind (arith, nat_tests, booked kind, created_usage w directory name policy k kind, only_at_is, usage_same (held_world (rows_of made)) made refl refl refl kind)

    pub unmade_within : IsWithin new_file (sums_of book (kind_of policy))
    unmade_within = grind (arith, nat_tests, had (kind_of policy), same_kind, only_at_is)

    pub unmade_book : (after : Book) → ((kind : Kind) → plus (sums_of after kind) (only_at (kind_of policy) new_file kind) ≡ sums_of book kind) → IsBooked (rows_of w) after
    unmade_book after taken kind = plus-cancel (sums_of after kind) (usage_of (held_world (rows_of w)) kind) (only_at (kind_of policy) new_file kind) (taken kind ∙ had kind ∙ ap (λ (u : Usage). plus u (only_at (kind_of policy) new_file kind)) (usage_same (held_world (rows_of w)) w refl refl refl kind))

  -- so all is as it was
  module _ (rows : Rows) (tracked : IsTracked rows) (is : world_of rows ≡ made) where
    files_are : rows.files ≡ rows_of made
    files_are = ap rows_of is

    pub made_bare : is_bare (without rows.files id 1) id ≡ true
    made_bare = subst (λ (h : Held). is_bare (without h id 1) id ≡ true) (sym files_are) left_bare

    pub made_within : IsWithin new_file (sums_of rows.book (kind_of policy))
    made_within = unmade_within rows.book (subst (λ (h : Held). IsBooked h rows.book) files_are tracked.book)

    module _ (queue : List Key) (same : (j : Key) → has_key j queue ≡ has_key j rows.queue) (book : Book) (taken : (kind : Kind) → plus (sums_of book kind) (only_at (kind_of policy) new_file kind) ≡ sums_of rows.book kind) where
      pub back_world : world_of (unmade rows id queue book) ≡ w
      back_world = ap (world_unmade id) is ∙ rw (version_goes, row_goes, name_goes w directory name k, less w.made.files, less w.made.names, less w.made.versions) refl

      pub back_tracked : IsTracked (unmade rows id queue book)
      back_tracked = record {
        queue = subst (λ (v : World). IsQueued v queue) (sym back_world) (unmade_queue queue (λ j. same j ∙ subst (λ (v : World). IsQueued v rows.queue) is tracked.queue j));
        book = subst (λ (h : Held). IsBooked h book) (sym (ap (λ (h : Held). without_file (without h id 1) id) files_are ∙ file_goes)) (unmade_book rows.book (subst (λ (h : Held). IsBooked h rows.book) files_are tracked.book) book taken);
        bounds = tracked.bounds;
      }
