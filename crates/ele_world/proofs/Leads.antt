-- After a create, a mkdir or an undelete its path leads to what is made, or to what the name last meant.
use Rattle.ele_model.proofs.Basics.{◌≡◌, ℕ, ◌+◌, ◌-◌, false, List, Some, Ok, ap, subst, arith, is_some, nat_tests, find-append, all-weaker, not_found, ◌≤◌, refl, list_any-append}
use Rattle.ele_model.proofs.Words.{after_change, MakeFile, Policy, plan, step, live_target, file_at, parent_now, Files, HasParts, World, default_of, next_of, current_of, MakeDirectory, is_live_in}
use Rattle.ele_world.proofs.Words.{Create, Directory, Done, File, HasNameAgain, HasVersionAgain, LeadsAgain, LeadsToDirectory, LeadsToNew, MakeDir, Target, Undelete}
use Rattle.ele_model.proofs.Words.{directory_in, Directories, Homes, is_directory, AddName, Revive, version_cells, next_version, with_name, last_target, Versions}
use Rattle.ele_model.specs.declared.reply.Reply.TheVariants as reply
use Rattle.ele_model.proofs.Created.{new_file, made_is, versions_before, named_live}
use Rattle.ele_model.proofs.Files.{next_of-new, next_of-numbered_on}
use Rattle.ele_model.proofs.PlanOutcomes.{in_all}
use Rattle.ele_model.proofs.Walks.{new_leads}
use Rattle.ele_model.proofs.Elements.{any_none}
use Rattle.ele_model.proofs.Homes.{parent_home, directory_given}
use Rattle.ele_model.proofs.Allowed.{may_name, may_revive}
use Rattle.ele_model.proofs.NextVersion.{new_found}
use Rattle.ele_model.proofs.KeptRevived.{again}
use Rattle.ele_model.proofs.May.{MayRevive}

-- ---- a create

module _ (w : World) (path : List (List ℕ)) (at : ℕ × List ℕ) (k : HasParts w) where
  file_leads : parent_now w.names path ≡ Ok at → is_some (live_target w.names at.0 at.1) ≡ false → LeadsToNew path (w.made.files + 1) (after_change w (MakeFile at.0 at.1 (w.made.files + 1) (default_of w.directories at.0)))
  file_leads found free = rw (made_is w at.0 at.1 (default_of w.directories at.0) k) (record { named = ap file_at (new_leads w.names path at (File (w.made.files + 1)) w.now found free); empty = grind (arith, nat_tests, not_found, all-weaker, versions_before w k, find-append, next_of-new w.made.files w.made.versions w.files (new_file (w.made.files + 1) (default_of w.directories at.0)), k.holds Files) })

pub create_leads : (w : World) (path : List (List ℕ)) (file : ℕ) → HasParts w → (step w (Create path)).0 ≡ reply.File file → LeadsToNew path file ((step w (Create path)).1)
create_leads w path file k = in_all w (λ answer. answer.0 ≡ reply.File file → LeadsToNew path file (answer.1)) (plan w (Create path)) (λ refusal e. absurd cc)
    (λ at found free files names versions e. let same : w.made.files + 1 ≡ file = cc in subst (λ n. LeadsToNew path n (after_change w (MakeFile at.0 at.1 (w.made.files + 1) (default_of w.directories at.0)))) same (file_leads w path at k found free))

-- ---- a mkdir

module _ (w : World) (path : List (List ℕ)) (at : ℕ × List ℕ) (k : HasParts w) where
  abbrev id : ℕ
  id = w.made.directories + 1

  abbrev policy : Policy
  policy = default_of w.directories at.0

  leads_to : parent_now w.names path ≡ Ok at → is_some (live_target w.names at.0 at.1) ≡ false → LeadsToDirectory w path id (after_change w (MakeDirectory at.0 at.1 id policy))
  leads_to found free = record {
    home = at;
    stands = found;
    there = grind (arith, nat_tests, list_any-append);
    named = ap directory_in (new_leads w.names path at (Directory id) w.now found free);
    empty = grind (arith, nat_tests, list_any-append, any_none (is_live_in id) w.names, k.holds Homes, all-weaker, k.holds Directories, directory_given, parent_home w path at k found);
    policy = grind (arith, nat_tests, find-append, not_found (is_directory id) w.directories, all-weaker (λ row. row.id ≤ w.made.directories) (λ row. is_directory id row ≡ false) w.directories, k.holds Directories);
  }

pub make_dir_leads : (w : World) (path : List (List ℕ)) (id : ℕ) → HasParts w → (step w (MakeDir path)).0 ≡ reply.Directory id → LeadsToDirectory w path id ((step w (MakeDir path)).1)
make_dir_leads w path id k = grind (arith, nat_tests, in_all, id, plan, after_change, default_of, leads_to)

-- ---- an undelete

module _ (w : World) (path : List (List ℕ)) (at : ℕ × List ℕ) (k : HasParts w) (found : parent_now w.names path ≡ Ok at) (free : is_some (live_target w.names at.0 at.1) ≡ false) where
  named_again : (lost : Target) (after : World) → after.names ≡ (with_name w at.0 at.1 lost).names → last_target w.names at.0 at.1 ≡ Ok lost → LeadsAgain w path lost after
  named_again lost after names last = record { home = at; stands = found; lost = grind (arith, nat_tests); leads = rw names (new_leads w.names path at lost w.now found free) }

  name_again : (lost : Target) → last_target w.names at.0 at.1 ≡ Ok lost → HasNameAgain w path (after_change w (AddName at.0 at.1 lost))
  name_again lost last = record { target = lost; named = named_again lost (with_name w at.0 at.1 lost) refl last; versions = refl }

  module _ (file held : ℕ) (may : MayRevive w at.0 at.1 file held) where
    abbrev revived : World
    revived = after_change w (Revive at.0 at.1 file held)

    pub current_is : current_of revived file ≡ Some (next_version (with_name w at.0 at.1 (File file)) file w.now (version_cells w file held))
    current_is = grind (arith, nat_tests, again w at.0 at.1 file held may (k.holds Versions).each, next_of-numbered_on w.files file, new_found (with_name w at.0 at.1 (File file)) file (k.holds Versions).each w.now (version_cells w file held))

  module _ (file : ℕ) (may : MayRevive w at.0 at.1 file (next_of w.files file - 1)) where
    version_again : (number : ℕ) → next_of w.files file ≡ number → last_target w.names at.0 at.1 ≡ Ok (File file) → HasVersionAgain w path number (after_change w (Revive at.0 at.1 file (next_of w.files file - 1)))
    version_again number same last =
        let held = next_of w.files file - 1 in
        record {
          file = file;
          last = may.row;
          current = next_version (with_name w at.0 at.1 (File file)) file w.now (version_cells w file held);
          named = named_again (File file) (after_change w (Revive at.0 at.1 file held)) refl last;
          was = may.held;
          is = current_is file held may;
          numbered = same;
          no_end = rw (named_live w at.0 at.1 file) refl;
          cells = rw may.held refl;
        }

pub undelete_leads : (w : World) (path : List (List ℕ)) → HasParts w
    → ((step w (Undelete path)).0 ≡ Done → HasNameAgain w path ((step w (Undelete path)).1))
    × ((number : ℕ) → (step w (Undelete path)).0 ≡ reply.Version number → HasVersionAgain w path number ((step w (Undelete path)).1))
undelete_leads w path k = (
  grind (arith, nat_tests, in_all, name_again w path),
  λ number. in_all w (λ answer. answer.0 ≡ reply.Version number → HasVersionAgain w path number (answer.1)) (plan w (Undelete path)) (λ refusal e. absurd cc)
      (λ at found free lost last returns. (λ none names e. absurd cc, λ file none drafts names versions e. version_again w path at k found free file (may_revive w at lost file (may_name w path at k found free names) none returns (grind (arith, nat_tests))) number (grind (arith, nat_tests)) (grind (arith, nat_tests)))),
)
