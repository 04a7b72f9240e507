-- If a name has died, its path leads nowhere: so after a rmdir, an unlink and a rename, by which, as by a link, a new path leads.
use Rattle.ele_model.proofs.Basics.{◌≡◌, ℕ, false, ◌==◌, ◌&&◌, List, [], ◌∷◌, ◌++◌, Some, None, Ok, Err, refl, ap, ◌∙◌, arith, bytes_eq, false≢true, nat_tests, bytes_eq-Decides, update_first, AllLater, later-weaker, find-update_other}
use Rattle.ele_model.proofs.Basics.{find-update_none, sym, is_some, find-append}
use Rattle.ele_model.proofs.Words.{dies, step, is_live_name, live_target, walk, walk_now, parent_now, AreApart, Names, HasParts, World, root, after_change, EndFileName}
use Rattle.ele_model.specs.declared.event.Event.TheVariants.{RemoveDir}
use Rattle.ele_world.proofs.Words.{Directory, Done, EndsName, File, LeadsInstead, LeadsToSame, Link, NameRow, NoEntry, Rename, Target, Unlink}
use Rattle.ele_model.proofs.Words.{file_now, MoveName, born_row, comes_through, stands_in}
use Rattle.ele_model.proofs.NameParts.{still_none, free_still}
use Rattle.ele_model.proofs.PlanOutcomes.{in_all}
use Rattle.ele_model.proofs.Walks.{parent_is, file_of, last_names, new_leads, target_live, walk-push, IsParent, live_target-push, named_leads}
use Rattle.ele_model.proofs.Currents.{has_current, last_ends}
use Rattle.std.proofs.Common.{Result}
use Rattle.std.specs.Prelude.{nat_le}
use Rattle.ele_model.specs.Plan.{Plan, Make, Unless, found_outcome, outcome}
use Rattle.ele_model.specs.declared.refusal.Refusal.{Refusal}
use Rattle.ele_model.specs.declared.refusal.Refusal.TheVariants.{Exists, Full, IntoItself}
use Rattle.ele_model.specs.declared.refusal.Which.TheVariants as which

-- ---- the name that dies, and each other

module _ (rows : List NameRow) (d : ℕ) (n : List ℕ) (now : ℕ) where
  abbrev after : List NameRow
  after = update_first (is_live_name d n) (dies now) rows

  pub gone : AllLater AreApart rows → live_target after d n ≡ None
  gone apart = grind (arith, nat_tests, find-update_none, later-weaker, bytes_eq-Decides, still_none, false≢true)

  pub other_stays : (e : ℕ) (m : List ℕ) → ((d == e) && bytes_eq n m) ≡ false → live_target after e m ≡ live_target rows e m
  other_stays e m not = grind (arith, nat_tests, find-update_other, bytes_eq-Decides, still_none, false≢true)

-- ---- a path along it

-- the name leads nowhere, and each other where it did
module _ (rows after : List NameRow) (at : ℕ × List ℕ) (nowhere : live_target after at.0 at.1 ≡ None) (others : (e : ℕ) (m : List ℕ) (target : Target) → ((at.0 == e) && bytes_eq at.1 m) ≡ false → live_target rows e m ≡ Some target → live_target after e m ≡ Some target) where
  ends_along : (from : Target) (names : List (List ℕ)) → walk rows from names ≡ Ok (Directory at.0) → walk after from (names ++ at.1 ∷ []) ≡ Err NoEntry
  ends_along from [] h = let same : from ≡ Directory at.0 = cc in rw (same, nowhere) refl
  ends_along (File file) (m ∷ names) h = absurd cc
  ends_along (Directory e) (m ∷ names) h = grind (arith, nat_tests, (λ (next : Target). ends_along next names), bytes_eq-Decides)

  pub path_ends : (path : List (List ℕ)) → parent_now rows path ≡ Ok at → walk_now after path ≡ Err NoEntry
  path_ends path found = let parent = parent_is rows path at found in ap (walk_now after) parent.whole ∙ ends_along (Directory root) parent.front parent.leads

-- the path whose last name dies
pub dead_path : (w : World) (path : List (List ℕ)) (at : ℕ × List ℕ) → HasParts w → parent_now w.names path ≡ Ok at → walk_now (update_first (is_live_name at.0 at.1) (dies w.now) w.names) path ≡ Err NoEntry
dead_path w path at k = path_ends w.names (update_first (is_live_name at.0 at.1) (dies w.now) w.names) at (gone w.names at.0 at.1 w.now (k.holds Names).lives) (λ e m target not edge. other_stays w.names at.0 at.1 w.now e m not ∙ edge) path

pub remove_dir_ends : (w : World) (path : List (List ℕ)) → HasParts w → (step w (RemoveDir path)).0 ≡ Done → walk_now ((step w (RemoveDir path)).1).names path ≡ Err NoEntry
remove_dir_ends w path k = grind (arith, nat_tests, in_all, dead_path)

-- ---- a link

pub link_leads : (w : World) (from to : List (List ℕ)) → HasParts w → (step w (Link from to)).0 ≡ Done → LeadsToSame w from to ((step w (Link from to)).1)
link_leads w from to k = grind (arith, nat_tests, in_all, new_leads, walk-push, file_of)

-- ---- an unlink

ends : (w : World) (path : List (List ℕ)) → HasParts w → (at : ℕ × List ℕ) → parent_now w.names path ≡ Ok at → (file : ℕ) → file_now w.names path ≡ Ok file → EndsName w path (after_change w (EndFileName at.0 at.1 file))
ends w path k at found file leads =
    let named = last_names w.names path at (File file) found (file_of (walk_now w.names path) file leads) in
    let current = has_current w file k (target_live w.names at.0 at.1 (File file) named) in
    record { file = file; was = leads; gone = dead_path w path at k found; ended = grind (arith, nat_tests, last_ends w file current, current.no_end); stays = λ live. rw live refl }

pub unlink_ends : (w : World) (path : List (List ℕ)) → HasParts w → (step w (Unlink path)).0 ≡ Done → EndsName w path ((step w (Unlink path)).1)
unlink_ends w path k = grind (arith, nat_tests, in_all, ends w path k)

-- ---- a walk that doesn't pass through what is moved leads where it did

module _ (rows : List NameRow) where
  -- if it is a directory, the walk from there along the names doesn't pass through it
  abbrev Avoids : Target → Target → List (List ℕ) → Type 0
  Avoids (File file) from names = Unit {0}
  Avoids (Directory id) from names = comes_through rows id from names ≡ false

  -- a walk to a directory that is moved passes through it
  avoids_itself : (moved : Target) (names : List (List ℕ)) (d : ℕ) → walk rows moved names ≡ Ok (Directory d) → Avoids moved moved names → ⊥
  avoids_itself moved [] d h avoids = grind (arith, nat_tests, false≢true)
  avoids_itself moved (m ∷ names) d h avoids = grind (arith, nat_tests, false≢true)

  module _ (at : ℕ × List ℕ) (moved : Target) (now : ℕ) (stands : live_target rows at.0 at.1 ≡ Some moved) where
    abbrev left : List NameRow
    left = update_first (is_live_name at.0 at.1) (dies now) rows

    leads_still : (d : ℕ) (from : Target) (names : List (List ℕ)) → Avoids moved from names → walk rows from names ≡ Ok (Directory d) → walk left from names ≡ Ok (Directory d)
    leads_still d from [] avoids h = h
    leads_still d (File file) (m ∷ names) avoids h = absurd cc
    leads_still d (Directory e) (m ∷ names) avoids h = grind (arith, nat_tests, false≢true, (λ (next : Target). leads_still d next names), other_stays rows at.0 at.1 now e m, bytes_eq-Decides, avoids_itself)

-- ---- the law

module _ (w : World) (from to : List (List ℕ)) (k : HasParts w) (old : ℕ × List ℕ) (found : parent_now w.names from ≡ Ok old) (moved : Target) (leads : walk_now w.names from ≡ Ok moved) (at : ℕ × List ℕ) (home : parent_now w.names to ≡ Ok at) (apart : stands_in w.names moved to ≡ false) (free : is_some (live_target w.names at.0 at.1) ≡ false) where
  abbrev remaining : List NameRow
  remaining = update_first (is_live_name old.0 old.1) (dies w.now) w.names

  abbrev named : NameRow
  named = born_row at.0 at.1 moved w.now

  stands : live_target w.names old.0 old.1 ≡ Some moved
  stands = last_names w.names from old moved found leads

  parent : IsParent w.names to at
  parent = parent_is w.names to at home

  avoids : Avoids w.names moved (Directory root) parent.front
  avoids = grind (arith, nat_tests)

  parent_still : IsParent remaining to at
  parent_still = record { front = parent.front; taken = parent.taken; whole = parent.whole; leads = leads_still w.names old moved w.now stands at.0 (Directory root) parent.front avoids parent.leads }

  -- the new name isn't the old one
  nowhere : live_target (remaining ++ named ∷ []) old.0 old.1 ≡ None
  nowhere = grind (arith, nat_tests, k.holds Names, find-append, gone, bytes_eq-Decides, stands, false≢true)

  leads_instead : LeadsInstead w from to (after_change w (MoveName old.0 old.1 at.0 at.1 moved))
  leads_instead = record {
    leads = named_leads remaining to at moved w.now parent_still (free_still w.now w.names old.0 old.1 at.0 at.1 free) ∙ sym leads;
    gone = path_ends w.names (remaining ++ named ∷ []) old nowhere (λ e m target not edge. live_target-push remaining named e m target (other_stays w.names old.0 old.1 w.now e m not ∙ edge)) from found;
    versions = refl;
  }

-- what follows once all three paths lead somewhere
abbrev renaming : World → ℕ × List ℕ → Target → ℕ × List ℕ → List (List ℕ) → Plan
renaming w old moved at to =
    Unless (stands_in w.names moved to) IntoItself
    (Unless (is_some (live_target w.names at.0 at.1)) Exists
    (Unless (nat_le w.limits.names w.made.names) (Full which.Names)
    (Make Done (MoveName old.0 old.1 at.0 at.1 moved ∷ []))))

pub rename_leads : (w : World) (from to : List (List ℕ)) → HasParts w → (step w (Rename from to)).0 ≡ Done → LeadsInstead w from to ((step w (Rename from to)).1)
rename_leads w from to k = by (parent_now w.names from) refl (walk_now w.names from) refl (parent_now w.names to) refl where
  by : (place : Result (ℕ × List ℕ) Refusal) → parent_now w.names from ≡ place → (led : Result Target Refusal) → walk_now w.names from ≡ led
      → (home : Result (ℕ × List ℕ) Refusal) → parent_now w.names to ≡ home
      → (found_outcome w place (λ old. found_outcome w led (λ moved. found_outcome w home (λ at. outcome w (renaming w old moved at to))))).0 ≡ Done
      → LeadsInstead w from to ((found_outcome w place (λ old. found_outcome w led (λ moved. found_outcome w home (λ at. outcome w (renaming w old moved at to))))).1)
  by (Err why) found led leads home goes done = absurd cc
  by (Ok old) found (Err why) leads home goes done = absurd cc
  by (Ok old) found (Ok moved) leads (Err why) goes done = absurd cc
  by (Ok old) found (Ok moved) leads (Ok at) goes done = grind (arith, nat_tests, leads_instead w from to k old found moved leads at goes)
