-- An undelete takes just the names that are listed as restorable.
use Rattle.ele_model.proofs.Basics.{nat_tests, arith, ◌≡◌, ℕ, ◌||◌, ◌&&◌, not, Bool, true, false, List, [], ◌∷◌, None, Ok, refl, ap, ◌∙◌, find, is_none, is_some, AllLater, list_any, option_map, passing, bytes_eq-Decides, later-weaker}
use Rattle.ele_model.proofs.Words.{World, Names, AreApart, is_live_name, is_named, last_dead, live_target, may_return, parent_now, plan, outcome, HasParts, step}
use Rattle.ele_world.proofs.Words.{DeletedName, NameRow, Undelete}
use Rattle.ele_lists.proofs.Lasts.{find_last}
use Rattle.ele_lists.proofs.Found.{find-same}
use Rattle.ele_model.specs.Restorable.{restorable}
use Rattle.ele_headline.proofs.Restores.{restorable_lists}
use Rattle.ele_headline.specs.RestorableLists.{is_dead_name}
use Rattle.ele_world.specs.UndeleteTakes.{cannot_return}
use Rattle.ele_model.specs.declared.event.Event.TheVariants as asked

any_is_some : {X Y : Type 0} (p : X → Bool) (f : X → Y) (xs : List X) → list_any p xs ≡ is_some (option_map f (find p xs))
any_is_some p f [] = refl
any_is_some p f (x ∷ xs) = grind (arith, nat_tests, any_is_some p f xs)

-- a live name's newest row is live
none_lost : (rows : List NameRow) (d : ℕ) (n : List ℕ) → AllLater AreApart rows → is_some (live_target rows d n) ≡ true → last_dead rows d n ≡ None
none_lost rows d n apart live =
    let last = find-same (is_live_name d n) (λ row. is_named d n row && is_none row.death) rows (λ row. grind (arith, nat_tests)) ∙ find_last (is_named d n) (λ (row : NameRow). is_none row.death) rows (later-weaker AreApart (λ x y. is_named d n x ≡ true → is_named d n y ≡ true → is_none x.death ≡ false) rows (λ x y is a b. grind (arith, nat_tests, bytes_eq-Decides)) apart) in
    grind (arith, nat_tests, last, live)

answer : (w : World) (path : List (List ℕ)) (at : ℕ × List ℕ) → parent_now w.names path ≡ Ok at → cannot_return ((outcome w (plan w (Undelete path))).0) ≡ (is_some (live_target w.names at.0 at.1) || not (is_some (passing (may_return w) (last_dead w.names at.0 at.1))))
answer w path at stands = rw stands (grind (arith, nat_tests))

pub undelete_takes : (w : World) (path : List (List ℕ)) (at : ℕ × List ℕ) → HasParts w → parent_now w.names path ≡ Ok at → list_any (is_dead_name at.0 at.1) (restorable w) ≡ not (cannot_return ((step w (asked.Undelete path)).0))
undelete_takes w path at k stands =
    any_is_some (is_dead_name at.0 at.1) (λ (dead : DeletedName). dead.target) (restorable w)
    ∙ ap is_some ((restorable_lists w).each at.0 at.1)
    ∙ grind (arith, nat_tests, k.holds Names, answer w path at stands, none_lost w.names at.0 at.1)
