-- A history with an entry more.
use Rattle.std.proofs.Common.{◌≤◌, ℕ, ◌≡◌, List, [], ◌∷◌, ◌++◌, refl, sym, ap, ◌∙◌, arith, length-append}
use Rattle.std.proofs.lemmas.List.{map-append}
use Rattle.ele_lists.proofs.Alls.{all-append}
use Rattle.ele_model.specs.declared.entry.Entry.{Entry}
use Rattle.ele_model.specs.declared.event.Event.{Event}
use Rattle.ele_model.specs.declared.reply.Reply.{Reply}
use Rattle.ele_model.proofs.Reached.{fresh_is_start, run_of-append}
use Rattle.ele_model.specs.Start.{IsStart}
use Rattle.ele_model.specs.Bounds.{Bounds, AreBounds}
use Rattle.ele_model.specs.Run.{run_of, IsEvent}
use Rattle.ele_model.specs.Step.{step}
use Rattle.ele_model.specs.World.{World, fresh_world}
use Rattle.ele_history.specs.Legal.{IsLegal}
use Rattle.ele_history.specs.Past.{begun_from, counted_from, Past, HasRoom, events_of, extended, fresh, world_of}
use Rattle.ele_history.specs.Sound.{IsSound}

pub events_of-append : (xs ys : List Entry) → events_of (xs ++ ys) ≡ events_of xs ++ events_of ys
events_of-append xs ys = map-append (λ (entry : Entry). entry.event) xs ys

pub world_of-extended : (past : Past) (entry : Entry) → world_of (extended past entry) ≡ (step (world_of past) entry.event).1
world_of-extended past entry =
    ap (run_of past.base) (events_of-append past.entries (entry ∷ []))
    ∙ run_of-append past.base (events_of past.entries) (entry.event ∷ [])

pub legal-append : (w : World) (xs : List Entry) (entry : Entry) → IsLegal w xs → entry.reply ≡ (step (run_of w (events_of xs)) entry.event).0 → IsLegal w (xs ++ entry ∷ [])
legal-append w [] entry legal is = (is, tt)
legal-append w (x ∷ xs) entry legal is = (legal.0, legal-append ((step w x.event).1) xs entry legal.1 is)

-- no entry yet
pub begun : (limits : Bounds) → AreBounds limits → IsSound (fresh limits) (fresh_world limits)
begun limits bounds = record {
  reached = record {
    reached = record { start = fresh_world limits; begins = fresh_is_start limits bounds; run = record { events = []; are = tt; world = refl } };
    earlier = 0;
    long = refl;
    fresh = λ none. refl;
  };
  unfolded = λ none. refl;
  events = tt;
  legal = tt;
  world = refl;
  counted = omega arith;
}

-- no entry yet, of a world that is given
pub begun_in : (base : World) (folded : ℕ) → IsStart base → counted_from folded ≤ base.limits.events → IsSound (begun_from base folded) base
begun_in base folded begins room = record {
  reached = record {
    reached = record { start = base; begins = begins; run = record { events = []; are = tt; world = refl } };
    earlier = counted_from folded;
    long = omega arith;
    fresh = λ none. absurd (omega (arith, none));
  };
  unfolded = λ none. absurd (omega (arith, none));
  events = tt;
  legal = tt;
  world = refl;
  counted = omega (arith, room);
}

-- the step's own reply and world
pub grown : (past : Past) (event : Event) (reply : Reply) (before after : World) → IsSound past before → IsEvent event → ◌≡◌ {A = Reply × World} (reply, after) (step before event) → HasRoom past → IsSound (extended past (record { event = event; reply = reply })) after
grown past event reply before after sound is stepped room =
    let entry : Entry = record { event = event; reply = reply } in
    let told : ◌≡◌ {A = Reply × World} (reply, after) (step (world_of past) event) = stepped ∙ ap (λ (w : World). step w event) sound.world in
    record {
      reached = sound.reached;
      unfolded = sound.unfolded;
      events = rw (events_of-append past.entries (entry ∷ [])) (all-append IsEvent (events_of past.entries) (event ∷ []) sound.events (is, tt));
      legal = legal-append past.base past.entries entry sound.legal (ap (λ (x : Reply × World). x.0) told);
      world = ap (λ (x : Reply × World). x.1) told ∙ sym (world_of-extended past entry);
      counted = omega (arith, length-append past.entries (entry ∷ []), room);
    }
