-- A history whose entries are folded into its base.
use Rattle.std.proofs.Common.{◌≡◌, ℕ, ◌+◌, List, [], ◌∷◌, ◌++◌, refl, sym, ap, subst, ◌∙◌, arith, length, length-append}
use Rattle.std.proofs.lemmas.List.{length-map}
use Rattle.std.specs.List.{AllByRecursion}
use Rattle.ele_lists.proofs.Alls.{all-append}
use Rattle.ele_model.specs.declared.entry.Entry.{Entry}
use Rattle.ele_model.specs.declared.event.Event.{Event}
use Rattle.ele_model.proofs.Reached.{run_of-append}
use Rattle.ele_model.specs.AlwaysWellFormed.{AlwaysWellFormed, StepKeepsWellFormed}
use Rattle.ele_model.specs.Bounds.{Bounds}
use Rattle.ele_model.specs.NumbersRise.{NumbersRise}
use Rattle.ele_model.specs.Reached.{IsReached}
use Rattle.ele_model.specs.Run.{run_of, IsEvent}
use Rattle.ele_model.specs.Step.{step}
use Rattle.ele_model.specs.WellFormed.{IsWellFormed}
use Rattle.ele_model.specs.World.{World, fresh_world}
use Rattle.ele_history.specs.Past.{Past, count_of, events_of, trimmed, world_of}
use Rattle.ele_history.specs.Reached.{IsReachedBy}
use Rattle.ele_history.specs.Sound.{IsSound}

limits_stay : StepKeepsWellFormed → NumbersRise → (w : World) (events : List Event) → IsWellFormed w → AllByRecursion IsEvent events → (run_of w events).limits ≡ w.limits
limits_stay keeps rise w [] formed are = refl
limits_stay keeps rise w (event ∷ events) formed are =
    limits_stay keeps rise ((step w event).1) events (keeps w event are.0 formed) are.1 ∙ (rise w event formed).limits

-- nothing was folded, and nothing is to fold
still_fresh : (base : World) (folded : ℕ) (entries : List Entry) → (folded ≡ 0 → base ≡ fresh_world base.limits) → folded + length entries ≡ 0
    → let w = run_of base (events_of entries) in w ≡ fresh_world w.limits
still_fresh base folded [] was none = was (omega (arith, none))
still_fresh base folded (entry ∷ entries) was none = absurd (omega (arith, none))

module _ (always : AlwaysWellFormed) (keeps : StepKeepsWellFormed) (rise : NumbersRise) (past : Past) (w : World) (sound : IsSound past w) where
  abbrev led : IsReached past.base
  led = sound.reached.reached

  abbrev before : List Event
  before = led.run.events

  abbrev after : List Event
  after = events_of past.entries

  limits : (world_of past).limits ≡ past.base.limits
  limits =
      let formed = subst IsWellFormed (sym led.run.world) (always led.start before led.begins.formed led.run.are) in
      limits_stay keeps rise past.base after formed sound.events

  long : sound.reached.earlier + length (before ++ after) ≡ count_of past
  long = omega (arith, length-append before after, length-map past.entries (λ (entry : Entry). entry.event), sound.reached.long)

  reached : IsReachedBy (count_of past) (world_of past)
  reached = record {
    reached = record {
      start = led.start;
      begins = led.begins;
      run = record {
        events = before ++ after;
        are = all-append IsEvent before after led.run.are sound.events;
        world = ap (λ (v : World). run_of v after) led.run.world ∙ sym (run_of-append led.start before after);
      };
    };
    earlier = sound.reached.earlier;
    long = long;
    fresh = sound.reached.fresh;
  }

  pub trims : IsSound (trimmed past) w
  trims = record {
    reached = reached;
    unfolded = still_fresh past.base past.folded past.entries sound.unfolded;
    events = tt;
    legal = tt;
    world = sound.world;
    counted = omega (arith, sound.counted, ap (λ (b : Bounds). b.events) limits);
  }
