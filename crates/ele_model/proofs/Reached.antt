-- Worlds that events lead to.
use Rattle.ele_model.proofs.Basics.{all-append, ap, refl, sym, List, [], ◌∷◌, ◌++◌, ◌∙◌, ◌≡◌}
use Rattle.ele_model.proofs.Words.{AreBounds, Bounds, Cell, IsEvent, World, fresh_world, run_of, step}
use Rattle.ele_model.specs.Step.{cells_read}
use Rattle.ele_model.specs.declared.event.Event.{Event}
use Rattle.ele_model.specs.declared.reply.Reply.{Reply}
use Rattle.ele_model.specs.Reached.{IsReached, IsReachedFrom}
use Rattle.ele_model.specs.declared.rows.Reads.TheVariants.{Draft, Version}
use Rattle.ele_model.specs.OneContent.{Agree, HasOneContent}
use Rattle.ele_model.specs.Start.{FreshIsStart, IsStart}
use Rattle.ele_model.proofs.StepKeeps.{fresh_is}

pub run_of-append : (w : World) (xs ys : List Event) → run_of w (xs ++ ys) ≡ run_of (run_of w xs) ys
run_of-append w [] ys = refl
run_of-append w (x ∷ xs) ys = run_of-append ((step w x).1) xs ys

-- ---- a run begins

pub none_yet : (w : World) → IsReachedFrom w w
none_yet w = record { events = []; are = tt; world = refl }

-- the fresh world has no content, and no content agrees with any
nothing_agrees : (others : List Cell) → Agree [] others
nothing_agrees others slot cell twin found = absurd cc

one_content : (limits : Bounds) → HasOneContent (fresh_world limits)
one_content limits (Draft file) other same = nothing_agrees (cells_read (fresh_world limits) other)
one_content limits (Version file number) other same = nothing_agrees (cells_read (fresh_world limits) other)

pub fresh_is_start : FreshIsStart
fresh_is_start limits bounds = record { formed = fresh_is limits bounds; idle = tt; tree = record { top = tt; hang = tt }; writers = tt; contents = one_content limits }

pub start_reached : (w : World) → IsStart w → IsReached w
start_reached w begins = record { start = w; begins = begins; run = none_yet w }

pub fresh_reached : (limits : Bounds) → AreBounds limits → IsReached (fresh_world limits)
fresh_reached limits bounds = start_reached (fresh_world limits) (fresh_is_start limits bounds)

-- ---- one event more

pub reaches_from : (start w after : World) (event : Event) (reply : Reply) → IsReachedFrom start w → IsEvent event → (reply, after) ≡ step w event → IsReachedFrom start after
reaches_from start w after event reply led is stepped = record {
  events = led.events ++ event ∷ [];
  are = all-append IsEvent led.events (event ∷ []) led.are (is, tt);
  world =
      ap (λ (out : Reply × World). out.1) stepped
      ∙ ap (λ (v : World). (step v event).1) led.world
      ∙ sym (run_of-append start led.events (event ∷ []));
}

pub reaches : (w after : World) (event : Event) (reply : Reply) → IsReached w → IsEvent event → (reply, after) ≡ step w event → IsReached after
reaches w after event reply led is stepped = record { start = led.start; begins = led.begins; run = reaches_from led.start w after event reply led.run is stepped }
