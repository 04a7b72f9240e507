-- The world after a call is reached: the call does the same as its event.
use Rattle.ele_events.specs.Does.{Does, DoesAtOnce, removed}
use Rattle.ele_events.specs.declared.halt.Halt.{Halt}
use Rattle.ele_events.specs.declared.halt.Halt.TheVariants as halt
use Rattle.ele_due.specs.declared.key.Key.{Key}
use Rattle.ele_model.proofs.Basics.{◌≡◌, Err, Ok, Option, Result, subst, sym}
use Rattle.ele_model.proofs.Reached.{reaches}
use Rattle.ele_model.proofs.Words.{IsEvent, World, clean_step}
use Rattle.ele_model.specs.Reached.{IsReached}
use Rattle.ele_model.specs.declared.event.Event.{Event}
use Rattle.ele_model.specs.declared.event.Event.TheVariants.{CleanOne}
use Rattle.ele_model.specs.declared.refusal.Refusal.{Refusal}
use Rattle.ele_model.specs.declared.reply.Reply.{Reply}
use Rattle.ele_model.specs.declared.reply.Reply.TheVariants.{Refused}

module _ {X : Type 0} where
  pub does : (told : X → Reply) (w after : World) (event : Event) (result : Result X Halt) → IsReached w → IsEvent event → Does told w event result after → IsReached after
  does told w after event (Ok x) led is done = reaches w after event (told x) led is done
  does told w after event (Err (halt.Refused refusal)) led is done = reaches w after event (Refused refusal) led is done
  does told w after event (Err halt.NoMemory) led is done = subst IsReached (sym done.0) led

  pub does_at_once : (told : X → Reply) (w after : World) (event : Event) (result : Result X Refusal) → IsReached w → IsEvent event → DoesAtOnce told w event result after → IsReached after
  does_at_once told w after event (Ok x) led is done = reaches w after event (told x) led is done
  does_at_once told w after event (Err refusal) led is done = reaches w after event (Refused refusal) led is done

pub cleans : (w after : World) (key : Option Key) → IsReached w → (removed key, after) ≡ clean_step w → IsReached after
cleans w after key led done = reaches w after CleanOne (removed key) led tt done
