-- Histories to whose world events led from another: an answered event, and a pass, lead to a later one.
use Rattle.std.proofs.Common.{◌≡◌, ℕ, zero, suc, Ok, ap, sym, subst}
use Rattle.ele_model.proofs.Reached.{reaches_from}
use Rattle.ele_model.specs.declared.entry.Entry.{Entry}
use Rattle.ele_model.specs.declared.event.Event.{Event}
use Rattle.ele_model.specs.declared.event.Event.TheVariants.{CleanOne}
use Rattle.ele_model.specs.declared.pass.PassEnd.{PassEnd}
use Rattle.ele_model.specs.declared.pass.PassEnd.TheVariants.{Finished, Budget, Stopped}
use Rattle.ele_model.specs.declared.refusal.Stop.TheVariants.{NoMemory, HistoryFull}
use Rattle.ele_model.specs.declared.reply.Reply.{Reply}
use Rattle.ele_model.specs.declared.reply.Reply.TheVariants.{Nothing, Removed}
use Rattle.ele_model.specs.Reached.{IsReachedFrom}
use Rattle.ele_model.specs.Run.{IsEvent}
use Rattle.ele_model.specs.World.{World}
use Rattle.ele_history.specs.Pass.{MayPass, Removes}
use Rattle.ele_history.specs.Past.{Past, recorded, reply_to, world_of}
use Rattle.ele_history.specs.Reply.{MayReply}
use Rattle.ele_history.proofs.Growth.{world_of-extended}

module _ (start : World) where
  abbrev pub IsLed : Past → Type 0
  IsLed past = IsReachedFrom start (world_of past)

  same_led : (before after : Past) → after ≡ before → IsLed before → IsLed after
  same_led before after is led = subst IsLed (sym is) led

  recorded_led : (before : Past) (event : Event) → IsLed before → IsEvent event → IsLed (recorded before event)
  recorded_led before event led is =
      let entry : Entry = record { event = event; reply = reply_to before event } in
      reaches_from start (world_of before) (world_of (recorded before event)) event (reply_to before event) led is
      (ap (λ (w : World). (reply_to before event, w)) (world_of-extended before entry))

  pub replied_led : (before after : Past) (event : Event) (reply : Reply) → IsLed before → IsEvent event → MayReply before event (Ok reply) after → IsLed after
  replied_led before after event reply led is may =
      same_led (recorded before event) after (ap (λ (said : Reply × Past). said.1) may.1) (recorded_led before event led is)

  removed_led : (before after : Past) (n : ℕ) → IsLed before → Removes before n after → IsLed after
  removed_led before after zero led same = same_led before after same led
  removed_led before after (suc n) led more =
      replied_led more.0 after CleanOne (Removed more.2.0) (removed_led before more.0 n led more.1) tt more.2.1

  pub passed_led : (before after : Past) (budget : ℕ) (end : PassEnd) → IsLed before → MayPass before budget end after → IsLed after
  passed_led before after budget (Finished n) led may =
      replied_led may.1.0 after CleanOne Nothing (removed_led before may.1.0 n led may.1.1) tt may.1.2
  passed_led before after budget (Budget n) led may = removed_led before after n led may.1
  passed_led before after budget (Stopped HistoryFull n) led may =
      same_led may.1.0 after may.1.2.1 (removed_led before may.1.0 n led may.1.1)
  passed_led before after budget (Stopped NoMemory n) led may =
      same_led may.1.0 after may.1.2.1 (removed_led before may.1.0 n led may.1.1)
