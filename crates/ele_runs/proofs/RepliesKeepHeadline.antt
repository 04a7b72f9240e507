-- The headline in a run.
use Rattle.ele_runs.proofs.Basics.{◌≡◌, ℕ, Bool, List, [], ◌∷◌, Option, Some, None, Ok, sym, ap, subst, ◌∙◌}
use Rattle.ele_headline.proofs.Answered.{keeps}
use Rattle.ele_headline.specs.Headline.{HeadlineHolds, KeepsHeadline}
use Rattle.ele_history.proofs.Growth.{world_of-extended}
use Rattle.ele_runs.proofs.Led.{IsLed, passed_led, replied_led}
use Rattle.ele_history.specs.Past.{Past, reply_to, world_of}
use Rattle.ele_history.specs.Reply.{MayReply}
use Rattle.ele_model.proofs.Reached.{fresh_is_start}
use Rattle.ele_model.specs.declared.entry.Entry.{Entry}
use Rattle.ele_model.specs.declared.event.Event.{Event}
use Rattle.ele_model.specs.declared.event.Event.TheVariants as event
use Rattle.ele_model.specs.declared.refusal.Stop.TheVariants.{NoMemory, HistoryFull}
use Rattle.ele_model.specs.declared.reply.Reply.{Reply}
use Rattle.ele_model.specs.Run.{IsEvent}
use Rattle.ele_policy.specs.declared.policy.Policy.{Policy}
use Rattle.ele_model.specs.World.{World}
use Rattle.ele_script.specs.Spells.{Asks, SpellsValues, line_parts}
use Rattle.ele_script.specs.declared.reading.Line.TheVariants as asks
use Rattle.ele_runs.proofs.Blocks.{last_replied}
use Rattle.ele_runs.specs.Kept.{Answered, Recorded, last_reply}
use Rattle.ele_runs.specs.Said.{MayAnswer, MayMean}
use Rattle.ele_runs.specs.declared.said.Said.{Said}
use Rattle.ele_runs.specs.declared.said.Said.TheVariants as said
use Rattle.ele_runs.specs.RepliesKeepHeadline.{RepliesKeepHeadline}
use Rattle.ele_runs.specs.RunState.{RunState}
use Rattle.ele_runs.specs.Told.{AreTold, IsTold}

-- words spell no event whose values its types exclude
clock_is : (words : List (List ℕ)) (to : ℕ) → SpellsValues words (line_parts (asks.Event (event.Clock to))).1 → IsEvent (event.Clock to)
clock_is [] to values = absurd values
clock_is (word ∷ []) to values = values.0.in_range
clock_is (word ∷ more ∷ words) to values = absurd values.1

policy_is : (words : List (List ℕ)) (names : List (List ℕ)) (policy : Policy)
    → SpellsValues words (line_parts (asks.Event (event.SetPolicy names policy))).1 → IsEvent (event.SetPolicy names policy)
policy_is [] names policy values = absurd values
policy_is (path ∷ []) names policy values = absurd values.1
policy_is (path ∷ word ∷ []) names policy values = values.1.0.1
policy_is (path ∷ word ∷ more ∷ words) names policy values = absurd values.1.1

spelled_is : (words : List (List ℕ)) (event : Event) → SpellsValues words (line_parts (asks.Event event)).1 → IsEvent event
spelled_is words (event.Clock to) values = clock_is words to values
spelled_is words (event.SetPolicy names policy) values = policy_is words names policy values
spelled_is words (event.SetDefault names policy) values = policy_is words names policy values
spelled_is words event values = tt

-- the answer of a history to an event
replied : (before after : Past) (event : Event) → Answered (Recorded before) event (Recorded after) → MayReply before event (Ok (reply_to before event)) after
replied before after event is = (is.0, ap (λ (past : Past). (reply_to before event, past)) is.1)

module _ (start : World) where
  same_led : (before after : Past) → after ≡ before → IsLed start before → IsLed start after
  same_led before after is led = subst (IsLed start) (sym is) led

  meant_led : (explains : Bool) (before : Past) (line : List ℕ) (said : Said) (after : Past) → IsLed start before → MayMean explains (Recorded before) line said (Recorded after) → IsLed start after
  meant_led explains before line said.Nothing after led may = absurd may
  meant_led explains before line (said.Bad fault) after led may = same_led before after may.1 led
  meant_led explains before line said.Replied after led may =
      replied_led start before after may.0 (reply_to before may.0) led (spelled_is may.1.spells.words.arguments may.0 may.1.spells.words.values) (replied before after may.0 may.2)
  meant_led explains before line (said.Stopped HistoryFull) after led may = same_led before after may.3 led
  meant_led explains before line (said.Stopped NoMemory) after led may = same_led before after may.1 led
  meant_led explains before line (said.Passed end) after led may = passed_led start before after may.0 end led may.2
  meant_led explains before line said.History after led may = same_led before after may.2 led
  meant_led explains before line (said.Trimmed count) after led may = subst (IsLed start) (sym may.1.1) led
  meant_led explains before line told after led may = same_led before after may.3 led

  answered_led : (explains : Bool) (before : Past) (line : Option (List ℕ)) (said : Said) (after : Past) → IsLed start before → MayAnswer explains (Recorded before) line said (Recorded after) → IsLed start after
  answered_led explains before None said after led may = same_led before after may.1 led
  answered_led explains before (Some []) said after led may = same_led before after may.1 led
  answered_led explains before (Some (byte ∷ bytes)) said after led may = meant_led explains before (byte ∷ bytes) said after led may

  line_led : (before after : RunState) (line : Option (List ℕ)) (told : List ℕ) → IsLed start before.past → IsTold before line told after → IsLed start after.past
  line_led before after line told led is =
      same_led is.past after.past (ap (λ (s : RunState). s.past) is.after_is)
      (answered_led before.options.explain before.past _ is.is.0 is.past led is.is.1)

  told_led : (before after : RunState) (lines : List (List ℕ)) (text : List ℕ) → IsLed start before.past → AreTold before lines text after → IsLed start after.past
  told_led before after [] text led told = same_led before.past after.past (ap (λ (s : RunState). s.past) told.1) led
  told_led before after (line ∷ lines) text led told =
      told_led told.2 after lines told.1 (line_led before told.2 _ told.0 led told.3) told.4

reply_keeps : HeadlineHolds → (before after : Past) (event : Event) (reply : Reply) → MayReply before event (Ok reply) after → KeepsHeadline (world_of before) event reply (world_of after)
reply_keeps law before after event reply may =
    let entry : Entry = record { event = event; reply = reply_to before event } in
    keeps law (world_of before) event reply (world_of after)
    (ap (λ (said : Reply × Past). (said.0, world_of said.1)) may.1 ∙ ap (λ (w : World). (reply_to before event, w)) (world_of-extended before entry))

pub replies_keep_headline : HeadlineHolds → RepliesKeepHeadline
replies_keep_headline law = record {
  begun = fresh_is_start;
  told = told_led;
  reply = by;
} where
  by : (explains : Bool) (before after : Past) (line : List ℕ) → MayAnswer explains (Recorded before) (Some line) said.Replied (Recorded after)
      → (event : Event) × (reply : Reply) × Asks explains line (asks.Event event) × (last_reply after ≡ Some reply) × KeepsHeadline (world_of before) event reply (world_of after)
  by explains before after [] may = absurd (let never = may.0 in cc)
  by explains before after (byte ∷ bytes) may =
      (may.0, reply_to before may.0, may.1, last_replied before after may.0 may.2.1, reply_keeps law before after may.0 (reply_to before may.0) (replied before after may.0 may.2))
