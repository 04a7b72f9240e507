-- The answer to a line, before it is printed, and the text of it.
use Rattle.std.specs.Prelude.{◌≡◌, ◌≢◌, ◌⊎◌, ℕ, ◌≤◌, ◌==◌, Bool, true, false, ◌&&◌, List, [], ◌∷◌, ◌++◌, decimal, Option, Some, None, Result, Ok, Err, if◌then◌else◌}
use Rattle.ele_audit.specs.AuditText.{IsAnswersText, gone_text, handles_text, why_gone_text, why_held_text}
use Rattle.ele_audit.specs.Held.{MeansDue, MeansHeld, hold_at}
use Rattle.ele_audit.specs.Open.{AreOpen}
use Rattle.ele_audit.specs.Removals.{AreRemoved, HasRemovals, IsRemovedVersion, MayBeRemoved, removals}
use Rattle.ele_audit.specs.Story.{IsStory}
use Rattle.ele_audit.specs.StoryText.{story_text}
use Rattle.ele_audit.specs.declared.row.Removed.{Removed}
use Rattle.ele_change_text.specs.ChangeText.{changes_text}
use Rattle.ele_change_paths.specs.PathChanges.{IsDifference}
use Rattle.ele_changes.specs.declared.change.Span.{Span}
use Rattle.ele_history.specs.Past.{Past, world_of}
use Rattle.ele_model.specs.Change.{Time, after_change}
use Rattle.ele_model.specs.Scan.{scan}
use Rattle.ele_model.specs.Why.{IsAhead, IsWhy, MeansFate}
use Rattle.ele_model.specs.World.{World}
use Rattle.ele_model.specs.declared.entry.Entry.{Entry}
use Rattle.ele_model.specs.declared.event.Event.{Event}
use Rattle.ele_model.specs.declared.fate.Fate.{Fate}
use Rattle.ele_model.specs.declared.pass.PassEnd.TheVariants.{Stopped as PassStopped}
use Rattle.ele_model.specs.declared.refusal.Refusal.{Refusal}
use Rattle.ele_model.specs.declared.refusal.Refusal.TheVariants.{Forgotten}
use Rattle.ele_model.specs.declared.refusal.Stop.TheVariants.{NoMemory, HistoryFull}
use Rattle.ele_model.specs.declared.reply.Reply.{Reply}
use Rattle.ele_path.specs.declared.tagged.TaggedPath.{TaggedPath}
use Rattle.ele_printer.specs.HistoryText.{history_text, trimmed_text}
use Rattle.ele_printer.specs.Printed.{IsReplyText, bad_text, pass_text, stop_text}
use Rattle.ele_printer.specs.Why.{ahead_text, why_text}
use Rattle.ele_printer.specs.declared.fault.LineFault.{LineFault}
use Rattle.ele_printer.specs.declared.fault.LineFault.TheVariants.{Syntax, LineTooLong}
use Rattle.ele_removals.specs.Expiring.{IsExpiring}
use Rattle.ele_removals.specs.ExpiringText.{expiring_text}
use Rattle.ele_removals.specs.RemovalText.{removals_text}
use Rattle.ele_removals.specs.Removals.{AreTold}
use Rattle.ele_run_options.specs.RunOptions.{front_of, heard}
use Rattle.ele_run_options.specs.declared.options.RunOptions.{RunOptions}
use Rattle.ele_runs.specs.Kept.{Kept, Plain, Recorded, Journaled, Answered, Folds, HasEntries, Passes, Stays, StopsEvent, bare, has_past, world_in}
use Rattle.ele_runs.specs.declared.said.Said.{Said}
use Rattle.ele_runs.specs.declared.said.Said.TheVariants.{Nothing, Bad, Stopped, Replied, Passed, History, Trimmed, Why, WhyHeld, WhyRemoved, Ahead, Gone, Handles, Answers, Story, Removals, Changes, Expiring}
use Rattle.ele_script.specs.FirstFault.{IsFirstFault}
use Rattle.ele_script.specs.Memory.{TakesMemory}
use Rattle.ele_script.specs.Spells.{Asks}
use Rattle.ele_script.specs.Words.{words_of}
use Rattle.ele_script.specs.declared.reading.Line.TheVariants as asks
use Rattle.ele_script.specs.declared.reading.Question.{Question}
use Rattle.ele_script.specs.declared.reading.Question.TheVariants as question

-- ---- questions: what answers them, and which take memory

-- if the refusal is Forgotten, no stored entry removed the version
abbrev pub NoneRemoved : Past → TaggedPath → Result Fate Refusal → Type 0
NoneRemoved past tagged (Err (Forgotten number)) = IsRemovedVersion past tagged None
NoneRemoved past tagged told = Unit {0}

-- no mark held the version, if it is due, after its policy had let it go
abbrev pub NoneHeld : World → TaggedPath → Result Fate Refusal → Type 0
NoneHeld w tagged (Ok fate) = hold_at w tagged fate ≡ None
NoneHeld w tagged (Err refusal) = Unit {0}

-- `why` is answered by the fate of a held version, or by the refusal
pub record IsWhyNow (past : Past) (tagged : TaggedPath) (told : Result Fate Refusal) : Type 0 where
  pub why : IsWhy (world_of past) tagged told
  pub none : NoneRemoved past tagged told
  pub held : NoneHeld (world_of past) tagged told

-- or, for a version that is no longer held, by the stored entry that removed it
pub record IsWhyRemoved (past : Past) (tagged : TaggedPath) (row : Removed) : Type 0 where
  pub number : Option ℕ
  pub why : IsWhy (world_of past) tagged (Err (Forgotten number))
  pub removed : IsRemovedVersion past tagged (Some row)

-- the keys that will be due at a moment take memory: it hasn't passed, and some version is due by then
abbrev pub TakesKeys : World → ℕ → Type 0
TakesKeys w moment = (w.now ≤ moment) × (scan (after_change w (Time moment)) ≢ [])

-- two moments
abbrev pub span_of : (first second : ℕ) → Span
span_of first second = record { first = first; second = second }

-- a question may take memory. With a history: `why` if a stored entry removed a version with that number, `gone` and `removals` after a removal,
-- `handles` while one is open. With one or without: `why` of a version that is due, `ahead` and `expiring`, and any `story` or `changes`
abbrev pub MayTake : Kept → Question → Type 0
MayTake (Recorded past) (question.Why tagged) = MayBeRemoved past tagged.tag ⊎ MeansDue (world_of past) tagged
MayTake (Plain w last) (question.Why tagged) = MeansDue w tagged
MayTake (Recorded past) (question.Ahead moment) = TakesKeys (world_of past) moment
MayTake (Recorded past) question.Gone = HasRemovals past
MayTake (Recorded past) question.Removals = HasRemovals past
MayTake (Recorded past) question.Handles = (world_of past).handles ≢ []
MayTake (Plain w last) (question.Ahead moment) = TakesKeys w moment
MayTake kept (question.Story path) = Unit {0}
MayTake kept (question.Changes first second within) = Unit {0}
MayTake kept (question.Expiring moment) = TakesKeys (world_in kept) moment
MayTake kept asked = ⊥

-- the answer to a question; a core alone answers only some
abbrev pub Says : Said → Kept → Question → Type 0
Says (Why told) (Recorded past) (question.Why tagged) = IsWhyNow past tagged told
Says (Why told) (Plain w last) (question.Why tagged) = IsWhy w tagged told × NoneHeld w tagged told
Says (WhyHeld fate hold) kept (question.Why tagged) = MeansHeld (world_in kept) tagged fate hold
Says (WhyRemoved row) (Recorded past) (question.Why tagged) = IsWhyRemoved past tagged row
Says (Ahead told) kept (question.Ahead moment) = IsAhead (world_in kept) moment told
Says (Gone rows) (Recorded past) question.Gone = AreRemoved past rows.items
Says (Handles handles) (Recorded past) question.Handles = AreOpen past handles.items
Says Answers (Recorded past) question.Answers = Unit {0}
Says (Story told) (Recorded past) (question.Story path) = IsStory (removals past.base past.entries) (world_of past) path told
Says (Story told) (Plain w last) (question.Story path) = IsStory [] w path told
Says (Removals rows) (Recorded past) question.Removals = AreTold past rows.items
Says (Changes told) kept (question.Changes first second within) = IsDifference (world_in kept) (span_of first second) within told
Says (Expiring told) kept (question.Expiring moment) = IsExpiring (world_in kept) moment told
Says said kept asked = ⊥

-- a question that only a history answers
abbrev pub IsOfPast : Question → Type 0
IsOfPast (question.Why tagged) = ⊥
IsOfPast (question.Ahead moment) = ⊥
IsOfPast (question.Story path) = ⊥
IsOfPast (question.Changes first second within) = ⊥
IsOfPast (question.Expiring moment) = ⊥
IsOfPast asked = Unit {0}

-- ---- lines

-- a command that only a history answers
pub data NeedsPast (explains : Bool) (line : List ℕ) : Type 0 where
  as_history : Asks explains line asks.History → NeedsPast explains line
  as_trim : Asks explains line asks.Trim → NeedsPast explains line
  as_question : (asked : Question) → Asks explains line (asks.Question asked) → IsOfPast asked → NeedsPast explains line

-- the fault of a line: its first one. Without a history a command that needs one is a fault too
abbrev pub IsFault : Bool → Kept → List ℕ → LineFault → Type 0
IsFault explains (Recorded past) line fault = IsFirstFault explains line fault
IsFault explains (Plain w last) line fault = IsFirstFault explains line fault ⊎ ((fault ≡ Syntax) × NeedsPast explains line)
IsFault explains (Journaled kept journal) line fault = IsFault explains kept line fault

-- a line may need memory: to be read, for its event, its trim or its question
pub data LineTakesMemory (explains : Bool) (before : Kept) (line : List ℕ) : Type 0 where
  to_read : TakesMemory explains (words_of line) → LineTakesMemory explains before line
  to_answer : (event : Event) → Asks explains line (asks.Event event) → StopsEvent before event NoMemory → LineTakesMemory explains before line
  to_trim : Asks explains line asks.Trim → HasEntries before → LineTakesMemory explains before line
  to_tell : (asked : Question) → Asks explains line (asks.Question asked) → MayTake (bare before) asked → LineTakesMemory explains before line

-- the answer to the line's question, which changes nothing
abbrev pub MaySay : Bool → Kept → List ℕ → Said → Kept → Type 0
MaySay explains before line said after = (asked : Question) × Asks explains line (asks.Question asked) × Says said (bare before) asked × Stays before after

-- the answer to a line that isn't empty: its first fault, the reply to its event, the end of its pass, the history, or the number
-- of entries that its trim folds. In a run that explains, also the answer to a question. A line that needs memory may be stopped
-- instead
abbrev pub MayMean : Bool → Kept → List ℕ → Said → Kept → Type 0
MayMean explains before line Nothing after = ⊥
MayMean explains before line (Bad fault) after = IsFault explains before line fault × Stays before after
MayMean explains before line Replied after = (event : Event) × Asks explains line (asks.Event event) × Answered before event after
MayMean explains before line (Stopped HistoryFull) after =
    (event : Event) × Asks explains line (asks.Event event) × StopsEvent before event HistoryFull × Stays before after
MayMean explains before line (Stopped NoMemory) after = LineTakesMemory explains before line × Stays before after
MayMean explains before line (Passed end) after = (budget : ℕ) × Asks explains line (asks.Pass budget) × Passes before budget end after
MayMean explains before line History after = Asks explains line asks.History × (has_past before ≡ true) × Stays before after
MayMean explains before line (Trimmed count) after = Asks explains line asks.Trim × Folds before count after
MayMean explains before line said after = MaySay explains before line said after

-- the answer to a line as it is kept: none to an empty one, and a fault to one that is too long
abbrev pub MayAnswer : Bool → Kept → Option (List ℕ) → Said → Kept → Type 0
MayAnswer explains before None said after = (said ≡ Bad LineTooLong) × Stays before after
MayAnswer explains before (Some []) said after = (said ≡ Nothing) × Stays before after
MayAnswer explains before (Some (byte ∷ bytes)) said after = MayMean explains before (byte ∷ bytes) said after

-- memory stopped it
abbrev pub IsForMemory : Said → Type 0
IsForMemory (Stopped NoMemory) = Unit {0}
IsForMemory (Passed (PassStopped NoMemory removed)) = Unit {0}
IsForMemory said = ⊥

-- ---- texts

-- the text of the reply, if there is one
abbrev pub IsLastText : Option Reply → List ℕ → Type 0
IsLastText None text = text ≡ []
IsLastText (Some reply) text = IsReplyText reply text

-- the text of each answer, with the last reply, and the entries of the history after so many that were folded
abbrev pub IsText : Option Reply → ℕ → List Entry → Said → List ℕ → Type 0
IsText last folded entries Nothing text = text ≡ []
IsText last folded entries (Bad fault) text = text ≡ bad_text fault
IsText last folded entries Replied text = IsLastText last text
IsText last folded entries (Stopped stop) text = text ≡ stop_text stop
IsText last folded entries (Passed end) text = text ≡ pass_text end
IsText last folded entries History text = text ≡ history_text folded entries
IsText last folded entries (Trimmed count) text = text ≡ trimmed_text count
IsText last folded entries (Why told) text = text ≡ why_text told
IsText last folded entries (WhyHeld fate hold) text = text ≡ why_held_text fate hold
IsText last folded entries (WhyRemoved row) text = text ≡ why_gone_text row
IsText last folded entries (Ahead told) text = text ≡ ahead_text told
IsText last folded entries (Gone rows) text = text ≡ gone_text folded rows.items
IsText last folded entries (Handles handles) text = text ≡ handles_text handles.items
IsText last folded entries Answers text = IsAnswersText folded entries text
IsText last folded entries (Story told) text = text ≡ story_text told
IsText last folded entries (Removals rows) text = text ≡ removals_text folded rows.items
IsText last folded entries (Changes told) text = text ≡ changes_text told
IsText last folded entries (Expiring told) text = text ≡ expiring_text told

-- the bytes before the answer
abbrev pub said_front : RunOptions → ℕ → Said → List ℕ
said_front options number Nothing = []
said_front options number said = if options.numbers then decimal number ++ 32 ∷ [] else []

-- the answer to a line as it is kept, under the options of a run
pub record HearsKept (options : RunOptions) (before : Kept) (line : Option (List ℕ)) (said : Said) (after : Kept) : Type 0 where
  pub may : MayAnswer options.explain before (heard options line) said after
  pub front : (number : ℕ) → said_front options number said ≡ front_of options number (heard options line)

-- an empty line has no answer, nor has a remark if remarks are allowed
abbrev pub has_no_reply : RunOptions → List ℕ → Bool
has_no_reply options [] = true
has_no_reply options (byte ∷ bytes) = options.remarks && (byte == 35)

-- ---- calls

-- the answer to an event: its reply, or a stop
abbrev pub Records : Kept → Event → Said → Kept → Type 0
Records before event Replied after = Answered before event after
Records before event (Stopped stop) after = StopsEvent before event stop × Stays before after
Records before event said after = ⊥

-- the answer to a trim: the history was folded, or memory was refused, or there is no history
abbrev pub Trims : Kept → Said → Kept → Type 0
Trims before (Trimmed count) after = Folds before count after
Trims before (Stopped stop) after = (stop ≡ NoMemory) × HasEntries before × Stays before after
Trims before (Bad fault) after = (fault ≡ Syntax) × (has_past before ≡ false) × Stays before after
Trims before said after = ⊥

-- the answer to a question; memory may stop it, and some need a history
abbrev pub Explains : Kept → Question → Said → Type 0
Explains kept asked (Stopped stop) = (stop ≡ NoMemory) × MayTake (bare kept) asked
Explains kept asked (Bad fault) = (fault ≡ Syntax) × (has_past kept ≡ false) × IsOfPast asked
Explains kept asked said = Says said (bare kept) asked

-- the fate of a version, with the mark that held it after its policy had let it go; memory may stop it only if the version is due
abbrev pub SaysFate : World → TaggedPath → Said → Type 0
SaysFate w tagged (Why (Ok fate)) = MeansFate w tagged fate × (hold_at w tagged fate ≡ None)
SaysFate w tagged (WhyHeld fate hold) = MeansHeld w tagged fate hold
SaysFate w tagged (Stopped stop) = (stop ≡ NoMemory) × MeansDue w tagged
SaysFate w tagged said = ⊥

-- the keys that will be due at a moment; memory may stop that only if the moment hasn't passed, and there is one
abbrev pub SaysAhead : World → ℕ → Said → Type 0
SaysAhead w moment (Ahead told) = IsAhead w moment told
SaysAhead w moment (Stopped stop) = (stop ≡ NoMemory) × TakesKeys w moment
SaysAhead w moment said = ⊥

-- what changed between the moments; memory may stop it
abbrev pub SaysChanges : World → (first second : ℕ) → Option (List (List ℕ)) → Said → Type 0
SaysChanges w first second within (Changes told) = IsDifference w (span_of first second) within told
SaysChanges w first second within (Stopped stop) = stop ≡ NoMemory
SaysChanges w first second within said = ⊥

-- the versions that will be due at a moment, with names; memory may stop that as it may stop `ahead`
abbrev pub SaysExpiring : World → ℕ → Said → Type 0
SaysExpiring w moment (Expiring told) = IsExpiring w moment told
SaysExpiring w moment (Stopped stop) = (stop ≡ NoMemory) × TakesKeys w moment
SaysExpiring w moment said = ⊥
