-- The answer to a line, and its block.
use Rattle.ele_runs.proofs.Basics.{◌≡◌, ◌≢◌, ℕ, ◌≤◌, ◌+◌, Bool, true, false, List, [], ◌∷◌, length, Option, Some, None, Result, Ok, Err, ◌⊎◌, inl, inr, refl, sym, ap, subst, arith, nat_tests, ◌++◌, ◌-◌, ◌∙◌, length-append, slice_get}
use Rattle.std.specs.Option.{option_map}
use Rattle.std.specs.Prelude.{◌&&◌, if◌then◌else◌, IsErr, ◌<◌}
use Rattle.ele_runs.proofs.Words.{RunState, Outlet, Outputs, Puts, IsNoted, recorded, MayAnswer, MayMean, IsTold, IsTextIn, front_of, heard, noting, Past, PutsBlock, reply_to}
use Rattle.ele_model.specs.declared.entry.Entry.{Entry}
use Rattle.ele_model.specs.declared.event.Event.{Event}
use Rattle.ele_model.specs.declared.refusal.Stop.{Stop}
use Rattle.ele_model.specs.declared.refusal.Stop.TheVariants.{NoMemory, HistoryFull}
use Rattle.ele_script.specs.Memory.{TakesMemory}
use Rattle.ele_script.specs.Spells.{Asks}
use Rattle.ele_script.specs.Words.{words_of}
use Rattle.ele_script.specs.FirstFault.{IsFirstFault}
use Rattle.ele_printer.specs.declared.fault.LineFault.{LineFault}
use Rattle.ele_printer.specs.declared.fault.LineFault.TheVariants as fault
use Rattle.ele_script.specs.declared.reading.Line.TheVariants as asks
use Rattle.ele_script.specs.declared.reading.Question.{Question}
use Rattle.ele_runs.specs.Block.{cut_count}
use Rattle.ele_runs.specs.Kept.{Kept, Plain, Recorded, Journaled, Stays, has_past, last_reply}
use Rattle.ele_runs.specs.Said.{Explains, HearsKept, IsFault, NeedsPast, Records, Trims, as_history, as_question, as_trim, has_no_reply, said_front, to_answer, to_read, to_tell, to_trim}
use Rattle.ele_run_options.specs.declared.options.RunOptions.{RunOptions}
use Rattle.ele_runs.specs.RunState.{counted}
use Rattle.ele_runs.proofs.Notes.{noted_good}
use Rattle.ele_runs.proofs.Outcomes.{answer_outcome}
use Rattle.ele_runs.specs.declared.said.Said.{Said}
use Rattle.ele_runs.specs.declared.said.Said.TheVariants.{Nothing, Bad, Stopped, Replied, Passed, History, Trimmed}
use Rattle.ele_output.proofs.Known.{puts_no_more, puts_then}
use Rattle.ele_runs.specs.Told.{cut_told}
use Rattle.ele_runs.specs.Written.{AsksEventIn, HearsNext, IsEventText, WritesLast, end_by, event_said, number_front}
use Rattle.ele_runs.specs.declared.end.RunEnd.{RunEnd}
use Rattle.ele_runs.specs.declared.tally.Outcome.{Outcome}

-- the last entry of a list that has one more
last_is : (entries : List Entry) (entry : Entry) → slice_get (entries ++ entry ∷ []) (length (entries ++ entry ∷ []) - 1) ≡ Some entry
last_is [] entry = refl
last_is (first ∷ entries) entry = grind (arith, nat_tests, last_is entries entry, length-append)

-- the reply to an event is that of the last entry
pub last_replied : (before after : Past) (event : Event) → after ≡ recorded before event → last_reply after ≡ Some (reply_to before event)
last_replied before after event done =
    let entry : Entry = record { event = event; reply = reply_to before event } in
    let last : slice_get after.entries (length after.entries - 1) ≡ Some entry = rw done (last_is before.entries entry) in
    ap (λ (last : Option Entry). option_map (λ (entry : Entry). entry.reply) last) last

-- what is kept stays
pub stays : (kept : Kept) → Stays kept kept
stays (Plain w last) = refl
stays (Recorded past) = refl
stays (Journaled kept journal) = (stays kept, refl)

-- a line's first fault is its fault
first_fault : {explains : Bool} (kept : Kept) (line : List ℕ) (why : LineFault) → IsFirstFault explains line why → IsFault explains kept line why
first_fault (Plain w last) line why first = inl first
first_fault (Recorded past) line why first = first
first_fault (Journaled kept journal) line why first = first_fault kept line why first

-- and so is a command that needs a history, without one
fault_of_past : {explains : Bool} (kept : Kept) (line : List ℕ) (why : LineFault) → why ≡ fault.Syntax → has_past kept ≡ false → NeedsPast explains line → IsFault explains kept line why
fault_of_past (Plain w last) line why is none needs = inr (is, needs)
fault_of_past (Recorded past) line why is none needs = absurd (let never = none in cc)
fault_of_past (Journaled kept journal) line why is none needs = fault_of_past kept line why is none needs

-- the answer to a line, by its command
pub hears_event : {explains : Bool} (before after : Kept) (line : List ℕ) (event : Event) (said : Said) → Asks explains line (asks.Event event) → Records before event said after → MayMean explains before line said after
hears_event before after line event Replied asked done = (event, asked, done)
hears_event before after line event (Stopped NoMemory) asked done = (to_answer event asked done.0, done.1)
hears_event before after line event (Stopped HistoryFull) asked done = (event, asked, done.0, done.1)
hears_event before after line event said asked done = absurd done

pub hears_trim : {explains : Bool} (before after : Kept) (line : List ℕ) (said : Said) → Asks explains line asks.Trim → Trims before said after → MayMean explains before line said after
hears_trim before after line (Trimmed count) asked trims = (asked, trims)
hears_trim before after line (Stopped NoMemory) asked trims = (to_trim asked trims.1, trims.2)
hears_trim before after line (Stopped HistoryFull) asked trims = absurd (let never = trims.0 in cc)
hears_trim before after line (Bad why) asked trims = (fault_of_past before line why trims.0 trims.1 (as_trim asked), trims.2)
hears_trim before after line said asked trims = absurd trims

pub hears_history : {explains : Bool} (kept : Kept) (line : List ℕ) → Asks explains line asks.History → has_past kept ≡ true → MayMean explains kept line History kept
hears_history kept line asked has = (asked, has, stays kept)

pub hears_no_history : {explains : Bool} (kept : Kept) (line : List ℕ) → Asks explains line asks.History → has_past kept ≡ false → MayMean explains kept line (Bad fault.Syntax) kept
hears_no_history kept line asked none = (fault_of_past kept line fault.Syntax refl none (as_history asked), stays kept)

pub hears_question : {explains : Bool} (kept : Kept) (line : List ℕ) (asked : Question) (said : Said) → Asks explains line (asks.Question asked) → Explains kept asked said → MayMean explains kept line said kept
hears_question kept line asked (Stopped NoMemory) is says = (to_tell asked is says.1, stays kept)
hears_question kept line asked (Stopped HistoryFull) is says = absurd (let never = says.0 in cc)
hears_question kept line asked (Bad why) is says = (fault_of_past kept line why says.0 says.1 (as_question asked is says.2), stays kept)
hears_question kept line asked Nothing is says = absurd says
hears_question kept line asked Replied is says = absurd says
hears_question kept line asked (Passed end) is says = absurd says
hears_question kept line asked History is says = absurd says
hears_question kept line asked (Trimmed count) is says = absurd says
hears_question kept line asked said is says = (asked, is, says, stays kept)

-- a line that wasn't read
pub hears_fault : {explains : Bool} (kept : Kept) (line : List ℕ) (why : LineFault) → (why ≡ fault.NoMemory) ⊎ IsFirstFault explains line why → why ≢ fault.NoMemory → MayMean explains kept line (Bad why) kept
hears_fault kept line why (inl memory) other = absurd (other memory)
hears_fault kept line why (inr first) other = (first_fault kept line why first, stays kept)

pub hears_memory : {explains : Bool} (kept : Kept) (line : List ℕ) → TakesMemory explains (words_of line) → MayMean explains kept line (Stopped NoMemory) kept
hears_memory kept line takes = (to_read takes, stays kept)

-- the line that is run, by whether it is skipped
abbrev pick : Bool → Option (List ℕ) → Option (List ℕ)
pick test line = if test then Some [] else line

never : (test : Bool) → (test && false) ≡ false
never true = refl
never false = refl

long_heard : (options : RunOptions) → heard options None ≡ None
long_heard options = ap (λ (test : Bool). pick test None) (never options.remarks)

-- a line without an answer, and one with an answer
heard_none : (options : RunOptions) (line : List ℕ) → has_no_reply options line ≡ true → heard options (Some line) ≡ Some []
heard_none options [] is = ap (λ (test : Bool). pick test (Some [])) (never options.remarks)
heard_none options (byte ∷ bytes) is = ap (λ (test : Bool). pick test (Some (byte ∷ bytes))) is

heard_all : (options : RunOptions) (byte : ℕ) (bytes : List ℕ) → has_no_reply options (byte ∷ bytes) ≡ false → heard options (Some (byte ∷ bytes)) ≡ Some (byte ∷ bytes)
heard_all options byte bytes is = ap (λ (test : Bool). pick test (Some (byte ∷ bytes))) is

-- the answer to a line, by the line that is run
as_heard : (options : RunOptions) (before after : Kept) (line is : Option (List ℕ)) (said : Said) → heard options line ≡ is → MayAnswer options.explain before is said after
    → ((number : ℕ) → said_front options number said ≡ front_of options number is) → HearsKept options before line said after
as_heard options before after line is said same may front = record {
  may = subst (λ (l : Option (List ℕ)). MayAnswer options.explain before l said after) (sym same) may;
  front = λ number. front number ∙ ap (front_of options number) (sym same);
}

front_is : (options : RunOptions) (before after : Kept) (byte : ℕ) (bytes : List ℕ) (said : Said) → MayMean options.explain before (byte ∷ bytes) said after → (number : ℕ) → said_front options number said ≡ front_of options number (Some (byte ∷ bytes))
front_is options before after byte bytes Nothing means number = absurd means
front_is options before after byte bytes said means number = refl

pub kept_heard : (options : RunOptions) (before after : Kept) (line : List ℕ) (said : Said) → has_no_reply options line ≡ false → MayMean options.explain before line said after → HearsKept options before (Some line) said after
kept_heard options before after [] said is means = absurd cc
kept_heard options before after (byte ∷ bytes) said is means =
    as_heard options before after (Some (byte ∷ bytes)) (Some (byte ∷ bytes)) said (heard_all options byte bytes is) means (front_is options before after byte bytes said means)

-- a line that is skipped
pub kept_silent : (options : RunOptions) (kept : Kept) (line : List ℕ) → has_no_reply options line ≡ true → HearsKept options kept (Some line) Nothing kept
kept_silent options kept line is = as_heard options kept kept (Some line) (Some []) Nothing (heard_none options line is) (refl, stays kept) (λ number. refl)

-- a line that is too long
pub kept_long : (options : RunOptions) (kept : Kept) → HearsKept options kept None (Bad fault.LineTooLong) kept
kept_long options kept = as_heard options kept kept None None (Bad fault.LineTooLong) (long_heard options) (refl, stays kept) (λ number. refl)

-- a line that asks for an event
pub event_heard : (options : RunOptions) (before after : Kept) (line : Option (List ℕ)) (event : Event) (stop : Option Stop) → AsksEventIn options line event
    → Records before event (event_said stop) after → HearsKept options before line (event_said stop) after
event_heard options before after None event stop asked done = absurd asked
event_heard options before after (Some line) event stop asked done =
    kept_heard options before after line (event_said stop) asked.0 (hears_event before after line event (event_said stop) asked.1 done)

-- the reason beside the answer, for each text of it
abbrev Notes : RunState → Option (List ℕ) → Said → Outlet → Outlet → Type 0
Notes after line said old new = (text : List ℕ) → IsTextIn after.past said text → IsNoted after.options after.number line text old new

-- the text for the next line
told_next : (before after : RunState) (line : Option (List ℕ)) (said : Said) (text : List ℕ) (old new : Outlet) → before.ended ≡ false → HearsNext before line said after
    → Notes after line said old new → IsTextIn after.past said text → IsTold (noting before old) line (said_front after.options after.number said ++ text) (noting after new)
told_next before after line said text old new on hears noted is =
    let options : after.options ≡ before.options = ap (λ (s : RunState). s.options) hears.after_is in
    let number : after.number ≡ before.number + 1 = ap (λ (s : RunState). s.number) hears.after_is in
    record {
      block = text;
      past = after.past;
      notes = new;
      goes_on = on;
      is = (said, hears.kept.may, is);
      told_is = ap (λ (w : List ℕ). w ++ text) (ap (λ (m : RunOptions). said_front m after.number said) options ∙ ap (λ (n : ℕ). said_front before.options n said) number ∙ hears.kept.front (before.number + 1));
      noted = subst (λ (n : ℕ). IsNoted before.options n line text old new) number (subst (λ (m : RunOptions). IsNoted m after.number line text old new) options (noted text is));
      after_is = ap (λ (s : RunState). noting s new) hears.after_is
          ∙ ap (λ (o : Outcome). counted (noting before old) after.past line o new) (sym (answer_outcome (last_reply after.past) after.past.folded after.past.entries said text is));
    }

-- the line's number and the text were put
put_here : (before after : RunState) (line : Option (List ℕ)) (said : Said) (old new : Outlet) (a b c : Outlet) → before.ended ≡ false → HearsNext before line said after
    → Notes after line said old new → Puts a b (said_front after.options after.number said) → (text : List ℕ) × IsTextIn after.past said text × Puts b c text
    → PutsBlock (noting before old) line (noting after new) a c
put_here before after line said old new a b c on hears noted front told = record {
  block = said_front after.options after.number said ++ told.0;
  is = told_next before after line said told.0 old new on hears noted told.1;
  put = puts_then front told.2;
}

pub block_put : (before after view : RunState) (line : Option (List ℕ)) (said : Said) (old new : Outlet) (a b c : Outlet) → view ≡ after → before.ended ≡ false → HearsNext before line said after
    → Notes after line said old new → Puts a b (said_front view.options view.number said) → (text : List ℕ) × IsTextIn view.past said text × Puts b c text
    → PutsBlock (noting before old) line (noting after new) a c
block_put before after view line said old new a b c is on hears noted front told =
    subst (λ (run_state : RunState). PutsBlock (noting before old) line (noting run_state new) a c) is
    (put_here before view line said old new a b c on (subst (λ (run_state : RunState). HearsNext before line said run_state) (sym is) hears) (subst (λ (run_state : RunState). Notes run_state line said old new) (sym is) noted) front told)

-- the same for an event, beside which no reason is printed
pub event_put : (before after view : RunState) (line : Option (List ℕ)) (stop : Option Stop) (notes : Outlet) (a b c : Outlet) → view ≡ after → before.ended ≡ false → HearsNext before line (event_said stop) after
    → Puts a b (number_front view.options view.number) → (text : List ℕ) × IsEventText (last_reply view.past) stop text × Puts b c text
    → PutsBlock (noting before notes) line (noting after notes) a c
event_put before after view line None notes a b c is on hears front told =
    block_put before after view line Replied notes notes a b c is on hears (noted_good after.options after.number line after.past Replied notes notes tt refl) front told
event_put before after view line (Some stop) notes a b c is on hears front told =
    block_put before after view line (Stopped stop) notes notes a b c is on hears (noted_good after.options after.number line after.past (Stopped stop) notes notes tt refl) front told

-- the writer failed at the text for a last line
pub finishes_err : {E : Type 0} (run_state : RunState) (buffer : Option (List ℕ)) (a b c : Outlet) (r : Result RunEnd E) → IsErr r → Puts a b (cut_told run_state buffer) → Outputs b c [] → WritesLast run_state buffer a c r
finishes_err run_state buffer a b c (Ok x) is p q = absurd cc
finishes_err run_state buffer a b c (Err x) is p q = (tt, puts_no_more p q)

-- a last line that isn't empty ends a strict run
pub ends_at_cut : (run_state : RunState) (buffer : Option (List ℕ)) (count : ℕ) → count ≡ cut_count buffer → 0 < count → run_state.options.strict ≡ true
    → Some (record { line = buffer; is_cut = true }) ≡ end_by run_state buffer
ends_at_cut run_state None count is some strict = rw strict refl
ends_at_cut run_state (Some []) count is some strict = absurd (omega (arith, is, some))
ends_at_cut run_state (Some (byte ∷ bytes)) count is some strict = rw strict refl

pub no_end_at : (run_state : RunState) (buffer : Option (List ℕ)) (count : ℕ) → count ≡ cut_count buffer → (run_state.options.strict ≡ false) ⊎ (count ≤ 0) → None ≡ end_by run_state buffer
no_end_at run_state (Some []) count is either = refl
no_end_at run_state None count is (inl loose) = rw loose refl
no_end_at run_state None count is (inr none) = absurd (omega (arith, is, none))
no_end_at run_state (Some (byte ∷ bytes)) count is (inl loose) = rw loose refl
no_end_at run_state (Some (byte ∷ bytes)) count is (inr none) = absurd (omega (arith, is, none))
