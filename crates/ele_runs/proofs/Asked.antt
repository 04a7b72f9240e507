-- A line's command, and its answer.
use Rattle.ele_runs.proofs.Basics.{false, ◌≡◌, ℕ, List, length, ◌⊎◌, inl, inr, refl}
use Rattle.std.specs.Prelude.{Some, None}
use Rattle.ele_runs.proofs.Words.{HasRoom, HistoryFull, IsForMemory, IsFull, MayMean, MayPass, Past, Recorded, Said, recorded, trimmed}
use Rattle.ele_printer.specs.declared.fault.LineFault.{LineFault}
use Rattle.ele_script.specs.FirstFault.{IsFirstFault}
use Rattle.ele_script.specs.Spells.{Asks}
use Rattle.ele_script.specs.declared.reading.Line.{Line}
use Rattle.ele_script.specs.declared.reading.Line.TheVariants as asks
use Rattle.ele_script.specs.declared.reading.Question.{Question}
use Rattle.ele_script.specs.declared.reading.Question.TheVariants as question
use Rattle.ele_model.specs.declared.refusal.Stop.TheVariants.{NoMemory}
use Rattle.ele_runs.specs.declared.said.Said.TheVariants.{Nothing, Bad, Stopped, Replied, Passed, History, Trimmed}

-- the answers to a command
abbrev pub MayMeet : Past → Line → Said → Past → Type 0
MayMeet before (asks.Event event) Replied after = HasRoom before × (after ≡ recorded before event)
MayMeet before (asks.Event event) (Stopped HistoryFull) after = IsFull before × (after ≡ before)
MayMeet before (asks.Pass budget) (Passed end) after = MayPass before budget end after
MayMeet before asks.History History after = after ≡ before
MayMeet before asks.Trim (Trimmed count) after = (count ≡ length before.entries) × (after ≡ trimmed before)
MayMeet before asked said after = ⊥

-- an answer to the line's command
pub record Met (before : Past) (line : List ℕ) (said : Said) (after : Past) : Type 0 where
  pub asked : Line
  pub asks : Asks false line asked
  pub met : MayMeet before asked said after

-- or the fault of a line without one
pub record Faulty (before : Past) (line : List ℕ) (said : Said) (after : Past) : Type 0 where
  pub fault : LineFault
  pub first : IsFirstFault false line fault
  pub said_is : said ≡ Bad fault
  pub stays : after ≡ before

-- a plain run has no questions
pub never_asked : (line : List ℕ) (asked : Question) → Asks false line (asks.Question asked) → ⊥
never_asked line (question.Why tagged) is = absurd (let never = is.allowed in cc)
never_asked line (question.Changes first second None) is = absurd (let never = is.allowed in cc)
never_asked line (question.Changes first second (Some path)) is = absurd (let never = is.allowed in cc)
never_asked line asked is = absurd (let never = is.allowed in cc)

-- an answer that is no stop for memory is one of these
pub met_or_faulty : (before : Past) (line : List ℕ) (said : Said) (after : Past)
    → MayMean false (Recorded before) line said (Recorded after) → ¬ IsForMemory said → Met before line said after ⊎ Faulty before line said after
met_or_faulty before line Nothing after may p = absurd may
met_or_faulty before line (Bad fault) after may p = inr (record { fault = fault; first = may.0; said_is = refl; stays = may.1 })
met_or_faulty before line Replied after may p = inl (record { asked = asks.Event may.0; asks = may.1; met = may.2 })
met_or_faulty before line (Stopped HistoryFull) after may p = inl (record { asked = asks.Event may.0; asks = may.1; met = (may.2, may.3) })
met_or_faulty before line (Stopped NoMemory) after may p = absurd (p tt)
met_or_faulty before line (Passed end) after may p = inl (record { asked = asks.Pass may.0; asks = may.1; met = may.2 })
met_or_faulty before line History after may p = inl (record { asked = asks.History; asks = may.0; met = may.2 })
met_or_faulty before line (Trimmed count) after may p = inl (record { asked = asks.Trim; asks = may.0; met = may.1 })
met_or_faulty before line said after may p = absurd (never_asked line may.0 may.1)
