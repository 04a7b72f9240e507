-- What a store answers to each call, and the state after it.
use Rattle.std.specs.Prelude.{◌≡◌, ℕ, Bool, true, false, List, None, Result, Ok, Err}
use Rattle.ele_core.specs.Copies.{Copies}
use Rattle.ele_embed.specs.Embedding.{Embedding, State, Plain, past_in, world_in}
use Rattle.ele_files.specs.declared.files.reading.Copied.{Copied}
use Rattle.ele_model.specs.World.{World}
use Rattle.ele_model.specs.declared.event.Event.{Event}
use Rattle.ele_model.specs.declared.event.Source.{Source}
use Rattle.ele_model.specs.declared.refusal.Refusal.{Refusal}
use Rattle.ele_path.specs.declared.tagged.TaggedPath.{TaggedPath}
use Rattle.ele_printer.specs.declared.fault.LineFault.{LineFault}
use Rattle.ele_runs.specs.Kept.{has_past}
pub use Rattle.ele_runs.specs.Kept.{Passes}
use Rattle.ele_runs.specs.Said.{Explains, Records, Trims}
use Rattle.ele_runs.specs.declared.said.Said.{Said}
use Rattle.ele_runs.specs.declared.said.Said.TheVariants.{Bad}
use Rattle.ele_script.specs.declared.reading.Question.TheVariants as question

-- an event was applied, or there was a fault in its place, which leaves the store
abbrev pub Runs : State → Result Event LineFault → Said → State → Type 0
Runs before (Ok event) said after = Records before event said after
Runs before (Err fault) said after = (said ≡ Bad fault) × (after ≡ before)

-- the bytes of a read were copied from the offset on, or it is refused, and nothing was written
abbrev pub CopiesRead : State → Source → ℕ → List ℕ → List ℕ → Result Copied Refusal → Type 0
CopiesRead state source offset old new told = Copies (world_in state) source offset old new told

-- the answer says why a version is held or due, and which mark held one that is due, or is the fault in place of the path; memory may stop
-- it only if the version is due
abbrev pub TellsWhy : World → Result TaggedPath LineFault → Said → Type 0
TellsWhy w (Ok tagged) said = Explains (Plain w None) (question.Why tagged) said
TellsWhy w (Err fault) said = said ≡ Bad fault

-- the answer has the keys that will be due, or is the fault in place of the moment; memory may stop it only if it takes some
abbrev pub TellsAhead : World → Result ℕ LineFault → Said → Type 0
TellsAhead w (Ok moment) said = Explains (Plain w None) (question.Ahead moment) said
TellsAhead w (Err fault) said = said ≡ Bad fault

-- the history was folded, or there is none and nothing changed
abbrev pub FoldsOrNot : Embedding → Bool → Embedding → Type 0
FoldsOrNot before true after = (has_past before.state ≡ true) × Trims before.state after.said after.state × (after.answer ≡ before.answer)
FoldsOrNot before false after = (past_in before.state ≡ None) × (after ≡ before)
