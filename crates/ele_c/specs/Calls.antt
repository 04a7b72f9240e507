-- What a call on a handle does.
use Rattle.std.specs.Prelude.{◌≡◌, ◌≢◌, ◌⊎◌, ℕ, ℤ, pos, Bool, true, false, List, [], length, Option, Some, None, Result, Ok, Err, if◌then◌else◌}
use Rattle.ele_c_values.specs.Asks.{Finds, IsTagged, IsTaggedFault, TakesPath, moment_of}
use Rattle.ele_c_values.specs.Codes.{code_of, number_of}
use Rattle.ele_c_values.specs.Copies.{CopiesFound}
use Rattle.ele_c_values.specs.Limits.{IsLimits}
use Rattle.ele_c_values.specs.declared.limits.LimitFields.{LimitFields}
use Rattle.ele_embed.specs.Embedding.{Embedding, fresh_plain, fresh_recorded, world_in}
use Rattle.ele_embed.specs.Hears.{Hears}
use Rattle.ele_embed.specs.Takes.{FoldsOrNot, Passes, Runs, TellsAhead, TellsWhy}
use Rattle.ele_embed.specs.Text.{IsLong, IsTold}
use Rattle.ele_model.specs.Bounds.{Bounds}
use Rattle.ele_model.specs.declared.event.Event.{Event}
use Rattle.ele_model.specs.declared.pass.PassEnd.{PassEnd}
use Rattle.ele_path.specs.declared.tagged.TaggedPath.{TaggedPath}
use Rattle.ele_printer.specs.declared.fault.LineFault.{LineFault}
use Rattle.ele_runs.specs.declared.said.Said.{Said}
use Rattle.ele_runs.specs.declared.said.Said.TheVariants.{Passed}

-- a closed handle returns 64 and stays closed; an open one stays open, and its store changes in this way
abbrev pub Calls : Option Embedding → (Embedding → Embedding → Type 0) → ℤ → Option Embedding → Type 0
Calls None does code after = (code ≡ pos 64) × (after ≡ None)
Calls (Some before) does code after = (store : Embedding) × (after ≡ Some store) × does before store

-- the event was run, and the code is that of its result
pub record Ran (asked : Result Event LineFault) (code : ℤ) (before after : Embedding) : Type 0 where
  pub runs : Runs before.state asked after.said after.state
  pub answer : after.answer ≡ before.answer
  pub code_is : code ≡ pos (code_of after)

-- a call ran what its arguments ask for
pub record RunsOn (asks : Result Event LineFault → Type 0) (before : Option Embedding) (code : ℤ) (after : Option Embedding) : Type 0 where
  pub asked : Result Event LineFault
  pub is : asks asked
  pub ran : Calls before (Ran asked code) code after

-- the store's value is given if the code is 0, and else nothing is written
abbrev pub Gives : {X : Type 0} → (Embedding → X) → ℤ → Option Embedding → X → X → Type 0
Gives tells code None old new = new ≡ old
Gives tells code (Some store) old new = (code ≡ pos 0 → new ≡ tells store) × (code ≢ pos 0 → new ≡ old)

abbrev pub GivesNumber : ℤ → Option Embedding → ℕ → ℕ → Type 0
GivesNumber = Gives number_of

-- a call that only looks at the store: it gives a row, or it returns a code, and then nothing is written
abbrev pub ShowsRow : {X : Type 0} → Result X ℤ → ℤ → X → X → Type 0
ShowsRow (Ok row) code old new = (code ≡ pos 0) × (new ≡ row)
ShowsRow (Err why) code old new = (code ≡ why) × (new ≡ old)

abbrev pub Shows : {X : Type 0} → (Embedding → Result X ℤ) → Option Embedding → ℤ → Option Embedding → X → X → Type 0
Shows row None code after old new = (code ≡ pos 64) × (after ≡ None) × (new ≡ old)
Shows row (Some store) code after old new = (after ≡ Some store) × ShowsRow (row store) code old new

-- a call that only looks and copies bytes, whole or from an offset on
abbrev pub ShowsFound : (Embedding → Result (List ℕ) ℤ) → Bool → ℕ → Option Embedding → ℤ → Option Embedding → List ℕ → List ℕ → ℕ → ℕ → Type 0
ShowsFound bytes whole offset None code after old new before count = (code ≡ pos 64) × (after ≡ None) × (count ≡ before) × (new ≡ old)
ShowsFound bytes whole offset (Some store) code after old new before count =
    (after ≡ Some store) × CopiesFound (bytes store) whole offset old new before count code

-- a line was run, and its text made, unless it has no room in the buffer of a printer and memory for it is refused
abbrev pub TellsText : ℤ → Embedding → ℕ → ℕ → Type 0
TellsText code after old new =
    ((code ≡ pos 0) × IsTold after.state after.said after.answer × (new ≡ length after.answer))
    ⊎ ((code ≡ pos 71) × IsLong after.state after.said × (after.answer ≡ []) × (new ≡ old))

abbrev pub RunsLine : List ℕ → Option Embedding → ℤ → Option Embedding → ℕ → ℕ → Type 0
RunsLine line None code after old new = (code ≡ pos 64) × (after ≡ None) × (new ≡ old)
RunsLine line (Some before) code after old new =
    (store : Embedding) × (after ≡ Some store) × Hears before.state line store.said store.state × TellsText code store old new

abbrev pub TellsAgain : Option Embedding → ℤ → Option Embedding → ℕ → ℕ → Type 0
TellsAgain None code after old new = (code ≡ pos 64) × (after ≡ None) × (new ≡ old)
TellsAgain (Some before) code after old new =
    (store : Embedding) × (after ≡ Some store) × (store.state ≡ before.state) × (store.said ≡ before.said) × TellsText code store old new

-- the question was answered, and changed nothing
pub record ToldWhy (asked : Result TaggedPath LineFault) (code : ℤ) (before after : Embedding) : Type 0 where
  pub tells : TellsWhy (world_in before.state) asked after.said
  pub state : after.state ≡ before.state
  pub answer : after.answer ≡ before.answer
  pub code_is : code ≡ pos (code_of after)

pub record ToldAhead (moment : ℕ) (code : ℤ) (before after : Embedding) : Type 0 where
  pub tells : TellsAhead (world_in before.state) (moment_of moment) after.said
  pub state : after.state ≡ before.state
  pub answer : after.answer ≡ before.answer
  pub code_is : code ≡ pos (code_of after)

-- a pass was made
pub record MadePass (budget : ℕ) (code : ℤ) (before after : Embedding) : Type 0 where
  pub end : PassEnd
  pub passes : Passes before.state budget end after.state
  pub said : after.said ≡ Passed end
  pub answer : after.answer ≡ before.answer
  pub code_is : code ≡ pos (code_of after)

-- the history was folded; 67 if there is none, which changes nothing
abbrev pub FoldedIf : Bool → ℤ → Embedding → Embedding → Type 0
FoldedIf true code before after = FoldsOrNot before true after × (code ≡ pos (code_of after))
FoldedIf false code before after = FoldsOrNot before false after × (code ≡ pos 67)

abbrev pub Folded : ℤ → Embedding → Embedding → Type 0
Folded code before after = (has : Bool) × FoldedIf has code before after

-- the handle was asked why a version is held
pub record WhyOn (path : List ℕ) (kind number : ℕ) (before : Option Embedding) (code : ℤ) (after : Option Embedding) : Type 0 where
  pub asked : Result TaggedPath LineFault
  pub is : Finds (IsTagged path kind number) (IsTaggedFault path kind number) (TakesPath path) asked
  pub told : Calls before (ToldWhy asked code) code after

-- a store was opened; 66 if the limits are too large; 65, whatever they are, if it is open, which leaves it
abbrev pub OpensFresh : Option Bounds → Bool → ℤ → Option Embedding → Type 0
OpensFresh None history code after = (code ≡ pos 66) × (after ≡ None)
OpensFresh (Some limits) history code after =
    ((code ≡ pos 0) × (after ≡ Some (if history then fresh_recorded limits else fresh_plain limits))) ⊎ ((code ≡ pos 1) × (after ≡ None))

abbrev pub Opens : Option Bounds → Bool → Option Embedding → ℤ → Option Embedding → Type 0
Opens limits history None code after = OpensFresh limits history code after
Opens limits history (Some store) code after = (code ≡ pos 65) × (after ≡ Some store)

-- a store was opened with these limits
pub record OpensWith (given : LimitFields) (history : Bool) (before : Option Embedding) (code : ℤ) (after : Option Embedding) : Type 0 where
  pub limits : Option Bounds
  pub are : IsLimits given limits
  pub opens : Opens limits history before code after
