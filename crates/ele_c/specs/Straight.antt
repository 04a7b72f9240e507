-- Reads straight into the caller's buffer.
use Rattle.std.specs.Prelude.{◌≡◌, ℕ, ℤ, pos, List, Option, Some, None, Result, Ok, Err}
use Rattle.ele_c_values.specs.Copies.{CopiesAsked}
use Rattle.ele_embed.specs.Embedding.{Embedding}
use Rattle.ele_files.specs.declared.files.reading.Copied.{Copied}
use Rattle.ele_model.specs.declared.event.Source.{Source}
use Rattle.ele_printer.specs.declared.fault.LineFault.{LineFault}

-- the length of the content and the number of copied bytes are given; or the call returns a code, and nothing is written
abbrev pub TellsCopied : Result Copied ℤ → ℤ → ℕ × ℕ → ℕ × ℕ → Type 0
TellsCopied (Ok copied) code before after = (code ≡ pos 0) × (after ≡ (copied.length, copied.count))
TellsCopied (Err why) code before after = (code ≡ why) × (after ≡ before)

-- a read of an open store, which stays as it is, or of a closed one
abbrev pub Reads : Result Source LineFault → ℕ → Option Embedding → ℤ → Option Embedding → List ℕ → List ℕ → ℕ × ℕ → ℕ × ℕ → Type 0
Reads asked offset None code after old new before told = (code ≡ pos 64) × (after ≡ None) × (new ≡ old) × (told ≡ before)
Reads asked offset (Some store) code after old new before told =
    (found : Result Copied ℤ) × (after ≡ Some store) × CopiesAsked store.state asked offset old new found × TellsCopied found code before told

-- a call read what its arguments ask for
pub record ReadsInto (asks : Result Source LineFault → Type 0) (offset : ℕ) (before : Option Embedding) (code : ℤ) (after : Option Embedding) (old new : List ℕ) (told told' : ℕ × ℕ) : Type 0 where
  pub asked : Result Source LineFault
  pub is : asks asked
  pub reads : Reads asked offset before code after old new told told'
