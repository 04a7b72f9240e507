-- Copies into the caller's buffer.
use Rattle.std.specs.Prelude.{◌≡◌, ℕ, ℤ, pos, List, take, drop, length, nat_le, Bool, true, false, Result, Ok, Err}
use Rattle.ele_embed.specs.Embedding.{State}
use Rattle.ele_embed.specs.Takes.{CopiesRead}
use Rattle.ele_files.specs.declared.files.reading.Copied.{Copied}
use Rattle.ele_model.specs.Answers.{refusal_number}
use Rattle.ele_model.specs.declared.event.Source.{Source}
use Rattle.ele_model.specs.declared.refusal.Refusal.{Refusal}
use Rattle.ele_printer.specs.LineFault.{fault_number}
use Rattle.ele_printer.specs.declared.fault.LineFault.{LineFault}

-- so many bytes from the offset on were copied to the start, all or as many as fit, and nothing else was written
pub record CopiesPiece (bytes : List ℕ) (offset : ℕ) (old new : List ℕ) (count : ℕ) : Type 0 where
  pub many : count ≡ length (take (length old) (drop offset bytes))
  pub copied : take count new ≡ take (length old) (drop offset bytes)
  pub rest : drop count new ≡ drop count old

-- whether bytes have room, if they are wanted whole
abbrev pub has_room : Bool → List ℕ → List ℕ → Bool
has_room true bytes old = nat_le (length bytes) (length old)
has_room false bytes old = true

abbrev pub CopiesIf : Bool → List ℕ → ℕ → List ℕ → List ℕ → ℕ → ℕ → ℤ → Type 0
CopiesIf true bytes offset old new before count code = (code ≡ pos 0) × CopiesPiece bytes offset old new count
CopiesIf false bytes offset old new before count code = (code ≡ pos 70) × (count ≡ before) × (new ≡ old)

-- a piece of the bytes is copied, or there is a code, and nothing is written
abbrev pub CopiesFound : Result (List ℕ) ℤ → Bool → ℕ → List ℕ → List ℕ → ℕ → ℕ → ℤ → Type 0
CopiesFound (Ok bytes) whole offset old new before count code = CopiesIf (has_room whole bytes old) bytes offset old new before count code
CopiesFound (Err why) whole offset old new before count code = (code ≡ why) × (count ≡ before) × (new ≡ old)

-- bytes were copied; or the result is the number of the refusal or the fault, and nothing was written
abbrev pub CopiesAsked : State → Result Source LineFault → ℕ → List ℕ → List ℕ → Result Copied ℤ → Type 0
CopiesAsked state (Ok source) offset old new (Ok copied) = CopiesRead state source offset old new (Ok copied)
CopiesAsked state (Ok source) offset old new (Err code) =
    (refusal : Refusal) × (code ≡ pos (refusal_number refusal)) × CopiesRead state source offset old new (Err refusal)
CopiesAsked state (Err fault) offset old new (Ok copied) = ⊥
CopiesAsked state (Err fault) offset old new (Err code) = (code ≡ pos (fault_number fault)) × (new ≡ old)
