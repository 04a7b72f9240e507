-- The bytes of a journal: how it begins, a checkpoint, and the changes since.
use Rattle.std.specs.Prelude.{ℕ, ◌<◌, ◌^◌, List, [], ◌∷◌, ◌++◌, length, codes}
use Rattle.std.specs.Int.{w64, to_be_bytes}
use Rattle.ele_model.specs.declared.event.Event.{Event}
use Rattle.ele_model.specs.declared.flat.Flat.{Flat}
use Rattle.ele_checkpoint.specs.Checkpoint.{checkpoint, measured}
use Rattle.ele_checkpoint.specs.Checkpoint.{head as checkpoint_head}
use Rattle.ele_checkpoint.specs.Fits.{IsFlat}
use Rattle.ele_checkpoint.specs.Whole.{whole_text}
use Rattle.ele_journal.specs.Changes.{changes_text, check_of}

-- how each journal begins: its name, and version 2 of the form. Version 1 was of lines of text
abbrev pub head : List ℕ
head = codes "ELEPHANT JOURNAL" ++ 2 ∷ []

-- bytes after the head and their length
abbrev pub framed : List ℕ → List ℕ
framed bytes = head ++ to_be_bytes w64 (length bytes) ++ bytes

-- a journal without changes
abbrev pub start : Flat → List ℕ
start flat = framed (checkpoint flat)

-- the check that the first change follows: the sum at the end of the checkpoint
abbrev pub first_check : Flat → List ℕ
first_check flat = check_of (measured (checkpoint_head ++ whole_text flat))

-- a journal
abbrev pub journal : Flat → List (List Event) → List ℕ
journal flat changes = start flat ++ changes_text (first_check flat) changes

-- a world, as the types and the memory let it be
pub record IsBase (flat : Flat) : Type 0 where
  pub world : IsFlat flat
  pub fits : length (checkpoint flat) < 2 ^ 64
