-- What is wrong with a word that is to be a path with a tag, a path at a moment, or a source.
use Rattle.std.specs.Prelude.{◌≡◌, ℕ, ◌==◌, Bool, true, false, List, [], ◌∷◌}
use Rattle.ele_moment.specs.Number.{SpellsNumber}
use Rattle.ele_path.specs.TaggedFault.{IsTaggedFault}
use Rattle.ele_path.specs.PathAt.{IsPathAtFault}
use Rattle.ele_path.specs.declared.fault.PathFault.{PathFault}
use Rattle.ele_path.specs.declared.fault.PathAtFault.{PathAtFault}
use Rattle.ele_printer.specs.declared.fault.LineFault.{LineFault}
use Rattle.ele_printer.specs.declared.fault.LineFault.TheVariants.{Syntax}
use Rattle.ele_printer.specs.LineFault.{fault_of_path, fault_of_path_at}

abbrev pub IsTaggedWordFault : List ℕ → LineFault → Type 0
IsTaggedWordFault word fault = (bad : PathFault) × IsTaggedFault word bad × (fault ≡ fault_of_path bad)

abbrev pub IsTimedWordFault : List ℕ → LineFault → Type 0
IsTimedWordFault word fault = (bad : PathAtFault) × IsPathAtFault word bad × (fault ≡ fault_of_path_at bad)

-- the word begins with a slash (47)
abbrev pub begins_path : List ℕ → Bool
begins_path [] = false
begins_path (byte ∷ bytes) = byte == 47

-- the fault of a word that begins with a slash is that of a path with a tag; any other word is no number
pub data IsSourceFault (word : List ℕ) (fault : LineFault) : Type 0 where
  of_tagged : begins_path word ≡ true → IsTaggedWordFault word fault → IsSourceFault word fault
  of_handle : begins_path word ≡ false → ((handle : ℕ) → ¬ SpellsNumber word handle) → fault ≡ Syntax → IsSourceFault word fault
