-- What is recovered from a journal in which one byte was changed.
use Rattle.std.specs.Prelude.{◌≡◌, ℕ, ◌-◌, ◌<◌, ◌≤◌, nat_lt, List, [], ◌∷◌, ◌++◌, length, Some, Result, Ok, Err, if◌then◌else◌}
use Rattle.ele_model.specs.declared.event.Event.{Event}
use Rattle.ele_model.specs.declared.flat.Flat.{Flat}
use Rattle.ele_journal.specs.declared.fault.Damage.{Damage}
use Rattle.ele_journal.specs.declared.fault.Damage.TheVariants as damages
use Rattle.ele_journal.specs.declared.fault.Fault.TheVariants as faults
use Rattle.ele_journal.specs.declared.fault.RecoverError.{RecoverError}
use Rattle.ele_journal.specs.declared.fault.RecoverError.TheVariants as errors
use Rattle.ele_journal.specs.declared.recovery.Recovered.{Recovered}
use Rattle.ele_journal.specs.Journal.{journal, start}

-- a text and bytes that differ at one place
pub record IsChangedAt (place : ℕ) (text bytes : List ℕ) : Type 0 where
  pub front : List ℕ
  pub back : List ℕ
  pub was : ℕ
  pub is : ℕ
  pub before : text ≡ front ++ was ∷ back
  pub after : bytes ≡ front ++ is ∷ back
  pub at : length front ≡ place
  pub byte : was < 256
  pub other : was ≡ is → ⊥

-- the check that covers a place of a change: that of its length has its first twelve bytes
abbrev pub damage_at : ℕ → Damage
damage_at place = if nat_lt place 12 then damages.Length else damages.Check

-- exactly the changes before the one that the place lies in, which is damaged
pub record IsUpTo (flat : Flat) (changes : List (List Event)) (place : ℕ) (r : Recovered) : Type 0 where
  pub world : r.flat ≡ flat
  pub change : List Event
  pub others : List (List Event)
  pub front : r.changes ++ change ∷ others ≡ changes
  pub from : r.whole ≤ place
  pub within : place < length (journal flat (r.changes ++ change ∷ []))
  pub fault : r.fault ≡ Some (faults.Damaged (damage_at (place - r.whole)))

-- a place before the changes gets an error, by where it lies: in the head, in the length of the checkpoint, or in the checkpoint
abbrev pub IsNoticed : Flat → List (List Event) → ℕ → Result Recovered RecoverError → Type 0
IsNoticed flat changes place (Ok r) = IsUpTo flat changes place r
IsNoticed flat changes place (Err errors.NoMemory) = Unit {0}
IsNoticed flat changes place (Err errors.Head) = place < 17
IsNoticed flat changes place (Err errors.Cut) = (17 ≤ place) × (place < 25)
IsNoticed flat changes place (Err (errors.Checkpoint fault)) = (17 ≤ place) × (place < length (start flat))
