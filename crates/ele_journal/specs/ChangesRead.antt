-- How changes are read, step by step. No public clause cites this module.
use Rattle.std.specs.Prelude.{◌≡◌, ℕ, ◌+◌, ◌<◌, ◌≤◌, ◌^◌, List, [], ◌∷◌, ◌++◌, length, take, drop, Option, Some, Ok}
use Rattle.std.specs.List.{AllByRecursion}
use Rattle.ele_model.specs.declared.event.Event.{Event}
use Rattle.ele_journal.specs.declared.fault.End.{End}
use Rattle.ele_journal.specs.declared.fault.End.TheVariants as ends
use Rattle.ele_journal.specs.declared.fault.Fault.{Fault}
use Rattle.ele_journal.specs.Changes.{after_change, change_text, changes_text, check_of, events_text, last_check, linked}
use Rattle.ele_journal.specs.EventsRead.{events_at}
use Rattle.ele_model.specs.declared.flat.Flat.{Flat}
use Rattle.ele_checkpoint.specs.Checkpoint.{checkpoint}
use Rattle.ele_checkpoint.specs.Fits.{IsFlat}
use Rattle.ele_journal.specs.declared.recovery.Recovered.{Recovered}
use Rattle.ele_journal.specs.Journal.{first_check, journal}
use Rattle.ele_journal.specs.Recovered.{IsEnd}

-- after the check at the front of the bytes follow so many others and their check, from which the next bytes begin
pub record Links (bytes : List ℕ) (size : ℕ) (body next : List ℕ) : Type 0 where
  pub sized : length body ≡ size
  pub text : drop 4 bytes ≡ linked (take 4 bytes) body ++ drop 4 next
  pub check : take 4 next ≡ check_of (take 4 bytes ++ body)
  pub long : 4 ≤ length next
  pub less : length next + size + 4 ≡ length bytes

-- a change as it was read
pub record IsReadChange (change : List Event) : Type 0 where
  pub read : events_at (events_text change) ≡ Ok change
  pub small : length (events_text change) < 2 ^ 64

-- after the check at the front of the bytes follow these changes, from whose last check the rest begins
pub record Reads (bytes : List ℕ) (changes : List (List Event)) (rest : List ℕ) : Type 0 where
  pub read : AllByRecursion IsReadChange changes
  pub text : drop 4 bytes ≡ changes_text (take 4 bytes) changes ++ drop 4 rest
  pub check : take 4 rest ≡ last_check (take 4 bytes) changes
  pub long : 4 ≤ length rest
  pub less : length rest ≤ length bytes

-- the same of one change
pub record IsNext (bytes : List ℕ) (change : List Event) (next : List ℕ) : Type 0 where
  pub read : IsReadChange change
  pub text : drop 4 bytes ≡ change_text (take 4 bytes) change ++ drop 4 next
  pub check : take 4 next ≡ after_change (take 4 bytes) change
  pub long : 4 ≤ length next
  pub less : length next < length bytes

-- why no change follows the check at the front of the bytes
abbrev pub IsStopped : List ℕ → End → Type 0
IsStopped bytes ends.Memory = Unit {0}
IsStopped bytes (ends.At fault) = IsEnd (take 4 bytes) (drop 4 bytes) (Some fault)

-- the changes that were found, and what follows them
pub record IsFound (bytes : List ℕ) (changes : List (List Event)) (rest : List ℕ) (fault : Option Fault) : Type 0 where
  pub reads : Reads bytes changes rest
  pub end : IsEnd (take 4 rest) (drop 4 rest) fault

-- what was recovered, and how it was read
pub record IsInside (bytes : List ℕ) (r : Recovered) : Type 0 where
  pub rest : List ℕ
  pub text : bytes ≡ journal r.flat r.changes ++ rest
  pub whole : r.whole ≡ length (journal r.flat r.changes)
  pub check : r.check ≡ last_check (first_check r.flat) r.changes
  pub read : AllByRecursion IsReadChange r.changes
  pub end : IsEnd r.check rest r.fault
  pub fits : length (checkpoint r.flat) < 2 ^ 64
  pub only : (flat : Flat) → IsFlat flat → checkpoint r.flat ≡ checkpoint flat → r.flat ≡ flat
  pub alone : (flat : Flat) (after more : List ℕ) → IsFlat flat → checkpoint r.flat ++ after ≡ checkpoint flat ++ more → r.flat ≡ flat
