-- What is recovered from bytes, whatever they are.
use Rattle.std.specs.Prelude.{◌≡◌, ℕ, ◌+◌, ◌<◌, ◌≤◌, ◌^◌, ◌⊎◌, List, [], ◌∷◌, ◌++◌, length, take, drop, Option, Some, None, Result, Ok, Err}
use Rattle.std.specs.Int.{w64, to_be_bytes}
use Rattle.std.specs.List.{AllByRecursion}
use Rattle.ele_model.specs.declared.event.Event.{Event}
use Rattle.ele_model.specs.declared.flat.Flat.{Flat}
use Rattle.ele_journal.specs.declared.fault.Damage.{Damage}
use Rattle.ele_journal.specs.declared.fault.Damage.TheVariants as damages
use Rattle.ele_journal.specs.declared.fault.Fault.{Fault}
use Rattle.ele_journal.specs.declared.fault.Fault.TheVariants as faults
use Rattle.ele_journal.specs.declared.fault.RecoverError.{RecoverError}
use Rattle.ele_journal.specs.declared.fault.RecoverError.TheVariants as errors
use Rattle.ele_journal.specs.declared.recovery.Recovered.{Recovered}
use Rattle.ele_journal.specs.Changes.{IsChange, IsEncodable, change_text, changes_text, check_of, events_text, last_check, linked}
use Rattle.ele_checkpoint.specs.Checkpoint.{checkpoint}
use Rattle.ele_checkpoint.specs.Fits.{IsFlat}
use Rattle.ele_journal.specs.Journal.{first_check, framed, head, journal}

-- bytes that end within a change: before the check of its length, or before the end that its length gives
pub record IsTorn (before rest : List ℕ) : Type 0 where
  pub some : 0 < length rest
  pub short : (length rest < 12) ⊎ ((size : ℕ) × (size < 2 ^ 64) × (take 12 rest ≡ linked before (to_be_bytes w64 size)) × (length rest < size + 16))

-- one of both is the front of the other
abbrev pub Agree : List ℕ → List ℕ → Type 0
Agree bytes text = ((after : List ℕ) × (bytes ≡ text ++ after)) ⊎ ((more : List ℕ) × (bytes ++ more ≡ text))

-- no change and these bytes begin alike
abbrev pub IsNone : List ℕ → List ℕ → Type 0
IsNone before rest = (change : List Event) → IsChange change → Agree rest (change_text before change) → ⊥

-- bytes after a length with its check
abbrev pub sized : List ℕ → ℕ → List ℕ → List ℕ
sized before size after = linked before (to_be_bytes w64 size) ++ after

-- the check of that length
abbrev pub check_of_size : List ℕ → ℕ → List ℕ
check_of_size before size = check_of (before ++ to_be_bytes w64 size)

-- bytes of a right length, with their check, are no events
pub record AreNoEvents (before rest : List ℕ) : Type 0 where
  pub body : List ℕ
  pub after : List ℕ
  pub text : rest ≡ sized before (length body) (linked (check_of_size before (length body)) body ++ after)
  pub none : (change : List Event) → IsChange change → body ≡ events_text change → ⊥

-- the check of so many bytes is another
pub record IsMischecked (before rest : List ℕ) : Type 0 where
  pub size : ℕ
  pub after : List ℕ
  pub text : rest ≡ sized before size after
  pub long : size + 4 ≤ length after
  pub none : (body more : List ℕ) → length body ≡ size → after ≡ linked (check_of_size before size) body ++ more → ⊥

-- what is wrong: the check of the length, or that of the events, or what it covers
abbrev pub IsDamage : List ℕ → List ℕ → Damage → Type 0
IsDamage before rest damages.Length = (12 ≤ length rest) × ((size : ℕ) (after : List ℕ) → rest ≡ sized before size after → ⊥)
IsDamage before rest damages.Check = IsMischecked before rest
IsDamage before rest damages.Events = AreNoEvents before rest

-- what follows the whole changes: nothing, the front of a change, or bytes that no change begins with
abbrev pub IsEnd : List ℕ → List ℕ → Option Fault → Type 0
IsEnd before rest None = rest ≡ []
IsEnd before rest (Some faults.Cut) = IsTorn before rest
IsEnd before rest (Some (faults.Damaged damage)) = IsNone before rest × IsDamage before rest damage

-- what is recovered: a world and changes, whose journal is the first bytes, and what follows them
pub record IsRecovered (bytes : List ℕ) (r : Recovered) : Type 0 where
  pub front : take r.whole bytes ≡ journal r.flat r.changes
  pub whole : r.whole ≡ length (journal r.flat r.changes)
  pub within : r.whole ≤ length bytes
  pub encodable : AllByRecursion IsEncodable r.changes
  pub check : r.check ≡ last_check (first_check r.flat) r.changes
  pub end : IsEnd r.check (drop r.whole bytes) r.fault

-- the bytes end there or within a change, and nothing is damaged
abbrev pub IsCutAt : ℕ → ℕ → Option Fault → Type 0
IsCutAt whole n None = whole ≡ n
IsCutAt whole n (Some faults.Cut) = whole < n
IsCutAt whole n (Some (faults.Damaged damage)) = ⊥

-- of a journal that was cut to so many bytes, the world and exactly the changes that are whole, unless memory was refused
pub record IsKept (flat : Flat) (changes : List (List Event)) (n : ℕ) (r : Recovered) : Type 0 where
  pub world : r.flat ≡ flat
  pub others : List (List Event)
  pub front : r.changes ++ others ≡ changes
  pub no_more : (next : List Event) (last : List (List Event)) → others ≡ next ∷ last → n < length (journal flat (r.changes ++ next ∷ []))
  pub rest : IsCutAt r.whole n r.fault

abbrev pub IsCutWithin : Flat → List (List Event) → ℕ → Result Recovered RecoverError → Type 0
IsCutWithin flat changes n (Ok r) = IsKept flat changes n r
IsCutWithin flat changes n (Err errors.NoMemory) = Unit {0}
IsCutWithin flat changes n (Err error) = ⊥

-- the world and all changes, with nothing after them, unless memory was refused
abbrev pub IsAll : Flat → List (List Event) → Result Recovered RecoverError → Type 0
IsAll flat changes (Ok r) = (r.flat ≡ flat) × (r.changes ≡ changes) × (r.fault ≡ None)
IsAll flat changes (Err errors.NoMemory) = Unit {0}
IsAll flat changes (Err error) = ⊥

-- the checkpoint is cut off
abbrev pub IsShort : Result Recovered RecoverError → Type 0
IsShort (Ok r) = ⊥
IsShort (Err error) = error ≡ errors.Cut

-- the bytes of a length, or those that it is the length of, aren't all there
abbrev pub IsShortOf : List ℕ → Type 0
IsShortOf rest = (length rest < 8) ⊎ ((size : ℕ) × (after : List ℕ) × (size < 2 ^ 64) × (rest ≡ to_be_bytes w64 size ++ after) × (length after < size))

-- bytes of the right length, which are no world's
pub record IsNoWorld (bytes : List ℕ) : Type 0 where
  pub body : List ℕ
  pub after : List ℕ
  pub text : bytes ≡ framed body ++ after
  pub none : (flat : Flat) → IsFlat flat → body ≡ checkpoint flat → ⊥

-- the bytes end within the head, within the length of the checkpoint, or before the end that it gives
abbrev pub IsCutOff : List ℕ → Type 0
IsCutOff bytes = (length bytes < 17) ⊎ ((rest : List ℕ) × (bytes ≡ head ++ rest) × IsShortOf rest)

-- why nothing is recovered, unless memory was refused
abbrev pub IsUnread : List ℕ → RecoverError → Type 0
IsUnread bytes errors.NoMemory = Unit {0}
IsUnread bytes errors.Cut = IsCutOff bytes
IsUnread bytes errors.Head = (17 ≤ length bytes) × ((rest : List ℕ) → bytes ≡ head ++ rest → ⊥)
IsUnread bytes (errors.Checkpoint fault) = IsNoWorld bytes
