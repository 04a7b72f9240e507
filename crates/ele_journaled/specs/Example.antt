-- A store by hand. It was begun fresh; a directory was made, which is in the file; then the clock went forward by five seconds, which isn't.
use Rattle.std.specs.Prelude.{◌≡◌, ℕ, List, [], ◌∷◌, ◌++◌, None}
use Rattle.ele_policy.specs.declared.policy.Policy.TheVariants.{Safe}
use Rattle.ele_model.specs.declared.event.Event.{Event}
use Rattle.ele_model.specs.declared.event.Event.TheVariants.{Due, MakeDir, Tick}
use Rattle.ele_model.specs.declared.rows.Target.TheVariants.{Directory}
use Rattle.ele_model.specs.Bounds.{largest_bounds}
use Rattle.ele_model.specs.Step.{step}
use Rattle.ele_model.specs.World.{World, fresh_world}
use Rattle.ele_journal.specs.Changes.{after_change, change_text}
use Rattle.ele_journal.specs.Journal.{first_check, start}
use Rattle.ele_journaled.specs.JournalState.{JournalState, extending, idle, answering, settling}
use Rattle.ele_journaled.specs.Keeps.{Keeps}

abbrev pub begun_world : World
begun_world = fresh_world largest_bounds

-- the path /a is made
abbrev pub making : Event
making = MakeDir ((97 ∷ []) ∷ [])

abbrev pub ticking : Event
ticking = Tick 5

-- the check after the directory
abbrev pub check_then : List ℕ
check_then = after_change (first_check begun_world) (making ∷ [])

abbrev pub kept_file : List ℕ
kept_file = start begun_world ++ change_text (first_check begun_world) (making ∷ [])

abbrev pub kept_world : World
kept_world = record begun_world {
  now = 5;
  directories = record { id = 0; default = Safe 86400 0 } ∷ record { id = 1; default = Safe 86400 0 } ∷ [];
  names = record { directory = 0; name = 97 ∷ []; target = Directory 1; birth = 0; death = None } ∷ [];
  made = record { files = 0; directories = 1; names = 1; versions = 0; handles = 0; groups = 0; members = 0; marks = 0 };
}

abbrev pub kept_state : JournalState
kept_state = record { check = check_then; change = ticking ∷ []; offer = None }

-- what its file gets now
abbrev pub next_bytes : List ℕ
next_bytes = change_text check_then (ticking ∷ [])

pub record IsExample : Type 0 where
  pub kept : Keeps kept_file kept_world kept_state
  -- the name is there already, so the event is refused and adds nothing
  pub refused : ((step kept_world making).1 ≡ kept_world) × (answering kept_state making ((step kept_world making).0) ≡ kept_state)
  pub asked : answering kept_state Due ((step kept_world Due).0) ≡ kept_state
  -- once the bytes are on the disk, nothing is under way
  pub after : settling (extending kept_state) ≡ idle (after_change check_then (ticking ∷ []))
  pub longer : Keeps (kept_file ++ next_bytes) kept_world (settling (extending kept_state))
