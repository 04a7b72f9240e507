-- The events of the rounds of a storm's workers.
use Rattle.std.specs.Prelude.{◌≡◌, ℕ, zero, suc, ◌+◌, ◌%◌, List, [], ◌∷◌, ◌++◌, codes, decimal}
use Rattle.std.specs.Int.{to_be_bytes, w64}
use Rattle.ele_path.specs.declared.tagged.Tag.TheVariants.{Now, Number}
use Rattle.ele_path.specs.declared.tagged.TaggedPath.{TaggedPath}
use Rattle.ele_path.specs.declared.tagged.Tag.{Tag}
use Rattle.ele_model.specs.declared.entry.Entry.{Entry}
use Rattle.ele_model.specs.declared.event.Event.{Event}
use Rattle.ele_model.specs.declared.event.Event.TheVariants.{Tick, OpenWrite, Write, Close, Stat, Read, CleanOne}
use Rattle.ele_model.specs.declared.event.Source.TheVariants.{Tagged}
use Rattle.ele_model.specs.declared.reply.Reply.{Reply}
use Rattle.ele_model.specs.declared.reply.Reply.TheVariants as reply
use Rattle.ele_history.specs.Past.{events_of}
use Rattle.ele_storm_plan.specs.declared.plan.Task.{Task}
use Rattle.ele_storm_plan.specs.declared.plan.Task.TheVariants.{Writer, Historian, Cleaner}

-- the path of a writer's file
abbrev pub file_of : ℕ → List (List ℕ)
file_of writer = (codes "w" ++ decimal writer) ∷ []

abbrev pub tagged : List (List ℕ) → Tag → TaggedPath
tagged path tag = record { path = path; tag = tag }

-- a writer writes the round's number into its file, through this handle
abbrev pub writes : ℕ → ℕ → ℕ → List Event
writes writer round handle =
    Tick 1 ∷ OpenWrite (file_of writer) ∷ Write handle 0 (to_be_bytes w64 round) ∷ Close handle ∷ []

-- a historian asks for a writer's file, and reads its first version
abbrev pub looks : ℕ → ℕ → List Event
looks writer handle = Stat (tagged (file_of writer) Now) ∷ Read (Tagged (tagged (file_of writer) (Number 1))) ∷ []

-- the events of a round among so many writers; historians look at the files in turn
abbrev pub round_events : ℕ → Task → ℕ → ℕ → List Event
round_events writers (Writer writer) round handle = writes writer round handle
round_events writers (Historian historian) round handle = looks (1 + (historian + round) % writers) handle
round_events writers Cleaner round handle = CleanOne ∷ []

-- the handle in a reply, or 0 if it has none
abbrev pub handle_in : Reply → ℕ
handle_in (reply.Handle handle) = handle
handle_in _ = 0

-- the handle in the second entry, with which a writer's round opens its file
abbrev pub handle_of : List Entry → ℕ
handle_of (first ∷ second ∷ entries) = handle_in second.reply
handle_of _ = 0

-- the entries are of these events, through the handle that one of them opened
abbrev pub AreOf : (ℕ → List Event) → List Entry → Type 0
AreOf events entries = events_of entries ≡ events (handle_of entries)

-- the entries are of so many rounds in a row, which are numbered from 0 on
abbrev pub AreRounds : ℕ → Task → ℕ → List Entry → Type 0
AreRounds writers task zero entries = entries ≡ []
AreRounds writers task (suc round) entries =
    (before last : List Entry) × (entries ≡ before ++ last) × AreRounds writers task round before × AreOf (round_events writers task round) last

-- how many events a round has
abbrev pub round_size : Task → ℕ
round_size (Writer writer) = 4
round_size (Historian historian) = 2
round_size Cleaner = 1
