-- The headline. After any list of commands and interleaved cleaner steps, the versions due, the names restorable and the usage per policy
-- are what a full scan of what is now held gives. An undisturbed finished pass leaves exactly the versions that the scan kept. No open or
-- marked version is ever removed. Every time-tagged read of a held version gives its content as closed.
use Rattle.std.specs.Prelude.{◌≡◌, ◌⊎◌, ℕ, true, List, Ok, Err}
use Rattle.std.specs.List.{AllByRecursion}
use Rattle.ele_content.specs.Content.{content_of}
use Rattle.ele_path.specs.declared.tagged.TaggedPath.{TaggedPath}
use Rattle.ele_headline.specs.OnlyDueLeave.{LeavesAsDue}
use Rattle.ele_headline.specs.RestorableLists.{ListsRestorable}
use Rattle.ele_headline.specs.ScanLists.{ListsDue}
use Rattle.ele_model.specs.declared.event.Event.{Event}
use Rattle.ele_model.specs.declared.event.Event.TheVariants.{CleanOne, Due, Read, Restorable, UsageAll}
use Rattle.ele_model.specs.declared.event.Source.TheVariants.{Of, Tagged}
use Rattle.ele_model.specs.declared.refusal.Refusal.{Refusal}
use Rattle.ele_model.specs.declared.reply.Reply.{Reply}
use Rattle.ele_model.specs.declared.reply.Reply.TheVariants.{Bytes, DueList, Nothing, Refused, RestoreList, UsageList}
use Rattle.ele_model.specs.declared.rows.Reads.TheVariants.{Version}
use Rattle.ele_model.specs.declared.rows.VersionRow.{VersionRow}
use Rattle.ele_model.specs.Bounds.{Bounds, AreBounds}
use Rattle.ele_model.specs.Due.{kept_rows}
use Rattle.ele_model.specs.Restorable.{restorable}
use Rattle.ele_model.specs.Run.{run_of, IsEvent}
use Rattle.ele_model.specs.Scan.{scan}
use Rattle.ele_model.specs.Step.{step}
use Rattle.ele_model.specs.Tagged.{version_at}
use Rattle.ele_model.specs.Usage.{usages}
use Rattle.ele_model.specs.WellFormed.{IsWellFormed}
use Rattle.ele_model.specs.World.{World, fresh_world, is_held, reads_by}

-- a read of the version, by a tag or by a handle, returns the bytes of the row
pub record GivesRow (now : World) (event : Event) (reply : Reply) (row : VersionRow) : Type 0 where
  pub tagged : (tagged : TaggedPath) (held : VersionRow) → event ≡ Read (Tagged tagged) → version_at now tagged ≡ Ok held
      → held.file ≡ row.file → held.number ≡ row.number → reply ≡ Bytes (content_of row.cells)
  pub handle : (handle : ℕ) → event ≡ Read (Of handle) → reads_by now.handles handle ≡ Ok (Version row.file row.number)
      → reply ≡ Bytes (content_of row.cells)

-- A run from any well-formed world. Any events, with cleans anywhere among them, lead to the past world, and any later events to the
-- present world.
module _ (start : World) (events later : List Event) where
  abbrev pub past : World
  past = run_of start events

  abbrev pub present : World
  present = run_of past later

  -- One more event gets the reply, and leaves the world `after`.
  pub record Headline (event : Event) (reply : Reply) (after : World) : Type 0 where
    -- the reply to a question for due versions is the scan: the keys of exactly the versions that are held and due now, each once, in order
    pub due : event ≡ Due → (reply ≡ DueList (scan present)) × ListsDue present
    -- the restorable names are exactly those whose newest row is dead and whose target may have a name again, each once, in order
    pub names : event ≡ Restorable → (reply ≡ RestoreList (restorable present)) × ListsRestorable present
    -- the usage per policy is the sum over all rows held now
    pub usage : event ≡ UsageAll → reply ≡ UsageList (usages present)
    -- a clean that finds nothing due finishes a pass: if only cleans followed the past world, exactly what wasn't due there is left
    pub pass : AllByRecursion (λ clean. clean ≡ CleanOne) later → event ≡ CleanOne → reply ≡ Nothing → after.versions ≡ kept_rows past
    -- each version held now stays held, unless the event is a clean and it was due, no handle read it and no mark held it
    pub leaves : AllByRecursion (λ row. (is_held after row.file row.number ≡ true) ⊎ LeavesAsDue present event row) present.versions
    -- a read of a version that the past world held returns the bytes that it had there, whatever events followed
    pub reads : AllByRecursion (GivesRow present event reply) past.versions
    -- a read by a tag is refused if the version isn't held: no other version's bytes are returned in its place
    pub missing : (tagged : TaggedPath) (refusal : Refusal) → event ≡ Read (Tagged tagged) → version_at present tagged ≡ Err refusal → reply ≡ Refused refusal

-- the reply keeps the headline in each run that leads to the world, from whatever well-formed world and wherever the run is cut in two
abbrev pub KeepsHeadline : World → Event → Reply → World → Type 0
KeepsHeadline w event reply after =
    (start : World) (events later : List Event) → IsWellFormed start → AllByRecursion IsEvent events → AllByRecursion IsEvent later
    → w ≡ present start events later → Headline start events later event reply after

-- this is true of every event
abbrev pub HeadlineHolds : Type 0
HeadlineHolds = (w : World) (event : Event) → KeepsHeadline w event ((step w event).0) ((step w event).1)

-- and so of every run from the fresh world of any limits
abbrev pub HeadlineInFreshRuns : Type 0
HeadlineInFreshRuns =
    (limits : Bounds) (events later : List Event) (event : Event) → AreBounds limits → AllByRecursion IsEvent events → AllByRecursion IsEvent later
    → let start = fresh_world limits in
    let now = present start events later in Headline start events later event ((step now event).0) ((step now event).1)
