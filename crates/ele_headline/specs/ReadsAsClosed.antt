-- A read of a held version returns the bytes that it had when it closed, whatever was written, renamed, reverted or cleaned since.
use Rattle.std.specs.Prelude.{◌≡◌, ℕ, List, Ok}
use Rattle.std.specs.List.{AllByRecursion}
use Rattle.ele_content.specs.Content.{content_of}
use Rattle.ele_path.specs.declared.tagged.TaggedPath.{TaggedPath}
use Rattle.ele_model.specs.declared.event.Event.{Event}
use Rattle.ele_model.specs.declared.event.Event.TheVariants.{Read}
use Rattle.ele_model.specs.declared.event.Source.TheVariants.{Tagged, Of}
use Rattle.ele_model.specs.declared.reply.Reply.TheVariants.{Bytes}
use Rattle.ele_model.specs.declared.rows.Reads.TheVariants.{Version}
use Rattle.ele_model.specs.declared.rows.VersionRow.{VersionRow}
use Rattle.ele_model.specs.Bounds.{Bounds, AreBounds}
use Rattle.ele_model.specs.Run.{run_of, IsEvent}
use Rattle.ele_model.specs.Step.{step}
use Rattle.ele_model.specs.Tagged.{version_at}
use Rattle.ele_model.specs.WellFormed.{IsWellFormed}
use Rattle.ele_model.specs.World.{World, fresh_world, reads_by}

-- a read of the version returns the row's bytes, by whatever path and tag, and by whatever handle
pub record ReadsRow (w : World) (row : VersionRow) : Type 0 where
  pub tagged : (tagged : TaggedPath) (held : VersionRow) → version_at w tagged ≡ Ok held → held.file ≡ row.file → held.number ≡ row.number
      → (step w (Read (Tagged tagged))).0 ≡ Bytes (content_of row.cells)
  pub handle : (handle : ℕ) → reads_by w.handles handle ≡ Ok (Version row.file row.number) → (step w (Read (Of handle))).0 ≡ Bytes (content_of row.cells)

-- from any well-formed world: after any events a read of a version returns its bytes before them
abbrev pub ReadsAsClosed : Type 0
ReadsAsClosed =
    (w : World) (events : List Event) → IsWellFormed w → AllByRecursion IsEvent events → AllByRecursion (ReadsRow (run_of w events)) w.versions

-- the same is true of each world of a run from it
abbrev pub ReadsAsClosedInRuns : Type 0
ReadsAsClosedInRuns =
    (start : World) (before after : List Event) → IsWellFormed start → AllByRecursion IsEvent before → AllByRecursion IsEvent after
    → let w = run_of start before in AllByRecursion (ReadsRow (run_of w after)) w.versions

-- and so of each run from the fresh world
abbrev pub ReadsAsClosedInFreshRuns : Type 0
ReadsAsClosedInFreshRuns =
    (limits : Bounds) (before after : List Event) → AreBounds limits → AllByRecursion IsEvent before → AllByRecursion IsEvent after
    → let w = run_of (fresh_world limits) before in AllByRecursion (ReadsRow (run_of w after)) w.versions
