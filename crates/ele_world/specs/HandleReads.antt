-- A handle that is opened for reading reads the version that the tagged path means.
use Rattle.std.specs.Prelude.{◌≡◌, ℕ, Ok}
use Rattle.ele_path.specs.declared.tagged.TaggedPath.{TaggedPath}
use Rattle.ele_model.specs.declared.event.Event.TheVariants.{OpenRead}
use Rattle.ele_model.specs.declared.reply.Reply.TheVariants.{Handle}
use Rattle.ele_model.specs.declared.rows.Reads.TheVariants.{Version}
use Rattle.ele_model.specs.declared.rows.VersionRow.{VersionRow}
use Rattle.ele_model.specs.Step.{step}
use Rattle.ele_model.specs.Tagged.{version_at}
use Rattle.ele_model.specs.WellFormed.{IsWellFormed}
use Rattle.ele_model.specs.World.{World, reads_by}

pub record ReadsMeant (before : World) (tagged : TaggedPath) (handle : ℕ) (after : World) : Type 0 where
  pub row : VersionRow
  pub meant : version_at before tagged ≡ Ok row
  pub reads : reads_by after.handles handle ≡ Ok (Version row.file row.number)

abbrev pub HandleReads : Type 0
HandleReads =
    (w : World) (tagged : TaggedPath) (handle : ℕ) → IsWellFormed w → (step w (OpenRead tagged)).0 ≡ Handle handle
    → ReadsMeant w tagged handle ((step w (OpenRead tagged)).1)
