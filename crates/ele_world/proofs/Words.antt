-- The words of the laws that proofs here use, in one place, and the types of `ele_model` (its own `Words` can give them out to itself alone).
pub use Rattle.ele_model.specs.declared.event.Event.{Event}
pub use Rattle.ele_model.specs.declared.event.Event.TheVariants.{Abandon, CleanOne, Clock, Close, Create, GroupAdd, GroupDrop, GroupMake, GroupRemove, Link, MakeDir, OpenWrite, Read, Rename, Restore, Revert, Save, SetDefault, Tick, Truncate, Undelete, Unlink, Unmark, Write}
pub use Rattle.ele_model.specs.declared.event.Source.TheVariants.{Of, Tagged}
pub use Rattle.ele_model.specs.declared.refusal.Refusal.{Refusal}
pub use Rattle.ele_model.specs.declared.refusal.Refusal.TheVariants.{Forgotten, NoEntry, NoHandle}
pub use Rattle.ele_model.specs.declared.reply.Reply.{Reply}
pub use Rattle.ele_model.specs.declared.reply.Reply.TheVariants.{Bytes, Done}
pub use Rattle.ele_model.specs.declared.rows.DeletedName.{DeletedName}
pub use Rattle.ele_model.specs.declared.rows.DirectoryRow.{DirectoryRow}
pub use Rattle.ele_model.specs.declared.rows.DraftRow.{DraftRow}
pub use Rattle.ele_model.specs.declared.rows.FileRow.{FileRow}
pub use Rattle.ele_model.specs.declared.rows.GroupRow.{GroupRow}
pub use Rattle.ele_model.specs.declared.rows.HandleRow.{HandleRow}
pub use Rattle.ele_model.specs.declared.rows.MarkRow.{MarkRow}
pub use Rattle.ele_model.specs.declared.cover.Cover.{Cover}
pub use Rattle.ele_model.specs.declared.cover.Cover.TheVariants.{Always, Free, Until}
pub use Rattle.ele_model.specs.declared.rows.NameRow.{NameRow}
pub use Rattle.ele_model.specs.declared.rows.Reads.{Reads}
pub use Rattle.ele_model.specs.declared.rows.Reads.TheVariants.{Draft, Version}
pub use Rattle.ele_model.specs.declared.rows.Target.{Target}
pub use Rattle.ele_model.specs.declared.rows.Target.TheVariants.{Directory, File}
pub use Rattle.ele_model.specs.declared.rows.VersionRow.{VersionRow}
pub use Rattle.ele_world.specs.CreateLeads.{LeadsToNew}
pub use Rattle.ele_world.specs.Ever.{last_stood}
pub use Rattle.ele_world.specs.LinkLeads.{LeadsToSame}
pub use Rattle.ele_world.specs.MakeDirLeads.{LeadsToDirectory}
pub use Rattle.ele_world.specs.OneLife.{HasOneLife, NamesOneLife, OneLife}
pub use Rattle.ele_world.specs.OneLifeFrom.{HasLivesFrom, NamesOneLifeFrom, OneLifeFrom}
pub use Rattle.ele_world.specs.OpenStays.{OpenStays}
pub use Rattle.ele_headline.specs.ReadsAsClosed.{ReadsAsClosed, ReadsAsClosedInRuns, ReadsRow}
pub use Rattle.ele_world.specs.RenameLeads.{LeadsInstead, RenameLeads}
pub use Rattle.ele_world.specs.UndeleteLeads.{HasNameAgain, HasVersionAgain, LeadsAgain, UndeleteLeads}
pub use Rattle.ele_world.specs.UnlinkEnds.{EndsName, UnlinkEnds}
