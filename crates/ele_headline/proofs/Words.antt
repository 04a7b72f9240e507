-- The words of the laws that proofs here use, in one place, and the types of `ele_model` (its own `Words` can give them out to itself alone).
pub use Rattle.ele_model.specs.declared.event.Event.{Event}
pub use Rattle.ele_model.specs.declared.event.Event.TheVariants.{CleanOne, Read}
pub use Rattle.ele_model.specs.declared.event.Source.TheVariants.{Of, Tagged}
pub use Rattle.ele_model.specs.declared.refusal.Refusal.{Refusal}
pub use Rattle.ele_model.specs.declared.reply.Reply.{Reply}
pub use Rattle.ele_model.specs.declared.reply.Reply.TheVariants.{Bytes, Nothing, Refused}
pub use Rattle.ele_model.specs.declared.rows.DeletedName.{DeletedName}
pub use Rattle.ele_model.specs.declared.rows.FileRow.{FileRow}
pub use Rattle.ele_model.specs.declared.rows.NameRow.{NameRow}
pub use Rattle.ele_model.specs.declared.rows.Reads.TheVariants.{Version}
pub use Rattle.ele_model.specs.declared.rows.Target.{Target}
pub use Rattle.ele_model.specs.declared.rows.Target.TheVariants.{File}
pub use Rattle.ele_model.specs.declared.rows.VersionRow.{VersionRow}
pub use Rattle.ele_headline.specs.ReadsAsClosed.{ReadsAsClosed, ReadsAsClosedInFreshRuns, ReadsAsClosedInRuns, ReadsRow}
