-- The words of the crates that proofs here use, in one place.
pub use Rattle.ele_blocks.specs.Changes.{IsResized, IsWritten}
pub use Rattle.ele_blocks.specs.Layout.{Layout}
pub use Rattle.ele_blocks.specs.Store.{Store}
pub use Rattle.ele_sessions.specs.Changes.{Resizes, RewritesDraft, has_length, rewritten_by}
pub use Rattle.ele_sessions.specs.Closes.{closed_of, closing_of, left_drafts, left_handles}
pub use Rattle.ele_sessions.specs.Found.{StandsAt}
pub use Rattle.ele_sessions.specs.Inside.{IsAt, IsGap, draft_in, drafts_of, file_in, number_in}
pub use Rattle.ele_sessions.specs.Kept.{Keeps, reading, reads_eq, sessions_of}
pub use Rattle.ele_sessions.specs.Opening.{new_draft, with_draft}
pub use Rattle.ele_sessions.specs.Order.{Rises}
pub use Rattle.ele_sessions.specs.Orderly.{AreOrderly, IsReadable}
pub use Rattle.ele_sessions.specs.Sessions.{AllSessions, Draft, is_draft, is_draft_after}
pub use Rattle.ele_sessions.specs.declared.entries.Entry.{Entry}
pub use Rattle.ele_sessions.specs.declared.found_handle.FoundHandle.{FoundHandle}
pub use Rattle.ele_model.specs.World.{file_by, is_handle, is_open, is_writer, reads_by, reads_version, writes}
pub use Rattle.ele_model.specs.declared.refusal.Refusal.{Refusal}
pub use Rattle.ele_model.specs.declared.rows.HandleRow.{HandleRow}
pub use Rattle.ele_model.specs.declared.rows.Reads.{Reads}
pub use Rattle.ele_model.specs.declared.rows.Reads.TheVariants.{Version}
