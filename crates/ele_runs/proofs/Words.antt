-- The words of this crate and of those below that proofs here use, in one place.
pub use Rattle.ele_history.specs.Pass.{MayPass, Removes, RemovesOne}
pub use Rattle.ele_history.specs.Past.{HasRoom, IsFull, Past, answered, count_of, recorded, reply_to, trimmed, world_of}
pub use Rattle.ele_history.specs.Reply.{MayReply}
pub use Rattle.ele_output.specs.Outlet.{HandsOver, IsHandedOver, Outlet, Outputs, Puts}
pub use Rattle.ele_output.specs.Prints.{outlet}
pub use Rattle.ele_script.specs.Words.{longest_line}
pub use Rattle.ele_runs.specs.Block.{IsBlock, IsTextIn, cut_block, cut_count}
pub use Rattle.ele_runs.specs.Kept.{Recorded, last_reply}
pub use Rattle.ele_runs.specs.Said.{IsForMemory, MayAnswer, MayMean}
pub use Rattle.ele_runs.specs.declared.said.Said.{Said}
pub use Rattle.ele_runs.specs.RunState.{RunState, begun, noting}
pub use Rattle.ele_run_options.specs.RunOptions.{front_of, heard, plain, tells_reasons}
pub use Rattle.ele_runs.specs.Note.{IsNoted, cut_note}
pub use Rattle.ele_runs.specs.Told.{AreTold, IsTold, cut_told}
pub use Rattle.ele_runs.specs.Bounds.{most_bytes, most_lines}
pub use Rattle.ele_runs.specs.LineLength.{line_unless_long}
pub use Rattle.ele_runs.specs.Lines.{AreLines, IsUnbroken, line_count, whole_line, whole_lines}
pub use Rattle.ele_runs.specs.Output.{AreBlocks}
pub use Rattle.ele_runs.specs.Piece.{Answers, AnswersAll, AnswersLast, AnswersSome}
pub use Rattle.ele_runs.specs.Written.{PutsBlock, end_by}
pub use Rattle.ele_model.specs.declared.refusal.Stop.{Stop}
pub use Rattle.ele_model.specs.declared.refusal.Stop.TheVariants.{HistoryFull}
pub use Rattle.ele_model.specs.declared.reply.Reply.{Reply}
