-- The words of the crates below that proofs here use, in one place.
pub use Rattle.ele_policy.specs.Ladder.{Rung}
pub use Rattle.ele_commands.specs.Command.{command_words, kinds_of}
pub use Rattle.ele_script.specs.Command.{kinds_behind, kinds_if}
pub use Rattle.ele_script.specs.CommandOf.{commands}
pub use Rattle.ele_script.specs.FirstFault.{FitsCommand, IsFaultOfWords, IsFirstFault, IsFirstWordFault, no_command, not_worded, of_word, of_words, too_long}
pub use Rattle.ele_script.specs.Value.{WordKind}
pub use Rattle.ele_script.specs.Words.{ends_word, longest_line, is_plain, is_worded, words_of}
pub use Rattle.ele_commands.specs.declared.command.Command.{Command}
pub use Rattle.ele_printer.specs.declared.fault.LineFault.{LineFault}
pub use Rattle.ele_path.specs.OneMeaning.{OneMeaning}
