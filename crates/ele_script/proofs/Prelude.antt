-- The words of this crate and of those below that proofs here use, in one place.
pub use Rattle.ele_moment.specs.Number.{SpellsNumber}
pub use Rattle.ele_moment.specs.Spelled.{SpellsMoment, SpellsTimestamp}
pub use Rattle.ele_policy.specs.Ladder.{IsLadder, Rung, climbs, ground, is_above}
pub use Rattle.ele_policy.specs.declared.policy.Policy.TheVariants.{All as KeepAll, Landmarks, One, Safe}
pub use Rattle.ele_commands.specs.Command.{command_words, kinds_of}
pub use Rattle.ele_script.specs.Command.{kinds_behind, kinds_if}
pub use Rattle.ele_script.specs.CommandOf.{behind, commands, find_command, named}
pub use Rattle.ele_script.specs.FirstFault.{FitsCommand, IsEventFault, IsFaultOfWords, IsFirstFault, IsFirstWordFault, IsOfKind, IsWordFault, no_command, no_event, not_worded, of_line, of_word, of_words, too_long}
pub use Rattle.ele_script.specs.KeptPairs.{Keeps, KeepsLadder}
pub use Rattle.ele_printer.specs.LineFault.{fault_of_path, fault_of_path_at}
pub use Rattle.ele_script.specs.Memory.{TakesMemory}
pub use Rattle.ele_script.specs.PathWord.{IsSourceFault, IsTaggedWordFault, begins_path, of_handle}
pub use Rattle.ele_script.specs.PolicyWord.{HasForm, IsLadderWord, IsSafeWord, ReadsPolicy, SpellsPair, SpellsPairs, SpellsSafe, parts_of}
pub use Rattle.ele_policy.specs.PolicyText.{pair_word}
pub use Rattle.ele_script.specs.Reads.{IsFaultOfKinds, IsRefused, ReadsLine, bad_word, miscounted}
pub use Rattle.ele_script.specs.Spells.{Asks, AsksEvent, SpellsLine, SpellsValues, SpellsWords}
pub use Rattle.ele_script.specs.Value.{Bytes, BytesWord, End, EndWord, Handle, HandleWord, Moment, MomentWord, Name, NameWord, NumberWord, Path, PathWord, PolicyWord, SourceWord, SpellsBytes, SpellsSource, SpellsValue, TaggedWord, Timed, TimedWord, Value, Version, VersionWord, WordKind, word_kind}
pub use Rattle.ele_script.specs.Words.{ends_word, longest_line, is_plain, is_worded, words_of}
pub use Rattle.ele_commands.specs.declared.command.Command.{Command}
pub use Rattle.ele_printer.specs.declared.fault.LineFault.{LineFault}
pub use Rattle.ele_printer.specs.declared.fault.LineFault.TheVariants.{BadLadder, BadMoment, NoMemory, Syntax}
pub use Rattle.ele_script.specs.declared.reading.Line.{Line}
pub use Rattle.ele_path.specs.OneMeaning.{OneMeaning}
pub use Rattle.ele_path.specs.TaggedFault.{IsTaggedFault, path_part, tag_part}
