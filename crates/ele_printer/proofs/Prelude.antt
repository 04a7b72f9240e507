-- The words of this crate and of those below that proofs here use, in one place.
pub use Rattle.ele_output.specs.Line.{line_text}
pub use Rattle.ele_printer.specs.Printed.{group_line, kind_words, usage_line, usage_lines}
pub use Rattle.ele_output.specs.Prints.{outlet}
