-- The text of why an event isn't done.
use Rattle.std.specs.Prelude.{ℕ, List}
use Rattle.ele_events.specs.declared.halt.Halt.{Halt}
use Rattle.ele_events.specs.declared.halt.Halt.TheVariants.{Refused, NoMemory}
use Rattle.ele_model.specs.AnswerText.{words_text, refusal_words, stop_words}
use Rattle.ele_model.specs.declared.refusal.Stop.TheVariants as stop

-- the text of the refusal, or of the stop if memory was refused
abbrev pub halt_text : Halt → List ℕ
halt_text (Refused refusal) = words_text (refusal_words refusal)
halt_text NoMemory = words_text (stop_words stop.NoMemory)
