-- Lines have one output, unless memory stops one of them.
use Rattle.std.specs.Prelude.{◌≡◌, ◌≢◌, ℕ, List, ◌++◌}
use Rattle.ele_model.specs.declared.refusal.Stop.TheVariants.{NoMemory}
use Rattle.ele_model.specs.declared.pass.PassEnd.TheVariants.{Stopped}
use Rattle.ele_printer.specs.Printed.{pass_text, stop_text}
use Rattle.ele_runs.specs.Output.{IsOutput}
use Rattle.ele_history.specs.Past.{Past}
use Rattle.ele_runs.specs.Unstopped.{IsUnstopped}

-- the text does not contain this
abbrev pub IsNowhere : List ℕ → List ℕ → Type 0
IsNowhere told text = (front back : List ℕ) → text ≢ front ++ told ++ back

-- the text has no line of a stop for memory, nor of a pass that such a stop ended
pub record TellsNoStop (text : List ℕ) : Type 0 where
  pub stop : IsNowhere (stop_text NoMemory) text
  pub pass : (removed : ℕ) → IsNowhere (pass_text (Stopped NoMemory removed)) text

pub record OneOutput : Type 0 where
  -- two outputs of the same lines from one state, in which memory stopped none of them, are the same
  pub one : (start : Past) (lines : List (List ℕ)) (last a b : List ℕ) (x : IsOutput start lines last a) (y : IsOutput start lines last b)
      → IsUnstopped start lines last a x → IsUnstopped start lines last b y → a ≡ b
  -- memory stopped none of them if the output has no such line
  pub told : (start : Past) (lines : List (List ℕ)) (last text : List ℕ) (output : IsOutput start lines last text)
      → TellsNoStop text → IsUnstopped start lines last text output
