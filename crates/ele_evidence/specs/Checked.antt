-- One row of a text that is verified. No public clause cites this module.
use Rattle.std.specs.Prelude.{◌≡◌, ◌≢◌, ℕ, List, [], ◌∷◌, ◌++◌, length}
use Rattle.std.specs.List.{AllZip}
use Rattle.ele_chain.specs.Chain.{chained, hash_line, last_hash}
use Rattle.ele_evidence.specs.EvidenceText.{IsRow, end_line, head_row}
use Rattle.ele_evidence.specs.Verdict.{IsFault, entry_of}
use Rattle.ele_evidence.specs.declared.checking.Checked.{Checked}
use Rattle.ele_evidence.specs.declared.checking.Checked.TheVariants.{End, Right, Wrong}
use Rattle.ele_evidence.specs.declared.verdict.Fault.TheVariants.{Hash, NoRow}
use Rattle.ele_history.specs.Past.{Past, recorded}
use Rattle.ele_model.specs.Bounds.{Bounds}
use Rattle.ele_model.specs.World.{fresh_world}
use Rattle.ele_model.specs.declared.event.Event.{Event}
use Rattle.ele_script.specs.Spells.{AsksEvent}

-- a row is right: it is there with its hash below it, and its event is the next of the history
pub record IsRight (past : Past) (above rest below after : List ℕ) (next : Past) : Type 0 where
  pub event : Event
  pub row : List ℕ
  pub is : IsRow (entry_of past event) row
  pub parts : rest ≡ row ++ (hash_line (above ++ row) ++ after)
  pub below_is : below ≡ hash_line (above ++ row)
  pub next_is : next ≡ recorded past event

-- the last line, a right row, or a fault
abbrev pub IsChecked : Past → List ℕ → List ℕ → Checked → Past → Type 0
IsChecked past above rest End next = (rest ≡ end_line (length past.entries)) × (next ≡ past)
IsChecked past above rest (Right below after) next = IsRight past above rest below after.now next
IsChecked past above rest (Wrong fault wrong) next = IsFault past above rest wrong.now fault

-- the bytes begin with a line that asks for the event
pub record AsksFirst (text : List ℕ) (event : Event) : Type 0 where
  pub line : List ℕ
  pub behind : List ℕ
  pub asks : AsksEvent line event
  pub parts : text ≡ line ++ 10 ∷ behind

-- below a row is its hash line, or something else
abbrev pub IsHashed : List ℕ → List ℕ → List ℕ → Checked → Type 0
IsHashed above row below (Right line after) = (line ≡ hash_line (above ++ row)) × (below ≡ hash_line (above ++ row) ++ after.now)
IsHashed above row below (Wrong Hash wrong) = (wrong.now ≡ below) × ((more : List ℕ) → below ≢ hash_line (above ++ row) ++ more)
IsHashed above row below checked = ⊥

-- the last line, or something else
abbrev pub IsEnd : ℕ → List ℕ → Checked → Type 0
IsEnd count rest End = rest ≡ end_line count
IsEnd count rest (Wrong NoRow wrong) = (wrong.now ≡ rest) × (rest ≢ end_line count)
IsEnd count rest checked = ⊥

-- the text begins with the rows of the history in a chain, of which this is the last line, and this is left
pub record Begins (limits : Bounds) (text : List ℕ) (past : Past) (line rest : List ℕ) : Type 0 where
  pub base : past.base ≡ fresh_world limits
  pub untrimmed : past.folded ≡ 0
  pub rows : List (List ℕ)
  pub are : AllZip IsRow past.entries rows
  pub parts : text ≡ chained [] (head_row limits ∷ rows) ++ rest
  pub line_is : line ≡ last_hash [] (head_row limits ∷ rows)
