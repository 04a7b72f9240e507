-- What is true of a text that may be the evidence of a history.
use Rattle.std.specs.Prelude.{◌≡◌, ◌≢◌, ◌⊎◌, ℕ, ◌+◌, ◌≤◌, List, [], ◌∷◌, ◌++◌, codes, length}
use Rattle.std.specs.List.{AllByRecursion, AllZip}
use Rattle.memchr.specs.Find.{is_byte, places}
use Rattle.ele_chain.specs.Chain.{chained, hash_line, last_hash}
use Rattle.ele_evidence.specs.EvidenceText.{IsEvidence, IsRow, end_line, head_row}
use Rattle.ele_evidence.specs.declared.verdict.Fault.{Fault}
use Rattle.ele_evidence.specs.declared.verdict.Fault.TheVariants.{Answer, Hash, NoRow, TooMany}
use Rattle.ele_evidence.specs.declared.verdict.Verdict.{Verdict}
use Rattle.ele_evidence.specs.declared.verdict.Verdict.TheVariants.{NoHead, Whole, Wrong}
use Rattle.ele_history.specs.Legal.{IsLegal}
use Rattle.ele_history.specs.Past.{IsFull, Past, events_of, recorded, reply_to}
use Rattle.ele_model.specs.Bounds.{Bounds}
use Rattle.ele_model.specs.Run.{IsEvent}
use Rattle.ele_model.specs.World.{fresh_world}
use Rattle.ele_model.specs.declared.entry.Entry.{Entry}
use Rattle.ele_model.specs.declared.event.Event.{Event}
use Rattle.ele_script.specs.Spells.{AsksEvent}

-- a history that began in the fresh world with these limits, and was never trimmed: the reply of each entry is the step's
pub record IsHistory (limits : Bounds) (past : Past) : Type 0 where
  pub base : past.base ≡ fresh_world limits
  pub untrimmed : past.folded ≡ 0
  pub events : AllByRecursion IsEvent (events_of past.entries)
  pub legal : IsLegal past.base past.entries
  pub few : length past.entries ≤ limits.events

-- the text is the evidence of such a history, with so many entries and this last hash line
pub record IsWhole (limits : Bounds) (text : List ℕ) (count : ℕ) (last : List ℕ) : Type 0 where
  pub past : Past
  pub history : IsHistory limits past
  pub evidence : IsEvidence limits past.entries text
  pub count_is : count ≡ length past.entries
  pub last_is : last ≡ last_hash [] (head_row limits ∷ evidence.rows)

-- the bytes begin with `- ` and a line that asks for the event
pub record AsksRow (rest : List ℕ) (event : Event) : Type 0 where
  pub line : List ℕ
  pub behind : List ℕ
  pub asks : AsksEvent line event
  pub parts : rest ≡ codes "- " ++ (line ++ 10 ∷ behind)

-- the event with the step's reply
abbrev pub entry_of : Past → Event → Entry
entry_of past event = record { event = event; reply = reply_to past event }

-- what is wrong with the rest of a text, below the rows of a history and this hash line, and from where on:
-- it is not the last line and asks for no event;
-- it asks for an event, but the history has as many as its limit;
-- it asks for an event, and doesn't begin with the row of it and its reply;
-- it begins with that row, and another line than its hash is below
abbrev pub IsFault : Past → List ℕ → List ℕ → List ℕ → Fault → Type 0
IsFault past above rest wrong NoRow = (wrong ≡ rest) × (rest ≢ end_line (length past.entries)) × ((event : Event) → ¬ AsksRow rest event)
IsFault past above rest wrong TooMany = (wrong ≡ rest) × (event : Event) × AsksRow rest event × IsFull past
IsFault past above rest wrong Answer =
    (wrong ≡ rest) × (event : Event) × AsksRow rest event × ((row behind : List ℕ) → IsRow (entry_of past event) row → rest ≢ row ++ behind)
IsFault past above rest wrong Hash =
    (event : Event) × (row : List ℕ) × AsksRow rest event × IsRow (entry_of past event) row × (rest ≡ row ++ wrong)
    × ((more : List ℕ) → wrong ≢ hash_line (above ++ row) ++ more)

-- the number of the line that begins after these bytes: one more than their line feeds
abbrev pub line_after : List ℕ → ℕ
line_after right = length (places (is_byte 10) right) + 1

-- the text begins with the rows of a history, and what is below them has a fault, at the line with this number
pub record IsWrong (limits : Bounds) (text : List ℕ) (line : ℕ) (fault : Fault) : Type 0 where
  pub past : Past
  pub rows : List (List ℕ)
  pub rest : List ℕ
  pub right : List ℕ
  pub wrong : List ℕ
  pub history : IsHistory limits past
  pub are : AllZip IsRow past.entries rows
  pub begins : text ≡ chained [] (head_row limits ∷ rows) ++ rest
  pub fault_is : IsFault past (last_hash [] (head_row limits ∷ rows)) rest wrong fault
  pub parts : text ≡ right ++ wrong
  pub line_is : line ≡ line_after right

-- the text is evidence; or it doesn't begin with the first row for these limits and its hash; or it has a fault
abbrev pub IsVerdict : Bounds → List ℕ → Verdict → Type 0
IsVerdict limits text (Whole count last) = IsWhole limits text count last
IsVerdict limits text NoHead = (rest : List ℕ) → text ≢ head_row limits ++ (hash_line (head_row limits) ++ rest)
IsVerdict limits text (Wrong line fault) = IsWrong limits text line fault

-- no event more was run, or the one that the rest asks for
abbrev pub RunsOn : Past → List ℕ → Past → Type 0
RunsOn past rest after = (after ≡ past) ⊎ ((event : Event) × AsksRow rest event × (after ≡ recorded past event))

-- memory was refused below the rows of a history, with which the text begins: these events were run, and maybe the one that the rest asks for
pub record IsUnverified (limits : Bounds) (text : List ℕ) (after : Past) : Type 0 where
  pub past : Past
  pub rows : List (List ℕ)
  pub rest : List ℕ
  pub history : IsHistory limits past
  pub are : AllZip IsRow past.entries rows
  pub begins : text ≡ chained [] (head_row limits ∷ rows) ++ rest
  pub runs : RunsOn past rest after
