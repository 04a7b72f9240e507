-- A text that is checked row by row.
use Rattle.ele_evidence.proofs.Basics.{AllZip, Err, List, None, Ok, Option, Result, Some, [], ap, append_cancel_left, inl, inr, append-nil, append_assoc, arith, length, length-append, subst, sym, take, ℕ, ◌++◌, ◌-◌, ◌∙◌, ◌∷◌, ◌≡◌, ◌≢◌, ◌⊎◌}
use Rattle.ele_chain.proofs.Grows.{last_goes_on}
use Rattle.ele_chain.specs.Chain.{chained, hash_line, last_hash}
use Rattle.ele_evidence.proofs.Texts.{one_more, one_row}
use Rattle.ele_evidence.specs.Checked.{Begins, IsChecked, IsEnd, IsHashed, IsRight}
use Rattle.ele_evidence.specs.EvidenceText.{IsRow, end_line, head_row}
use Rattle.ele_evidence.specs.Verdict.{AsksRow, IsFault, IsHistory, IsUnverified, IsWhole, IsWrong, RunsOn, entry_of, line_after}
use Rattle.ele_evidence.specs.declared.checking.Checked.{Checked}
use Rattle.ele_evidence.specs.declared.checking.Checked.TheVariants.{End, Right, Wrong}
use Rattle.ele_evidence.specs.declared.verdict.Fault.{Fault}
use Rattle.ele_evidence.specs.declared.verdict.Fault.TheVariants.{Answer, Hash, NoRow, TooMany}
use Rattle.ele_history.specs.Past.{IsFull, Past, recorded}
use Rattle.ele_history.specs.Reply.{MayStop}
use Rattle.ele_lists.proofs.Ends.{last-append, last-slice_get}
use Rattle.ele_model.specs.Bounds.{Bounds}
use Rattle.ele_model.specs.World.{fresh_world}
use Rattle.ele_model.specs.declared.entry.Entry.{Entry}
use Rattle.ele_model.specs.declared.event.Event.{Event}
use Rattle.ele_printer.specs.declared.fault.LineFault.{LineFault}
use Rattle.ele_printer.specs.declared.fault.LineFault.TheVariants as fault_of
use Rattle.std.proofs.lemmas.List.{take_at}
use Rattle.std.proofs.lemmas.Option.{same_Some}
use Rattle.ele_model.specs.declared.refusal.Stop.{Stop}
use Rattle.ele_model.specs.declared.refusal.Stop.TheVariants.{HistoryFull, NoMemory}
use Rattle.std.proofs.Common.{Bor, MatchOption}
use Rattle.std.specs.Prelude.{OnErr, slice_get}

-- below the first row
pub begins_none : (limits : Bounds) (text rest line : List ℕ) (past : Past) → past.base ≡ fresh_world limits → past.entries ≡ [] → past.folded ≡ 0 → line ≡ hash_line (head_row limits) → text ≡ head_row limits ++ (hash_line (head_row limits) ++ rest)
    → Begins limits text past line rest
begins_none limits text rest line past base empty untrimmed line_is parts =
    let head = head_row limits in
    let first = hash_line head in
    record {
      base = base;
      untrimmed = untrimmed;
      rows = [];
      are = rw empty tt;
      parts = parts ∙ (ap (λ (l : List ℕ). head ++ (l ++ rest)) (sym (append-nil first)) ∙ sym (append_assoc head (first ++ []) rest));
      line_is = line_is;
    }

zip_more : (entries : List Entry) (rows : List (List ℕ)) (entry : Entry) (row : List ℕ) → AllZip IsRow entries rows → IsRow entry row → AllZip IsRow (entries ++ entry ∷ []) (rows ++ row ∷ [])
zip_more [] [] entry row are is = (is, tt)
zip_more [] (r ∷ rows) entry row are is = absurd are
zip_more (e ∷ entries) [] entry row are is = absurd are
zip_more (e ∷ entries) (r ∷ rows) entry row are is = (are.0, zip_more entries rows entry row are.1 is)

more_parts : (rows : List (List ℕ)) (line row after : List ℕ) → line ≡ last_hash [] rows → chained [] rows ++ (row ++ (hash_line (line ++ row) ++ after)) ≡ chained [] (rows ++ row ∷ []) ++ after
more_parts rows line row after is =
    let before = chained [] rows in
    let hash = hash_line (line ++ row) in
    ap (λ (t : List ℕ). before ++ t) (sym (append_assoc row hash after))
    ∙ (sym (append_assoc before (row ++ hash) after)
    ∙ ap (λ (t : List ℕ). t ++ after) (one_more [] rows line row is))

-- below a right row
pub begins_more : (limits : Bounds) (text line rest below after : List ℕ) (past next : Past) → Begins limits text past line rest → IsRight past line rest below after next → Begins limits text next below after
begins_more limits text line rest below after past next so right =
    let rows = head_row limits ∷ so.rows in
    rw right.next_is (record {
      base = so.base;
      untrimmed = so.untrimmed;
      rows = so.rows ++ right.row ∷ [];
      are = zip_more past.entries so.rows (entry_of past right.event) right.row so.are right.is;
      parts = so.parts ∙ (ap (λ (t : List ℕ). chained [] rows ++ t) right.parts ∙ more_parts rows line right.row after so.line_is);
      line_is = right.below_is ∙ (ap (λ (l : List ℕ). hash_line (l ++ right.row)) so.line_is ∙ sym (last_goes_on [] rows right.row));
    })

-- the last line is below the rows
pub whole : (limits : Bounds) (text line rest : List ℕ) (count : ℕ) (past : Past) → Begins limits text past line rest → IsHistory limits past → count ≡ length past.entries → rest ≡ end_line (length past.entries) → IsWhole limits text count line
whole limits text line rest count past so history count_is end = record {
  past = past;
  history = history;
  evidence = record { rows = so.rows; are = so.are; is = so.parts ∙ ap (λ (t : List ℕ). chained [] (head_row limits ∷ so.rows) ++ t) end };
  count_is = count_is;
  last_is = so.line_is;
}

-- what is above the place from which on it is wrong
above : (before rest wrong : List ℕ) (past : Past) (line : List ℕ) (fault : Fault) → IsFault past line rest wrong fault → (right : List ℕ) × (before ++ rest ≡ right ++ wrong)
above before rest wrong past line NoRow is = (before, ap (λ (t : List ℕ). before ++ t) (sym is.0))
above before rest wrong past line TooMany is = (before, ap (λ (t : List ℕ). before ++ t) (sym is.0))
above before rest wrong past line Answer is = (before, ap (λ (t : List ℕ). before ++ t) (sym is.0))
above before rest wrong past line Hash (event, row, asks, of, parts, other) =
    (before ++ row, ap (λ (t : List ℕ). before ++ t) parts ∙ sym (append_assoc before row wrong))

-- a fault is below the rows
pub faulty : (limits : Bounds) (text line rest wrong : List ℕ) (number : ℕ) (fault : Fault) (past : Past) → Begins limits text past line rest → IsHistory limits past → IsFault past line rest wrong fault
    → ((right : List ℕ) → text ≡ right ++ wrong → number ≡ line_after right) → IsWrong limits text number fault
faulty limits text line rest wrong number fault past so history is number_is =
    let cut = above (chained [] (head_row limits ∷ so.rows)) rest wrong past line fault is in
    record {
      past = past;
      rows = so.rows;
      rest = rest;
      right = cut.0;
      wrong = wrong;
      history = history;
      are = so.are;
      begins = so.parts;
      fault_is = subst (λ (l : List ℕ). IsFault past l rest wrong fault) so.line_is is;
      parts = so.parts ∙ cut.1;
      line_is = number_is cut.0 (so.parts ∙ cut.1);
    }

-- what is true of any result is true at a fault
pub on_err : {T E : Type 0} (r : Result T E) (P : Type 0) → P → OnErr r P
on_err (Ok x) P is = tt
on_err (Err fault) P is = is

-- memory was refused below the rows
pub unverified : (limits : Bounds) (text line rest : List ℕ) (past after : Past) → Begins limits text past line rest → IsHistory limits past → RunsOn past rest after → IsUnverified limits text after
unverified limits text line rest past after so history runs = record {
  past = past;
  rows = so.rows;
  rest = rest;
  history = history;
  are = so.are;
  begins = so.parts;
  runs = runs;
}

-- no other row is that of an event
pub no_row : (past : Past) (event : Event) (row rest : List ℕ) → IsRow (entry_of past event) row → ((behind : List ℕ) → rest ≡ row ++ behind → ⊥) → (other behind : List ℕ) → IsRow (entry_of past event) other → rest ≡ other ++ behind → ⊥
no_row past event row rest is none other behind of parts =
    none behind (parts ∙ ap (λ (r : List ℕ). r ++ behind) (one_row (entry_of past event) other row of is))

-- the hash line of the first row
pub first_line : (line above bytes head : List ℕ) → line ≡ hash_line (above ++ bytes) → above ≡ [] → bytes ≡ head → line ≡ hash_line head
first_line line above bytes head is none same =
    is ∙ (ap (λ (a : List ℕ). hash_line (a ++ bytes)) none ∙ ap (λ (b : List ℕ). hash_line b) same)

front_is : (bytes line head rest : List ℕ) → bytes ≡ head → line ≡ hash_line head → bytes ++ (line ++ rest) ≡ head ++ (hash_line head ++ rest)
front_is bytes line head rest same line_is =
    ap (λ (b : List ℕ). b ++ (line ++ rest)) same ∙ ap (λ (l : List ℕ). head ++ (l ++ rest)) line_is

-- the text begins with the first row and its hash line, or it doesn't
pub headed : (text bytes line head rest : List ℕ) → bytes ≡ head → line ≡ hash_line head → text ≡ bytes ++ (line ++ rest) → text ≡ head ++ (hash_line head ++ rest)
headed text bytes line head rest same line_is parts = parts ∙ front_is bytes line head rest same line_is

pub not_headed : (text bytes line head : List ℕ) → bytes ≡ head → line ≡ hash_line head → ((rest : List ℕ) → text ≡ bytes ++ (line ++ rest) → ⊥) → (rest : List ℕ) → text ≡ head ++ (hash_line head ++ rest) → ⊥
not_headed text bytes line head same line_is none rest parts = none rest (parts ∙ sym (front_is bytes line head rest same line_is))

-- the bytes before the rest of a text
pub before_rest : (text rest right : List ℕ) (n : ℕ) → text ≡ right ++ rest → n ≡ length text - length rest → take n text ≡ right
before_rest text rest right n parts is =
    let long : n ≡ length right = is ∙ (ap (λ (t : List ℕ). length t - length rest) parts ∙ omega (arith, length-append right rest)) in
    ap (λ (t : List ℕ). take n t) parts ∙ take_at right rest n (sym long)

-- an event that was answered is the newest entry
pub newest : (past next : Past) (event : Event) (entry : Entry) → next ≡ recorded past event → Some entry ≡ slice_get next.entries (length next.entries - 1) → entry ≡ entry_of past event
newest past next event entry is last =
    same_Some entry (entry_of past event)
    (last
    ∙ (ap (λ (p : Past). slice_get p.entries (length p.entries - 1)) is
    ∙ (last-slice_get (past.entries ++ entry_of past event ∷ []) ∙ last-append past.entries [] (entry_of past event))))

-- bytes that ask for no event are the last line, or wrong
pub ended : (past next : Past) (above rest : List ℕ) (checked : Checked) → next ≡ past → ((event : Event) → AsksRow rest event → ⊥) → IsEnd (length past.entries) rest checked → IsChecked past above rest checked next
ended past next above rest End same none is = (is, same)
ended past next above rest (Right below after) same none is = absurd is
ended past next above rest (Wrong NoRow wrong) same none is = (is.0, is.1, none)
ended past next above rest (Wrong TooMany wrong) same none is = absurd is
ended past next above rest (Wrong Answer wrong) same none is = absurd is
ended past next above rest (Wrong Hash wrong) same none is = absurd is

-- a fault other than memory says that no event is asked for
pub no_event : (rest : List ℕ) (found : Result Event LineFault) (fault : LineFault) → found ≡ Err fault → (fault ≡ fault_of.NoMemory → ⊥) → ((event : Event) → AsksRow rest event → (found ≡ Ok event) ⊎ (found ≡ Err fault_of.NoMemory)) → (event : Event) → AsksRow rest event → ⊥
no_event rest found fault is other only event asked =
    elim (only event asked) [
      | inl same ↦ absurd (let both : ◌≡◌ {A = Result Event LineFault} (Err fault) (Ok event) = sym is ∙ same in cc)
      | inr same ↦ other (err_same fault fault_of.NoMemory (sym is ∙ same))
    ] where
      err_same : (a b : LineFault) → ◌≡◌ {A = Result Event LineFault} (Err a) (Err b) → a ≡ b
      err_same a b e = cc

-- a text that begins with one part, and what is behind that with another
pub both : (text first second rest : List ℕ) (r : Option (Bor (List ℕ))) → text ≡ first ++ rest → MatchOption r ((x : List ℕ) → rest ≢ second ++ x) (λ x. rest ≡ second ++ x.now)
    → MatchOption r ((x : List ℕ) → text ≢ first ++ (second ++ x)) (λ x. text ≡ first ++ (second ++ x.now))
both text first second rest None parts m = λ x e. m x (append_cancel_left first rest (second ++ x) (sym parts ∙ e))
both text first second rest (Some b) parts m = parts ∙ ap (λ (t : List ℕ). first ++ t) m

-- a row is there: it is right, or what is below it is wrong
pub hashed : (past next : Past) (event : Event) (above rest row bytes below : List ℕ) (checked : Checked) → AsksRow rest event → next ≡ recorded past event → IsRow (entry_of past event) row → bytes ≡ row → rest ≡ bytes ++ below → IsHashed above bytes below checked
    → IsChecked past above rest checked next
hashed past next event above rest row bytes below End asks ran of same parts is = absurd is
hashed past next event above rest row bytes below (Right line after) asks ran of same parts is = record {
  event = event;
  row = bytes;
  is = subst (λ (r : List ℕ). IsRow (entry_of past event) r) (sym same) of;
  parts = parts ∙ ap (λ (t : List ℕ). bytes ++ t) is.1;
  below_is = is.0;
  next_is = ran;
}
hashed past next event above rest row bytes below (Wrong Hash wrong) asks ran of same parts is = (
  event,
  bytes,
  asks,
  subst (λ (r : List ℕ). IsRow (entry_of past event) r) (sym same) of,
  parts ∙ ap (λ (t : List ℕ). bytes ++ t) (sym is.0),
  λ more e. is.1 more (sym is.0 ∙ e),
)
hashed past next event above rest row bytes below (Wrong NoRow wrong) asks ran of same parts is = absurd is
hashed past next event above rest row bytes below (Wrong TooMany wrong) asks ran of same parts is = absurd is
hashed past next event above rest row bytes below (Wrong Answer wrong) asks ran of same parts is = absurd is

-- a stopped event at the limit
pub stopped : (past next : Past) (stop : Stop) → MayStop past stop next → stop ≡ HistoryFull → IsFull past
stopped past next HistoryFull may e = may.0
stopped past next NoMemory may e = absurd cc

-- and any other stop of it leaves the history
pub stop_leaves : (past next : Past) (stop : Stop) → MayStop past stop next → next ≡ past
stop_leaves past next HistoryFull may = may.1
stop_leaves past next NoMemory may = may.1

-- an event that was asked for was run, or not
pub runs_on : (past next : Past) (event : Event) (rest : List ℕ) → AsksRow rest event → (next ≡ past) ⊎ (next ≡ recorded past event) → RunsOn past rest next
runs_on past next event rest asks (inl same) = inl same
runs_on past next event rest asks (inr ran) = inr (event, asks, ran)
