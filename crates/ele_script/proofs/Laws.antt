-- A line asks for at most one thing, has at most one first fault, and doesn't do both.
use Rattle.ele_commands.specs.Command.{is_allowed}
use Rattle.ele_script.proofs.Basics.{Bool, false, nat_tests, ◌≡◌, ◌≢◌, ◌==◌, None, Some, ℕ, ◌≤◌, true, true≢false, List, [], ◌∷◌, length, refl, sym, ap, ◌∙◌, arith, ◌⊎◌, inl, inr, Result, Ok, Err, IfOk, IfErr, same_Some}
use Rattle.ele_script.proofs.Prelude.{OneMeaning, Line, Command, LineFault, NoMemory, WordKind, Value, word_kind, kinds_behind, kinds_if, kinds_of, longest_line, words_of, is_worded, SpellsValues, SpellsWords, SpellsLine, Asks, AsksEvent}
use Rattle.ele_script.proofs.Prelude.{IsFirstWordFault, IsFaultOfWords, no_command, of_word, IsFirstFault, too_long, not_worded, of_words, IsEventFault, of_line, no_event}
use Rattle.ele_commands.specs.Parts.{parts_of}
use Rattle.ele_model.specs.declared.event.Event.{Event}
use Rattle.ele_model.specs.declared.event.Event.TheVariants as event
use Rattle.ele_script.specs.declared.reading.Question.{Question}
use Rattle.ele_script.specs.declared.reading.Question.TheVariants as question
use Rattle.ele_script.specs.Spells.{line_parts}
use Rattle.ele_script.specs.declared.reading.Line.TheVariants as asks
use Rattle.ele_script.specs.EventOf.{event_of}
use Rattle.ele_script.proofs.Commands.{one_fit}
use Rattle.ele_script.proofs.Values.{one_value, faultless_word, one_word_fault}

-- the kinds of values
abbrev pub value_kinds : List Value → List WordKind
value_kinds [] = []
value_kinds (value ∷ values) = word_kind value ∷ value_kinds values

tails : {A : Type 0} {x y : A} {xs ys : List A} → x ∷ xs ≡ y ∷ ys → xs ≡ ys
tails h = cc

parts_is : (c d : Command) (vs us : List Value) → c ≡ d → vs ≡ us → let p : Command × List Value = (c, vs) in let q : Command × List Value = (d, us) in p ≡ q
parts_is c d vs us p q =
    let P : Type 0 = Command × List Value in
    ap (λ (e : Command). let r : P = (e, vs) in r) p ∙ ap (λ (ws : List Value). let r : P = (d, ws) in r) q

as_many : (words : List (List ℕ)) (values : List Value) → SpellsValues words values → length words ≡ length (value_kinds values)
as_many (word ∷ words) (v ∷ vs) h = omega (arith, as_many words vs h.1)
as_many words values h = grind arith

-- what is asked for has the kinds that its words have
asked_kinds : (asked : Line) → value_kinds (line_parts asked).1 ≡ kinds_if (line_parts asked).0 (length (line_parts asked).1 == length (kinds_of (line_parts asked).0))
asked_kinds (asks.Event e) = of_event e where
  of_event : (e : Event) → value_kinds (parts_of e).1 ≡ kinds_if (parts_of e).0 (length (parts_of e).1 == length (kinds_of (parts_of e).0))
  of_event (event.Mark name moment None) = refl
  of_event (event.Mark name moment (Some end)) = refl
  of_event e = refl
asked_kinds (asks.Pass budget) = refl
asked_kinds asks.History = refl
asked_kinds asks.Trim = refl
asked_kinds (asks.Question (question.Why tagged)) = refl
asked_kinds (asks.Question (question.Ahead moment)) = refl
asked_kinds (asks.Question question.Gone) = refl
asked_kinds (asks.Question question.Handles) = refl
asked_kinds (asks.Question question.Answers) = refl
asked_kinds (asks.Question (question.Story path)) = refl
asked_kinds (asks.Question question.Removals) = refl
asked_kinds (asks.Question (question.Changes first second None)) = refl
asked_kinds (asks.Question (question.Changes first second (Some path))) = refl
asked_kinds (asks.Question (question.Expiring moment)) = refl

spelled_kinds : (words : List (List ℕ)) (asked : Line) → SpellsValues words (line_parts asked).1 → value_kinds (line_parts asked).1 ≡ kinds_behind (line_parts asked).0 words
spelled_kinds words asked spells = asked_kinds asked ∙ ap (λ n. kinds_if (line_parts asked).0 (n == length (kinds_of (line_parts asked).0))) (sym (as_many words (line_parts asked).1 spells ∙ length_kinds (line_parts asked).1)) where
  length_kinds : (values : List Value) → length (value_kinds values) ≡ length values
  length_kinds [] = refl
  length_kinds (value ∷ values) = grind (arith, length_kinds values)

pub moved : (fault : LineFault) {c d : Command} {xs ys : List (List ℕ)} → c ≡ d → xs ≡ ys → IsFirstWordFault (kinds_behind c xs) xs fault → IsFirstWordFault (kinds_behind d ys) ys fault
moved fault {c} {d} {xs} {ys} p q h = grind (arith, nat_tests)

module _ (law : OneMeaning) where
  -- words spell at most one list of values of their kinds
  one_list : (words : List (List ℕ)) (vs us : List Value) → value_kinds vs ≡ value_kinds us → SpellsValues words vs → SpellsValues words us → vs ≡ us
  one_list (word ∷ words) (v ∷ vs) (u ∷ us) k a b = grind (arith, nat_tests, one_value law, tails, one_list words vs us (tails k) a.1 b.1)
  one_list words vs us k a b = grind arith

  -- a line spells one thing
  pub one_spelling : (line : List ℕ) (a b : Line) → SpellsLine line a → SpellsLine line b → a ≡ b
  one_spelling line a b h k = grind (arith, nat_tests, one_fit, one_list, parts_is, same_Some, spelled_kinds)

  -- words that spell values of their kinds have no fault
  no_first : (words : List (List ℕ)) (values : List Value) (fault : LineFault) → SpellsValues words values → IsFirstWordFault (value_kinds values) words fault → ⊥
  no_first (word ∷ words) (v ∷ vs) fault h (inl bad) = faultless_word law (word_kind v) word fault (v, refl, h.0) bad
  no_first (word ∷ words) (v ∷ vs) fault h (inr bad) = no_first words vs fault h.1 bad.1
  no_first words values fault h bad = grind arith

  no_words : {explains : Bool} (words : List (List ℕ)) (asked : Line) (fault : LineFault) → is_allowed explains (line_parts asked).0 ≡ true → SpellsWords words asked → IsFaultOfWords explains words fault → ⊥
  no_words words asked fault allowed h x4 = grind (arith, nat_tests, as_many, one_fit, moved, no_first, spelled_kinds)

  -- a line that asks for something has no fault
  pub spelled_faultless : {explains : Bool} (line : List ℕ) (asked : Line) (fault : LineFault) → Asks explains line asked → IsFirstFault explains line fault → ⊥
  spelled_faultless line asked fault h (too_long long is) = omega (arith, long, h.short)
  spelled_faultless line asked fault h (not_worded short broken is) = true≢false (sym h.spells.worded ∙ broken)
  spelled_faultless line asked fault h (of_words short worded bad) = no_words (words_of line) asked fault h.allowed h.spells.words bad

  one_first : (kinds : List WordKind) (words : List (List ℕ)) (a b : LineFault) → IsFirstWordFault kinds words a → IsFirstWordFault kinds words b → a ≡ b
  one_first (kind ∷ kinds) (word ∷ words) a b x y = grind (arith, one_word_fault law kind word a b, faultless_word law kind word a, faultless_word law kind word b, one_first kinds words a b)
  one_first kinds words a b x y = grind arith

  one_of_words : {explains : Bool} (words : List (List ℕ)) (a b : LineFault) → IsFaultOfWords explains words a → IsFaultOfWords explains words b → a ≡ b
  one_of_words words a b (no_command unfit x) (no_command also y) = x ∙ sym y
  one_of_words words a b (no_command unfit x) (of_word c xs fits bad) = absurd (unfit c xs fits)
  one_of_words words a b (of_word c xs fits bad) (no_command unfit y) = absurd (unfit c xs fits)
  one_of_words words a b (of_word c xs fits x) (of_word d ys other y) =
      let fit = one_fit words c d xs ys fits.are other.are in one_first (kinds_behind d ys) ys a b (moved a fit.0 fit.1 x) y

  -- a line has one first fault
  pub one_fault : {explains : Bool} (line : List ℕ) (a b : LineFault) → IsFirstFault explains line a → IsFirstFault explains line b → a ≡ b
  one_fault line a b (too_long long x) (too_long other y) = x ∙ sym y
  one_fault line a b (too_long long x) (not_worded short broken y) = absurd (omega (arith, long, short))
  one_fault line a b (too_long long x) (of_words short whole y) = absurd (omega (arith, long, short))
  one_fault line a b (not_worded short broken x) (too_long long y) = absurd (omega (arith, long, short))
  one_fault line a b (not_worded short broken x) (not_worded also other y) = x ∙ sym y
  one_fault line a b (not_worded short broken x) (of_words also whole y) = absurd (true≢false (sym whole ∙ broken))
  one_fault line a b (of_words short whole x) (too_long long y) = absurd (omega (arith, long, short))
  one_fault line a b (of_words short whole x) (not_worded also broken y) = absurd (true≢false (sym whole ∙ broken))
  one_fault line a b (of_words short whole x) (of_words also other y) = one_of_words (words_of line) a b x y

  -- a line asks for what was read, and for nothing else
  pub only_read : {explains : Bool} (line : List ℕ) (r : Result Line LineFault) → IfOk r (Asks explains line) → IfErr r (λ fault. (fault ≡ NoMemory) ⊎ IsFirstFault explains line fault) → (asked : Line) → Asks explains line asked → (r ≡ Ok asked) ⊎ (r ≡ Err NoMemory)
  only_read line (Ok other) found fault asked h = inl (ap Ok (one_spelling line other asked found.spells h.spells))
  only_read line (Err other) found (inl memory) asked h = inr (ap Err memory)
  only_read line (Err other) found (inr bad) asked h = absurd (spelled_faultless line asked other h bad)

  -- and a line that was refused has that fault, if it has one
  pub only_refused : {explains : Bool} (line : List ℕ) (r : Result Line LineFault) → IfOk r (Asks explains line) → IfErr r (λ fault. (fault ≡ NoMemory) ⊎ IsFirstFault explains line fault) → (fault : LineFault) → IsFirstFault explains line fault → (r ≡ Err fault) ⊎ (r ≡ Err NoMemory)
  only_refused line (Ok asked) found is fault bad = absurd (spelled_faultless line asked fault found bad)
  only_refused line (Err other) found (inl memory) fault bad = inr (ap Err memory)
  only_refused line (Err other) found (inr is) fault bad = inl (ap Err (one_fault line other fault is bad))

-- the faults of the words of a line are the line's
pub fault_of_line : (explains : Bool) (line : List ℕ) (words : List (List ℕ)) (r : Result Line LineFault) → length line ≤ longest_line → is_worded line ≡ true → words ≡ words_of line → IfErr r (λ fault. (fault ≡ NoMemory) ⊎ IsFaultOfWords explains words fault) → IfErr r (λ fault. (fault ≡ NoMemory) ⊎ IsFirstFault explains line fault)
fault_of_line explains line words (Ok asked) short worded are h = tt
fault_of_line explains line words (Err fault) short worded are (inl memory) = inl memory
fault_of_line explains line words (Err fault) short worded are (inr bad) = inr (of_words short worded (rw are at bad))

no_pass : (budget : ℕ) (event : Event) → asks.Pass budget ≢ asks.Event event
no_pass budget event h = cc

no_history : (event : Event) → asks.History ≢ asks.Event event
no_history event h = cc

no_trim : (event : Event) → asks.Trim ≢ asks.Event event
no_trim event h = cc

no_question : (question : Question) (event : Event) → asks.Question question ≢ asks.Event event
no_question question event h = cc

-- the event that was read is the one that the line asks for
pub event_found : (line : List ℕ) (r : Result Line LineFault) → IfOk r (Asks false line) → IfOk (event_of r) (AsksEvent line)
event_found line x1 found = grind (arith, nat_tests)

-- if none was read, the line has that fault
pub event_refused : (line : List ℕ) (r : Result Line LineFault) → IfOk r (Asks false line) → IfErr r (λ fault. (fault ≡ NoMemory) ⊎ IsFirstFault false line fault) → IfErr (event_of r) (λ fault. (fault ≡ NoMemory) ⊎ IsEventFault line fault)
event_refused line (Ok (asks.Event event)) found fault = tt
event_refused line (Ok (asks.Pass budget)) found fault = inr (no_event (asks.Pass budget) found (no_pass budget) refl)
event_refused line (Ok asks.History) found fault = inr (no_event asks.History found no_history refl)
event_refused line (Ok asks.Trim) found fault = inr (no_event asks.Trim found no_trim refl)
event_refused line (Ok (asks.Question question)) found fault = inr (no_event (asks.Question question) found (no_question question) refl)
event_refused line (Err other) found (inl memory) = inl memory
event_refused line (Err other) found (inr bad) = inr (of_line bad)

-- if memory was refused, it was for the line
pub event_memory : (r : Result Line LineFault) → event_of r ≡ Err NoMemory → r ≡ Err NoMemory
event_memory r is = grind arith

-- if the line asks for an event, it was read or memory was refused
pub event_so : (r s : Result Line LineFault) → (r ≡ s) ⊎ (r ≡ Err NoMemory) → (event_of r ≡ event_of s) ⊎ (event_of r ≡ Err NoMemory)
event_so r s (inl is) = inl (ap event_of is)
event_so r s (inr none) = inr (ap event_of none)

-- if it asks for none, it was refused with its fault
pub event_fault : (line : List ℕ) (r : Result Line LineFault) → ((asked : Line) → Asks false line asked → (r ≡ Ok asked) ⊎ (r ≡ Err NoMemory)) → ((fault : LineFault) → IsFirstFault false line fault → (r ≡ Err fault) ⊎ (r ≡ Err NoMemory)) → (fault : LineFault) → IsEventFault line fault → (event_of r ≡ Err fault) ⊎ (event_of r ≡ Err NoMemory)
event_fault line r only refused fault (of_line bad) = event_so r (Err fault) (refused fault bad)
event_fault line r only refused fault (no_event (asks.Event event) is other syntax) = absurd (other event refl)
event_fault line r only refused fault (no_event (asks.Pass budget) is other syntax) = rw syntax (event_so r (Ok (asks.Pass budget)) (only (asks.Pass budget) is))
event_fault line r only refused fault (no_event asks.History is other syntax) = rw syntax (event_so r (Ok asks.History) (only asks.History is))
event_fault line r only refused fault (no_event asks.Trim is other syntax) = rw syntax (event_so r (Ok asks.Trim) (only asks.Trim is))
event_fault line r only refused fault (no_event (asks.Question question) is other syntax) = rw syntax (event_so r (Ok (asks.Question question)) (only (asks.Question question) is))
