-- Why words are no command, by the first five of them.
use Rattle.ele_reasons.proofs.Basics.{nat_tests, ◌≡◌, ◌≢◌, ℕ, ◌+◌, ◌<◌, ◌≤◌, ◌==◌, Bool, true, List, [], ◌∷◌, ◌++◌, zero, suc, length, take, drop, refl, true≢false, sym, ap, ◌∙◌, arith, inl, inr, append_assoc, length-append, take-append-drop, subst, map, length-map, Option, Some, None, Result, Ok, Err, IfOk}
use Rattle.ele_reasons.proofs.Prelude.{OneMeaning, Command, LineFault, WordKind, command_words, kinds_behind, kinds_if, kinds_of, longest_line, words_of, is_worded}
use Rattle.ele_reasons.proofs.Prelude.{IsFirstWordFault, FitsCommand, IsFaultOfWords, IsFirstFault, too_long, not_worded, of_words, no_command, of_word}
use Rattle.ele_script.specs.CommandOf.{command_in}
use Rattle.ele_reasons.specs.Hints.{hint_of}
use Rattle.ele_script.specs.Memory.{WordTakesMemory, any_takes}
use Rattle.ele_reasons.specs.Reason.{IsFirstBadWord, IsReasonOfWords, IsUnknown, fault_of, is_marked}
use Rattle.ele_printer.specs.declared.fault.LineFault.TheVariants.{Syntax}
use Rattle.ele_reasons.specs.Reason as why
use Rattle.ele_reasons.specs.ReasonFound.{AreOfKinds, IsCommand, TakesBehind}
use Rattle.ele_reasons.specs.declared.reasons.Hint.{Hint}
use Rattle.ele_reasons.specs.declared.reasons.Reason.{Reason}
use Rattle.ele_reasons.specs.declared.reasons.Reason.TheVariants.{NoCommand, Words}
use Rattle.ele_script.proofs.Laws.{moved}
use Rattle.ele_script.proofs.Commands.{allowed_found, command_in-words, one_fit, words_found}
use Rattle.std.specs.Prelude.{nat_lt, ◌-◌, IfNone, IfSome, OnErr}
use Rattle.std.proofs.lemmas.List.{append-nil}
use Rattle.ele_script.proofs.Values.{faultless_word}

-- the first bad word has the first fault
first_fault : (before : ℕ) (kinds : List WordKind) (words : List (List ℕ)) (reason : Reason) → IsFirstBadWord before kinds words reason → IsFirstWordFault kinds words (fault_of reason)
first_fault before (kind ∷ kinds) (word ∷ words) reason (inl bad) = inl (rw bad.4 bad.2)
first_fault before (kind ∷ kinds) (word ∷ words) reason (inr bad) = inr (bad.0, first_fault (before + 1) kinds words reason bad.1)
first_fault before kinds words reason bad = absurd bad

-- the reason of words has their fault
pub words_fault : {explains : Bool} (words : List (List ℕ)) (reason : Reason) → IsReasonOfWords explains words reason → IsFaultOfWords explains words (fault_of reason)
words_fault words reason (why.no_command number none unknown is) = no_command (λ c xs fits. none c xs fits.allowed fits.are) (rw is refl)
words_fault words reason (why.miscounted command arguments allowed are count is) =
    no_command (λ c xs fits. let same = one_fit words c command xs arguments fits.are are in count (rw (sym same.0, sym same.1) fits.count)) (rw is refl)
words_fault words reason (why.of_word command arguments fits bad) =
    of_word command arguments fits (first_fault (length (command_words command)) (kinds_behind command arguments) arguments reason bad)

-- a command has at most four words
few_words : (command : Command) (ended : Bool) → length (command_words command) + length (kinds_if command ended) ≤ 4
few_words command ended = grind arith

-- with an end, the kinds are all of the command's
kinds_whole : (command : Command) → length (kinds_if command true) ≡ length (kinds_of command)
kinds_whole command = grind arith

lt_true : {m n : ℕ} → m < n → nat_lt m n ≡ true
lt_true lt = grind (arith, nat_tests, lt)

few_kinds : (command : Command) (ended : Bool) → length (kinds_if command ended) ≤ 3
few_kinds command ended = grind arith

take_short : {A : Type 0} (n : ℕ) (xs : List A) → length (take n xs) < n → take n xs ≡ xs
take_short zero xs lt = absurd (omega (arith, lt))
take_short (suc n) [] lt = refl
take_short (suc n) (x ∷ xs) lt = ap (λ ys. x ∷ ys) (take_short n xs (omega (arith, lt)))

-- if the first five words fit a command, they are all
pub all_fit : {explains : Bool} (words : List (List ℕ)) (command : Command) (arguments : List (List ℕ)) → FitsCommand explains (take 5 words) command arguments → take 5 words ≡ words
all_fit words command arguments fits =
    take_short 5 words (omega (arith, ap length fits.are, length-append (command_words command) arguments, fits.count, few_words command (length arguments == length (kinds_of command))))

take_front : (command : Command) (arguments : List (List ℕ)) → (rest : List (List ℕ)) × (take 5 (command_words command ++ arguments) ≡ command_words command ++ rest)
take_front command arguments = (take (5 - length (command_words command)) arguments, grind arith)

unknown_first : (explains : Bool) (words : List (List ℕ)) (number : ℕ) → IsUnknown explains (take 5 words) number → IsUnknown explains words number
unknown_first explains [] number is = is
unknown_first explains (word ∷ words) number is = is

few_name : (command : Command) → length (command_words command) ≤ 2
few_name command = grind arith

taken_all : {A : Type 0} (n : ℕ) (xs : List A) (x : A) (rest : List A) → drop n xs ≡ x ∷ rest → length (take n xs) ≡ n
taken_all zero xs x rest more = refl
taken_all (suc n) [] x rest more = absurd cc
taken_all (suc n) (y ∷ xs) x rest more = ap suc (taken_all n xs x rest more)

-- the wrong number of words among the first five is the wrong number in all
miscounted_all : (words : List (List ℕ)) (command : Command) (arguments : List (List ℕ)) → take 5 words ≡ command_words command ++ arguments → length arguments ≢ length (kinds_behind command arguments)
    → length (arguments ++ drop 5 words) ≢ length (kinds_behind command (arguments ++ drop 5 words))
miscounted_all words command arguments are count same = by_rest (drop 5 words) refl where
  by_rest : (rest : List (List ℕ)) → drop 5 words ≡ rest → ⊥
  by_rest [] none = count (rw (none, append-nil arguments) at same)
  by_rest (word ∷ rest) more =
      let many = taken_all 5 words word rest more in
      omega (arith, same, many, ap length are, length-append (command_words command) arguments, length-append arguments (drop 5 words), ap length more, few_name command, few_kinds command (length (arguments ++ drop 5 words) == length (kinds_of command)))

hint_first : (words : List (List ℕ)) (number : ℕ) → hint_of number (take 5 words) ≡ hint_of number words
hint_first [] number = refl
hint_first (word ∷ words) number = refl

-- too many words among the first five are too many in all
more_all : (words : List (List ℕ)) (command : Command) (arguments : List (List ℕ)) → take 5 words ≡ command_words command ++ arguments
    → nat_lt (length (kinds_of command)) (length arguments) ≡ nat_lt (length (kinds_of command)) (length (arguments ++ drop 5 words))
more_all words command arguments are = by_rest (drop 5 words) refl where
  by_rest : (rest : List (List ℕ)) → drop 5 words ≡ rest → nat_lt (length (kinds_of command)) (length arguments) ≡ nat_lt (length (kinds_of command)) (length (arguments ++ drop 5 words))
  by_rest [] none = rw (none, append-nil arguments) refl
  by_rest (word ∷ rest) more =
      let many = taken_all 5 words word rest more in
      let few = few_words command true in
      let front : length (kinds_of command) < length arguments = omega (arith, many, ap length are, length-append (command_words command) arguments, few, kinds_whole command) in
      lt_true front ∙ sym (lt_true (omega (arith, front, length-append arguments (drop 5 words))))

-- the reason of the first five words is that of all
pub all_reason : {explains : Bool} (words : List (List ℕ)) (reason : Reason) → IsReasonOfWords explains (take 5 words) reason → IsReasonOfWords explains words reason
all_reason {explains} words reason (why.no_command number none unknown is) =
    why.no_command number (λ c xs allowed are. let front = take_front c xs in none c front.0 allowed (ap (λ (ws : List (List ℕ)). take 5 ws) are ∙ front.1)) (unknown_first explains words number unknown) (is ∙ ap (NoCommand number) (hint_first words number))
all_reason words reason (why.miscounted command arguments allowed are count is) =
    let parts : words ≡ command_words command ++ (arguments ++ drop 5 words) =
    sym (take-append-drop 5 words) ∙ ap (λ (ws : List (List ℕ)). ws ++ drop 5 words) are ∙ append_assoc (command_words command) arguments (drop 5 words) in
    why.miscounted command (arguments ++ drop 5 words) allowed parts (miscounted_all words command arguments are count) (is ∙ ap (Words command) (more_all words command arguments are))
all_reason {explains} words reason (why.of_word command arguments fits bad) =
    let same = all_fit words command arguments fits in subst (λ ws. IsReasonOfWords explains ws reason) same (why.of_word command arguments fits bad)

-- words of their kinds have no bad word
no_first : (law : OneMeaning) (kinds : List WordKind) (words : List (List ℕ)) (fault : LineFault) → AreOfKinds kinds words → IsFirstWordFault kinds words fault → ⊥
no_first law (kind ∷ kinds) (word ∷ words) fault are (inl bad) = faultless_word law kind word fault are.0 bad
no_first law (kind ∷ kinds) (word ∷ words) fault are (inr bad) = no_first law kinds words fault are.1 bad.1
no_first law kinds words fault are bad = absurd bad

-- a command with the words that it takes has no fault
command_faultless : {explains : Bool} (law : OneMeaning) (words : List (List ℕ)) (fault : LineFault) → IsCommand explains words → IsFaultOfWords explains words fault → ⊥
command_faultless law words fault is (no_command none syntax) = none is.command is.arguments is.fits
command_faultless law words fault is (of_word command arguments fits bad) =
    let same = one_fit words command is.command arguments is.arguments fits.are is.fits.are in
    no_first law (kinds_behind is.command is.arguments) is.arguments fault is.are (moved fault same.0 same.1 bad)

-- nor has its line
pub faultless_line : {explains : Bool} (law : OneMeaning) (line : List ℕ) (first : List (List ℕ)) → length line ≤ longest_line → is_worded line ≡ true → first ≡ take 5 (words_of line) → IsCommand explains first → (fault : LineFault) → ¬ IsFirstFault explains line fault
faultless_line law line first short worded is command fault (too_long long other) = omega (arith, long, short)
faultless_line law line first short worded is command fault (not_worded also broken other) = true≢false (sym worded ∙ broken)
faultless_line {explains} law line first short worded is command fault (of_words also whole bad) =
    let found = subst (IsCommand explains) is command in
    command_faultless law (words_of line) fault (subst (IsCommand explains) (all_fit (words_of line) found.command found.arguments found.fits) found) bad

-- words that begin with no command
pub unknown_reason : {explains : Bool} (words : List (List ℕ)) (number : ℕ) (hint : Hint) → command_in explains words ≡ None → IsUnknown explains words number → hint ≡ hint_of number words → IsReasonOfWords explains words (NoCommand number hint)
unknown_reason {explains} words number hint none unknown meant = why.no_command number (λ c xs allowed are. absurd (let found = ap (command_in explains) are ∙ command_in-words explains c xs allowed in grind (arith, none, found))) unknown (ap (NoCommand number) meant)

-- the kinds after a command are the same for words and for their bytes
pub kinds_are : {A : Type 0} (command : Command) (bytes : A → List ℕ) (behind : List A) (kinds : List WordKind) → kinds ≡ kinds_if command (length behind == length (kinds_of command)) → kinds ≡ kinds_behind command (map bytes behind)
kinds_are command bytes behind kinds is = rw (length-map behind bytes) is

-- the wrong number of words after a command
pub words_miscounted : {explains : Bool} (words : List (List ℕ)) (command : Command) (arguments : List (List ℕ)) (more : Bool) → command_in explains words ≡ Some (command, arguments) → length arguments ≢ length (kinds_behind command arguments)
    → more ≡ nat_lt (length (kinds_of command)) (length arguments) → IsReasonOfWords explains words (Words command more)
words_miscounted {explains} words command arguments more found count many = why.miscounted command arguments (allowed_found explains words command arguments found) (words_found explains words command arguments found) count (ap (Words command) many)

-- the right number
pub words_fit : {explains : Bool} (words : List (List ℕ)) (command : Command) (arguments : List (List ℕ)) → command_in explains words ≡ Some (command, arguments) → length arguments ≡ length (kinds_behind command arguments) → FitsCommand explains words command arguments
words_fit {explains} words command arguments found count = record { allowed = allowed_found explains words command arguments found; are = words_found explains words command arguments found; count = count }

-- what holds of the words after a command holds of all
pub reason_some : {explains : Bool} {E : Type 0} (words : List (List ℕ)) (command : Command) (arguments : List (List ℕ)) (before : ℕ) (r : Result (Option Reason) E) → FitsCommand explains words command arguments → before ≡ length (command_words command)
    → IfOk r (λ found. IfSome found (IsFirstBadWord before (kinds_behind command arguments) arguments)) → IfOk r (λ found. IfSome found (IsReasonOfWords explains words))
reason_some words command arguments before (Ok None) fits is some = tt
reason_some words command arguments before (Ok (Some reason)) fits is some = why.of_word command arguments fits (rw is at some)
reason_some words command arguments before (Err e) fits is some = tt

pub reason_none : {explains : Bool} {E : Type 0} (words : List (List ℕ)) (command : Command) (arguments : List (List ℕ)) (r : Result (Option Reason) E) → FitsCommand explains words command arguments
    → IfOk r (λ found. IfNone found (AreOfKinds (kinds_behind command arguments) arguments)) → IfOk r (λ found. IfNone found (IsCommand explains words))
reason_none words command arguments (Ok None) fits none = record { command = command; arguments = arguments; fits = fits; are = none }
reason_none words command arguments (Ok (Some reason)) fits none = tt
reason_none words command arguments (Err e) fits none = tt

pub reason_memory : {explains : Bool} {A E : Type 0} (words : List (List ℕ)) (command : Command) (arguments : List (List ℕ)) (r : Result A E) → FitsCommand explains words command arguments
    → OnErr r (any_takes (kinds_behind command arguments) arguments ≡ true) → OnErr r (TakesBehind explains words)
reason_memory words command arguments (Ok x) fits takes = tt
reason_memory words command arguments (Err e) fits takes = record { command = command; arguments = arguments; fits = fits; takes = takes }

-- what holds of the first five words holds of the line
pub line_some : {E : Type 0} (explains : Bool) (line : List ℕ) (first : List (List ℕ)) (r : Result (Option Reason) E) → length line ≤ longest_line → is_worded line ≡ true → first ≡ take 5 (words_of line) → IfOk r (λ found. IfSome found (IsReasonOfWords explains first))
    → IfOk r (λ found. IfSome found (why.IsReason explains line))
line_some explains line first (Ok None) short worded is some = tt
line_some explains line first (Ok (Some reason)) short worded is some = why.of_words short worded (all_reason (words_of line) reason (rw is at some))
line_some explains line first (Err e) short worded is some = tt

pub line_fault : {E : Type 0} (explains : Bool) (line : List ℕ) (first : List (List ℕ)) (r : Result (Option Reason) E) → length line ≤ longest_line → is_worded line ≡ true → first ≡ take 5 (words_of line) → IfOk r (λ found. IfSome found (IsReasonOfWords explains first))
    → IfOk r (λ found. IfSome found (λ reason. IsFirstFault explains line (fault_of reason)))
line_fault explains line first (Ok None) short worded is some = tt
line_fault explains line first (Ok (Some reason)) short worded is some = of_words short worded (words_fault (words_of line) reason (all_reason (words_of line) reason (rw is at some)))
line_fault explains line first (Err e) short worded is some = tt

pub line_none : {E : Type 0} (explains : Bool) (law : OneMeaning) (line : List ℕ) (first : List (List ℕ)) (r : Result (Option Reason) E) → length line ≤ longest_line → is_worded line ≡ true → first ≡ take 5 (words_of line) → IfOk r (λ found. IfNone found (IsCommand explains first))
    → IfOk r (λ found. IfNone found ((fault : LineFault) → ¬ IsFirstFault explains line fault))
line_none explains law line first (Ok None) short worded is none = faultless_line law line first short worded is none
line_none explains law line first (Ok (Some reason)) short worded is none = tt
line_none explains law line first (Err e) short worded is none = tt

pub line_memory : {A E : Type 0} (explains : Bool) (words first : List (List ℕ)) (r : Result A E) → first ≡ take 5 words → OnErr r (TakesBehind explains first) → OnErr r (WordTakesMemory explains words)
line_memory explains words first (Ok x) is takes = tt
line_memory explains words first (Err e) is takes =
    let found = subst (TakesBehind explains) is takes in
    record { command = found.command; allowed = found.fits.allowed; arguments = found.arguments; are = sym (all_fit words found.command found.arguments found.fits) ∙ found.fits.are; takes = found.takes }

-- a byte order mark has bytes that no word may have
pub marked_fault : (explains : Bool) (line : List ℕ) → length line ≤ longest_line → is_marked line ≡ true → IsFirstFault explains line Syntax
marked_fault explains [] short marked = absurd cc
marked_fault explains (byte ∷ bytes) short marked = not_worded short (grind (arith, nat_tests, marked)) refl
