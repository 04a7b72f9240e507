-- A script that is heard line by line.
use Rattle.std.proofs.Common.{List, None, Some, [], ap, append-nil, append_assoc, arith, drop, false, get_or, length, refl, subst, suc, sym, take, zero, ℕ, ◌++◌, ◌+◌, ◌<◌, ◌==◌, true, ◌∙◌, ◌∷◌, ◌≡◌, ◌≢◌}
use Rattle.ele_lists.proofs.Alls.{all-append}
use Rattle.ele_lists.proofs.Taken.{cut-at}
use Rattle.ele_evidence.specs.Verdict.{line_after}
use Rattle.ele_history.specs.Past.{Past}
use Rattle.std.specs.Prelude.{Err}
use Rattle.ele_recording.specs.Heard.{FailsToHear, HearsAll}
use Rattle.ele_recording.specs.Recording.{AreHeard, HasHeard, Hears, IsCut, IsRecording, IsUnanswered, is_answered}
use Rattle.ele_recording.specs.declared.recording.Unrecorded.{Unrecorded}
use Rattle.ele_recording.specs.declared.recording.Unrecorded.TheVariants.{Cut, Line, Trimmed}
use Rattle.ele_runs.specs.Lines.{IsUnbroken, whole_line, whole_lines}
use Rattle.ele_runs.specs.declared.said.Said.{Said}
use Rattle.memchr.specs.Find.{IsFirstByte, is_byte}
use Rattle.std.proofs.lemmas.Bool.Decides.{nat_tests}
use Rattle.std.proofs.lemmas.Bool.{eq-eqb, eqb-true}
use Rattle.std.proofs.lemmas.List.{take_all}
use Rattle.std.proofs.lemmas.List.Concat.{flat_map-append}

-- no line yet
pub heard_none : (start : Past) (script : List ℕ) (past : Past) → past ≡ start → HasHeard start script past script
heard_none start script past is = record { lines = []; whole = tt; parts = refl; heard = is }

-- bytes before the first line feed are a line
unbroken_before : (xs : List ℕ) (n : ℕ) → ((k : ℕ) → k < n → (get_or xs k 0 == 10) ≡ true → ⊥) → IsUnbroken (take n xs)
unbroken_before xs zero h = tt
unbroken_before [] (suc n) h = tt
unbroken_before (x ∷ xs) (suc n) h =
    (λ e. h 0 (omega arith) (eq-eqb x 10 e), unbroken_before xs n (λ k lt is. h (suc k) (omega (arith, lt)) is))

pub first_unbroken : (rest : List ℕ) (at : ℕ) → IsFirstByte (is_byte 10) rest (Some at) → IsUnbroken (take at rest)
first_unbroken rest at first = unbroken_before rest at (λ k lt is. first.0.before k (omega arith) lt is)

pub all_unbroken : (rest : List ℕ) → IsFirstByte (is_byte 10) rest None → IsUnbroken rest
all_unbroken rest none =
    subst IsUnbroken (take_all (length rest) rest (omega arith)) (unbroken_before rest (length rest) (λ k lt is. none k (omega arith) lt is))

pub cut_line : (rest : List ℕ) (at : ℕ) → IsFirstByte (is_byte 10) rest (Some at) → rest ≡ take at rest ++ 10 ∷ drop (at + 1) rest
cut_line rest at first = cut-at rest at 10 0 first.0.high (eqb-true (get_or rest at 0) 10 first.1)

-- one line more
heard_then : (before between after : Past) (lines : List (List ℕ)) (line : List ℕ) (said : Said) → AreHeard before lines between → Hears between line said after → is_answered said ≡ true → AreHeard before (lines ++ line ∷ []) after
heard_then before between after [] line said heard hears answered =
    (said, after, subst (λ (past : Past). Hears past line said after) heard hears, answered, refl)
heard_then before between after (first ∷ lines) line said heard hears answered =
    (heard.0, heard.1, heard.2, heard.3, heard_then heard.1 between after lines line said heard.4 hears answered)

one_line : (lines : List (List ℕ)) (line behind : List ℕ) → whole_lines lines ++ (line ++ 10 ∷ behind) ≡ whole_lines (lines ++ line ∷ []) ++ behind
one_line lines line behind =
    let front = whole_lines lines in
    ap (λ (t : List ℕ). front ++ t) (sym (append_assoc line (10 ∷ []) behind) ∙ ap (λ (t : List ℕ). t ++ behind) (sym (append-nil (whole_line line))))
    ∙ (sym (append_assoc front (whole_lines (line ∷ [])) behind)
    ∙ ap (λ (t : List ℕ). t ++ behind) (sym (flat_map-append whole_line lines (line ∷ []))))

pub heard_more : (start : Past) (script rest : List ℕ) (at : ℕ) (said : Said) (past next : Past) → HasHeard start script past rest → IsFirstByte (is_byte 10) rest (Some at) → Hears past (take at rest) said next → is_answered said ≡ true → HasHeard start script next (drop (at + 1) rest)
heard_more start script rest at said past next so first hears answered = record {
  lines = so.lines ++ take at rest ∷ [];
  whole = all-append (λ (line : List ℕ). IsUnbroken line) so.lines (take at rest ∷ []) so.whole (first_unbroken rest at first, tt);
  parts = so.parts ∙ (ap (λ (t : List ℕ). whole_lines so.lines ++ t) (cut_line rest at first) ∙ one_line so.lines (take at rest) (drop (at + 1) rest));
  heard = heard_then start past next so.lines (take at rest) said so.heard hears answered;
}

pub unanswered : (start : Past) (script rest : List ℕ) (at number : ℕ) (said : Said) (past after : Past) → HasHeard start script past rest → IsFirstByte (is_byte 10) rest (Some at) → Hears past (take at rest) said after → is_answered said ≡ false
    → ((right : List ℕ) → script ≡ right ++ rest → number ≡ line_after right) → IsUnanswered start script number said
unanswered start script rest at number said past after so first hears none number_is = record {
  past = past;
  after = after;
  line = take at rest;
  behind = drop (at + 1) rest;
  before = record {
    lines = so.lines;
    whole = so.whole;
    parts = so.parts ∙ ap (λ (t : List ℕ). whole_lines so.lines ++ t) (cut_line rest at first);
    heard = so.heard;
  };
  hears = hears;
  unanswered = none;
  number_is = number_is (whole_lines so.lines) so.parts;
}

pub cut : (start : Past) (script rest : List ℕ) (number : ℕ) (past : Past) → HasHeard start script past rest → IsFirstByte (is_byte 10) rest None → rest ≢ [] → ((right : List ℕ) → script ≡ right ++ rest → number ≡ line_after right) → IsCut start script number
cut start script rest number past so none some number_is = record {
  past = past;
  last = rest;
  before = so;
  some = some;
  cut = all_unbroken rest none;
  number_is = number_is (whole_lines so.lines) so.parts;
}

-- the first line that wasn't answered is why there is no recording
pub not_heard : (start : Past) (script : List ℕ) (why : Unrecorded) → FailsToHear start script why → IsRecording start script (Err why)
not_heard start script (Line number said) is = is
not_heard start script (Cut number) is = absurd is
not_heard start script Trimmed is = absurd is

some_bytes : (rest : List ℕ) → (length rest == 0) ≡ false → rest ≢ []
some_bytes [] some = λ e. absurd cc
some_bytes (byte ∷ rest) some = λ e. absurd cc

-- what follows the last line feed is a line that was cut off
pub cut_off : (start : Past) (script rest : List ℕ) (number : ℕ) (past : Past) → HearsAll start script rest past → (length rest == 0) ≡ false → ((right : List ℕ) → script ≡ right ++ rest → number ≡ line_after right) → IsCut start script number
cut_off start script rest number past heard some number_is = cut start script rest number past heard.heard heard.last (some_bytes rest some) number_is

-- nothing follows it
pub at_end : (start : Past) (script rest : List ℕ) (past : Past) → HearsAll start script rest past → (length rest == 0) ≡ true → HasHeard start script past []
at_end start script [] past heard none = heard.heard
at_end start script (byte ∷ rest) past heard none = absurd (grind (arith, nat_tests))
