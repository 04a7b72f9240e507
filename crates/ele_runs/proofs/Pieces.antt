-- The answered part of a piece.
use Rattle.ele_runs.proofs.Basics.{◌≢◌, ◌≡◌, ℕ, ◌+◌, ◌<◌, ◌≤◌, ◌⊎◌, List, [], ◌∷◌, ◌++◌, length, take, drop, get_or, Option, Some, None, Result, Ok, Err, refl, sym, ap, subst, ◌∙◌, arith, append_assoc, length-append, inl, inr, true, false, ◌==◌, zero, nat_tests, suc, IsErr, length-drop, eq-eqb, eqb-true, AllByRecursion}
use Rattle.ele_runs.proofs.Words.{Outlet, IsTold, line_unless_long, IsUnbroken, whole_line, whole_lines, AreTold, Answers, AnswersAll, AnswersLast, AnswersSome, RunState, PutsBlock}
use Rattle.ele_lists.proofs.Alls.{all-append}
use Rattle.ele_lists.proofs.Taken.{cut-at}
use Rattle.std.specs.Prelude.{Bool}
use Rattle.std.specs.Option.{option_and_then}
use Rattle.ele_runs.specs.Piece.{AnswersBy}
use Rattle.memchr.specs.Find.{IsFirstByte, is_byte}
use Rattle.ele_output.specs.declared.fault.WriteFault.{WriteFault}
use Rattle.ele_runs.proofs.Ran.{told_push, joined_push}
use Rattle.ele_output.specs.Outlet.{Puts}
use Rattle.ele_output.proofs.Known.{puts_nil, puts_then}

-- these lines of a piece were answered, and this is left of it; only the first line may begin before the piece
pub record HasAnswered (before state : RunState) (part piece left : List ℕ) (buffer : Option (List ℕ)) (old new : Outlet) : Type 0 where
  pub lines : List (List ℕ)
  pub begun : List ℕ
  pub text : List ℕ
  pub parts : part ++ piece ≡ whole_lines lines ++ (begun ++ left)
  pub whole : AllByRecursion IsUnbroken lines
  pub unbroken : IsUnbroken begun
  pub counted : before.number + length lines ≡ state.number
  pub goes_on : state.ended ≡ false
  pub few : length lines + length left ≤ length piece
  pub first : (begun ≡ []) ⊎ (lines ≡ [])
  pub keeps : buffer ≡ line_unless_long begun
  pub told : AreTold before lines text state
  pub put : Puts old new text

-- each line counts
pub number_told : {before after : RunState} {told : List ℕ} {line : Option (List ℕ)} → IsTold before line told after → after.number ≡ before.number + 1
number_told is = ap (λ (c : RunState). c.number) is.after_is

-- which lines were answered, by whether one of them ended the run
pub all_of : {before after : RunState} {part piece : List ℕ} {buffer : Option (List ℕ)} {old new : Outlet} (ended : Bool) → ended ≡ false → AnswersBy ended before after part piece buffer old new
    → AnswersAll before after part piece buffer old new
all_of false is answers = answers
all_of true is answers = absurd cc

pub last_of : {before after : RunState} {part piece : List ℕ} {buffer : Option (List ℕ)} {old new : Outlet} (ended : Bool) → ended ≡ true → AnswersBy ended before after part piece buffer old new
    → AnswersLast before after part piece buffer old new
last_of true is answers = answers
last_of false is answers = absurd cc

-- nothing was answered yet
pub answered_none : (before : RunState) (part piece : List ℕ) (buffer : Option (List ℕ)) (old : Outlet)
    → before.ended ≡ false → IsUnbroken part → buffer ≡ line_unless_long part → HasAnswered before before part piece piece buffer old old
answered_none before part piece buffer old goes_on whole keeps =
    record {
      lines = [];
      begun = part;
      text = [];
      parts = refl;
      whole = tt;
      unbroken = whole;
      counted = omega arith;
      goes_on = goes_on;
      few = omega arith;
      first = inr refl;
      keeps = keeps;
      told = (refl, refl);
      put = puts_nil old;
    }

-- a search without a result passes no line feed
pub none_found : (xs : List ℕ) → IsFirstByte (is_byte 10) xs None → IsUnbroken xs
none_found [] h = tt
none_found (x ∷ xs) h =
    (λ e. h 0 (omega arith) (omega arith) (eq-eqb x 10 e), none_found xs (λ k low high is. h (suc k) (omega arith) (omega (arith, high)) is))

-- nor does one before its result
unbroken_before : (xs : List ℕ) (n : ℕ) → ((k : ℕ) → k < n → (get_or xs k 0 == 10) ≡ true → ⊥) → IsUnbroken (take n xs)
unbroken_before xs zero h = tt
unbroken_before [] (suc n) h = tt
unbroken_before (x ∷ xs) (suc n) h =
    (λ e. h 0 (omega arith) (eq-eqb x 10 e), unbroken_before xs n (λ k lt is. h (suc k) (omega (arith, lt)) is))

-- a line that is too long stays too long
pub kept_more : (line bytes : List ℕ) → option_and_then (λ line. line_unless_long (line ++ bytes)) (line_unless_long line) ≡ line_unless_long (line ++ bytes)
kept_more line bytes = grind (arith, nat_tests, length-append)

line_parts : (begun line behind : List ℕ) → begun ++ (line ++ 10 ∷ behind) ≡ whole_line (begun ++ line) ++ behind
line_parts begun line behind = sym (append_assoc begun line (10 ∷ behind)) ∙ sym (append_assoc (begun ++ line) (10 ∷ []) behind)

module _ {before between : RunState} {part piece left : List ℕ} {buffer : Option (List ℕ)} {old mid : Outlet} (done : HasAnswered before between part piece left buffer old mid) where
  -- the place of the next line feed
  parts_at : (at : ℕ) → IsFirstByte (is_byte 10) left (Some at) → part ++ piece ≡ whole_lines (done.lines ++ (done.begun ++ take at left) ∷ []) ++ drop (at + 1) left
  parts_at at h =
      let line = done.begun ++ take at left in
      done.parts ∙ ap (λ (w : List ℕ). whole_lines done.lines ++ (done.begun ++ w)) (cut-at left at 10 0 h.0.high (eqb-true (get_or left at 0) 10 h.1))
      ∙ ap (λ (w : List ℕ). whole_lines done.lines ++ w) (line_parts done.begun (take at left) (drop (at + 1) left))
      ∙ sym (append_assoc (whole_lines done.lines) (whole_line line) (drop (at + 1) left))
      ∙ ap (λ (w : List ℕ). w ++ drop (at + 1) left) (sym (joined_push done.lines line))

  whole_at : (at : ℕ) → IsFirstByte (is_byte 10) left (Some at) → AllByRecursion IsUnbroken (done.lines ++ (done.begun ++ take at left) ∷ [])
  whole_at at h =
      all-append IsUnbroken done.lines ((done.begun ++ take at left) ∷ []) done.whole
      (all-append (λ b. b ≢ 10) done.begun (take at left) done.unbroken (unbroken_before left at (λ k lt is. h.0.before k (omega arith) lt is)), tt)

  kept_at : (at : ℕ) (line : List ℕ) → line ≡ take at left → option_and_then (λ (l : List ℕ). line_unless_long (l ++ line)) buffer ≡ line_unless_long (done.begun ++ take at left)
  kept_at at line e =
      ap (λ (l : List ℕ). option_and_then (λ (b : List ℕ). line_unless_long (b ++ l)) buffer) e ∙ ap (option_and_then (λ (b : List ℕ). line_unless_long (b ++ take at left))) done.keeps ∙ kept_more done.begun (take at left)

  -- one line more is answered
  module _ {after : RunState} {new : Outlet} (at : ℕ) (line : List ℕ) (h : IsFirstByte (is_byte 10) left (Some at)) (e : line ≡ take at left)
      (wrote : PutsBlock between (option_and_then (λ l. line_unless_long (l ++ line)) buffer) after mid new) where
    block_at : IsTold between (line_unless_long (done.begun ++ take at left)) wrote.block after
    block_at = subst (λ (l : Option (List ℕ)). IsTold between l wrote.block after) (kept_at at line e) wrote.is

    told_at : AreTold before (done.lines ++ (done.begun ++ take at left) ∷ []) (done.text ++ wrote.block) after
    told_at = told_push before between after done.lines (done.begun ++ take at left) done.text wrote.block done.told block_at

    -- and did not end the run
    pub answered_more : {buffer' : Option (List ℕ)} (left' : List ℕ) → left' ≡ drop (at + 1) left → after.ended ≡ false → buffer' ≡ Some []
        → HasAnswered before after part piece left' buffer' old new
    answered_more left' f goes_on begun =
        record {
          lines = done.lines ++ (done.begun ++ take at left) ∷ [];
          begun = [];
          text = done.text ++ wrote.block;
          parts = parts_at at h ∙ ap (λ (w : List ℕ). whole_lines (done.lines ++ (done.begun ++ take at left) ∷ []) ++ w) (sym f);
          whole = whole_at at h;
          unbroken = tt;
          counted = omega (arith, done.counted, number_told block_at, length-append done.lines ((done.begun ++ take at left) ∷ []));
          goes_on = goes_on;
          few = omega (arith, done.few, length-append done.lines ((done.begun ++ take at left) ∷ []), ap length f, length-drop (at + 1) left, h.0.high);
          first = inl refl;
          keeps = begun;
          told = told_at;
          put = puts_then done.put wrote.put;
        }

    -- and ended it
    pub answers_last : {buffer' : Option (List ℕ)} → after.ended ≡ true → buffer' ≡ option_and_then (λ l. line_unless_long (l ++ line)) buffer
        → AnswersBy after.ended before after part piece buffer' old new
    answers_last {buffer'} ended kept =
        subst (λ (over : Bool). AnswersBy over before after part piece buffer' old new) (sym ended) (record {
          lines = done.lines;
          line = done.begun ++ take at left;
          rest = drop (at + 1) left;
          text = done.text ++ wrote.block;
          parts = parts_at at h;
          whole = whole_at at h;
          counted = omega (arith, done.counted, number_told block_at);
          keeps = kept ∙ kept_at at line e;
          ended = ended;
          told = told_at;
          put = puts_then done.put wrote.put;
        })

    -- and the writer failed in its block
    pub answered_some : AnswersSome before after part piece old new
    answered_some = record {
      lines = done.lines ++ (done.begun ++ take at left) ∷ [];
      rest = drop (at + 1) left;
      text = done.text ++ wrote.block;
      parts = parts_at at h;
      whole = whole_at at h;
      told = told_at;
      put = puts_then done.put wrote.put;
    }

  -- no line feed is left
  pub answers_all : {buffer' : Option (List ℕ)} → IsFirstByte (is_byte 10) left None → buffer' ≡ option_and_then (λ l. line_unless_long (l ++ left)) buffer
      → AnswersBy between.ended before between part piece buffer' old mid
  answers_all {buffer'} h pushed =
      subst (λ (over : Bool). AnswersBy over before between part piece buffer' old mid) (sym done.goes_on) (record {
        lines = done.lines;
        last = done.begun ++ left;
        text = done.text;
        are = record { parts = done.parts; whole = done.whole; cut = all-append (λ b. b ≢ 10) done.begun left done.unbroken (none_found left h) };
        counted = done.counted;
        few = few_of done.begun done.first;
        keeps = pushed ∙ kept_at_end;
        goes_on = done.goes_on;
        told = done.told;
        put = done.put;
      })
    where
      kept_at_end : option_and_then (λ (b : List ℕ). line_unless_long (b ++ left)) buffer ≡ line_unless_long (done.begun ++ left)
      kept_at_end = ap (option_and_then (λ (b : List ℕ). line_unless_long (b ++ left))) done.keeps ∙ kept_more done.begun left

      few_of : (begun : List ℕ) → (begun ≡ []) ⊎ (done.lines ≡ []) → (length done.lines + length (begun ++ left) ≤ length piece) ⊎ (done.lines ≡ [])
      few_of begun (inl e) = inl (rw e done.few)
      few_of begun (inr e) = inr e

-- an error is the writer's
pub answers_err : {A : Type 0} (before after : RunState) (part piece : List ℕ) (buffer : Option (List ℕ)) (old new : Outlet) (r : Result A WriteFault)
    → IsErr r → AnswersSome before after part piece old new → Answers before after part piece buffer old new r
answers_err before after part piece buffer old new (Ok x) is h = absurd cc
answers_err before after part piece buffer old new (Err x) is h = h
