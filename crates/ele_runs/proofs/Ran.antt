-- A run so far, and how it goes on.
use Rattle.ele_runs.proofs.Basics.{◌≡◌, ℕ, ◌+◌, ◌≤◌, ◌⊎◌, List, [], ◌∷◌, ◌++◌, length, Option, Some, false, refl, sym, ap, ◌∙◌, arith, append_assoc, length-append, append-nil, flat_map-append, flat_map-cons, Consumes, Consumes-nil, Consumes-trans}
use Rattle.ele_runs.proofs.Words.{Outlet, IsTold, most_lines, most_bytes, line_unless_long, whole_line, whole_lines, line_count, AreTold, AnswersAll, RunState}
use Rattle.ele_runs.proofs.Joins.{lines_before, told_append}
use Rattle.ele_output.specs.Outlet.{IsHandedOver, Outputs}
use Rattle.ele_output.proofs.Known.{outputs_no_more, outputs_of, outputs_then, puts_nil}
use Rattle.ele_runs.specs.Telling.{IsToldOf}

-- whole lines were read and a part of one more, and this text answers them, up to this state; so many bytes more are within the
-- bound
pub record RanSoFar (start state : RunState) (room : ℕ) (buffer input rest : Option (List ℕ)) (text : List ℕ) : Type 0 where
  pub given : List ℕ
  pub lines : List (List ℕ)
  pub part : List ℕ
  pub is : IsToldOf start given lines part text state
  pub count : length lines ≡ state.number
  pub few : line_count lines part ≤ most_lines
  pub size : length given + room ≡ most_bytes
  pub keeps : buffer ≡ line_unless_long part
  pub taken : Consumes input rest given

-- that text was put, and nothing before it is buffered
pub record PutSoFar (start state : RunState) (room : ℕ) (buffer input rest : Option (List ℕ)) (old new : Outlet) : Type 0 where
  pub none : old.held ≡ []
  pub text : List ℕ
  pub ran : RanSoFar start state room buffer input rest text
  pub put : Outputs old new text

-- a run that begins
pub ran_none : (start : RunState) (buffer input : Option (List ℕ)) (old : Outlet) → buffer ≡ Some [] → old.held ≡ []
    → start.number ≡ 0 → start.ended ≡ false → PutSoFar start start most_bytes buffer input input old old
ran_none start buffer input old clear none first goes_on =
    record {
      none = none;
      text = [];
      ran = record {
        given = [];
        lines = [];
        part = [];
        is = record { are = record { parts = refl; whole = tt; cut = tt }; few_lines = omega arith; few_bytes = omega arith; told = (refl, refl); goes_on = goes_on };
        count = sym first;
        few = omega arith;
        size = refl;
        keeps = clear;
        taken = Consumes-nil input;
      };
      put = outputs_of (puts_nil old);
    }

-- the text for some lines, and then for one more
pub told_push : (start between after : RunState) (lines : List (List ℕ)) (line text block : List ℕ)
    → AreTold start lines text between → IsTold between (line_unless_long line) block after → AreTold start (lines ++ line ∷ []) (text ++ block) after
told_push start between after lines line text block are is = told_append start between after lines (line ∷ []) text block are (block, [], after, is, (refl, refl), sym (append-nil block))

pub joined_push : (lines : List (List ℕ)) (line : List ℕ) → whole_lines (lines ++ line ∷ []) ≡ whole_lines lines ++ whole_line line
joined_push lines line = flat_map-append whole_line lines (line ∷ []) ∙ ap (λ (xs : List ℕ). whole_lines lines ++ xs) (flat_map-cons whole_line line [] ∙ append-nil (whole_line line))

-- the buffered text is handed over
pub ran_over : {start state : RunState} {room : ℕ} {buffer input rest : Option (List ℕ)} {old known new : Outlet}
    → PutSoFar start state room buffer input rest old known → Outputs known new [] × IsHandedOver new
    → PutSoFar start state room buffer input rest old new
ran_over so over = record { none = so.none; text = so.text; ran = so.ran; put = outputs_no_more so.put over.0 }

-- a line counts at most once
count_below : (lines : List (List ℕ)) (last : List ℕ) → line_count lines last ≤ length lines + length last
count_below lines last = grind arith

count_more : (before after : List (List ℕ)) (last : List ℕ) (most size : ℕ) → length before + size ≤ most → 1 ≤ size
    → (length after + length last ≤ size) ⊎ (after ≡ []) → line_count (before ++ after) last ≤ most
count_more before after last most size fits some few = grind (arith, append-nil, length-append, count_below (before ++ after) last)

pub few_whole : (lines : List (List ℕ)) (part : List ℕ) → line_count lines part ≤ most_lines → length lines ≤ most_lines
few_whole lines part few = grind arith

-- a piece more is read and answered
pub ran_on : {start between after : RunState} {room left : ℕ} {buffer buffer' input mid rest : Option (List ℕ)} {old so_far new : Outlet} {piece : List ℕ}
    → (so : PutSoFar start between room buffer input mid old so_far) → between.number + length piece ≤ most_lines → 1 ≤ length piece → length piece + left ≡ room
    → Consumes mid rest piece → AnswersAll between after so.ran.part piece buffer' so_far new
    → PutSoFar start after left buffer' input rest old new
ran_on {start} {between} {after} {room} {left} {buffer} {buffer'} {input} {mid} {rest} {old} {so_far} {new} {piece} so fits some fewer taken did =
    let ran = so.ran in
    let few = count_more ran.lines did.lines did.last most_lines (length piece) (omega (arith, fits, ran.count)) some did.few in
    let size : length (ran.given ++ piece) + left ≡ most_bytes = omega (arith, ran.size, fewer, length-append ran.given piece) in
    record {
      none = so.none;
      text = so.text ++ did.text;
      ran = record {
        given = ran.given ++ piece;
        lines = ran.lines ++ did.lines;
        part = did.last;
        is = record {
          are = lines_before (ran.given ++ piece) (ran.part ++ piece) ran.lines did.lines did.last
              (ap (λ (w : List ℕ). w ++ piece) ran.is.are.parts ∙ append_assoc (whole_lines ran.lines) ran.part piece) ran.is.are.whole did.are;
          few_lines = few_whole (ran.lines ++ did.lines) did.last few;
          few_bytes = omega (arith, size);
          told = told_append start between after ran.lines did.lines so.text did.text ran.is.told did.told;
          goes_on = did.goes_on;
        };
        count = omega (arith, ran.count, did.counted, length-append ran.lines did.lines);
        few = few;
        size = size;
        keeps = did.keeps;
        taken = Consumes-trans input mid rest ran.given piece ran.taken taken;
      };
      put = outputs_then so.put (outputs_of did.put);
    }
