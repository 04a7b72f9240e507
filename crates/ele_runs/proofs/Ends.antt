-- How a run ends.
use Rattle.ele_runs.proofs.Basics.{◌≡◌, ◌≢◌, true, length-append, ℕ, ◌+◌, ◌≤◌, List, [], ◌∷◌, ◌++◌, length, take, get_or, min, ◌-◌, Option, Some, None, Result, Ok, Err, refl, sym, ap, subst, ◌∙◌, arith, append_assoc, inl, inr, append-nil, length-take, ◌⊎◌, nat_tests, flat_map-append, cases_order, AllByRecursion, Consumes, Keeps, IsAtEnd, Consumes-trans, Consumes-kept}
use Rattle.ele_runs.proofs.Words.{Outlet, cut_note, cut_count, cut_told, end_by, most_lines, line_unless_long, IsUnbroken, whole_line, whole_lines, line_count, AreTold, AnswersLast, AnswersSome, RunState}
use Rattle.ele_lists.proofs.Alls.{all-append}
use Rattle.ele_run_options.specs.declared.fault.ShellFault.{ShellFault}
use Rattle.ele_run_options.specs.declared.fault.ShellFault.TheVariants.{ReadFault}
use Rattle.ele_runs.specs.declared.end.EndLine.{EndLine}
use Rattle.ele_runs.specs.declared.end.RunEnd.{RunEnd}
use Rattle.ele_runs.specs.declared.tally.Tally.{Tally}
use Rattle.ele_runs.specs.Telling.{HasTold, IsTallyOf, Tells, ToldPastABound, ToldToAReadFault, ToldToAWriteFault, ToldToAnEnd, Writes, WritesFront}
use Rattle.ele_runs.specs.Written.{HadMemory, RunsAt}
use Rattle.ele_runs.specs.Taken.{TakesPiece}
use Rattle.std.specs.Prelude.{Bool, false}
use Rattle.ele_runs.proofs.Courses.{clash, manner_stays, strict_run}
use Rattle.ele_runs.proofs.Joins.{told_append}
use Rattle.ele_run_options.specs.declared.options.RunOptions.{RunOptions}
use Rattle.ele_runs.proofs.Ran.{RanSoFar}
use Rattle.ele_output.specs.Outlet.{IsHandedOver, Outputs}
use Rattle.ele_output.proofs.Known.{all_written, front_written}

-- if nothing is left, all was read
whole_input : (input rest : Option (List ℕ)) (given : List ℕ) → Consumes input rest given → IsAtEnd rest → Keeps input (Some given)
whole_input input rest given taken at_end = grind (arith, append-nil)

-- the input goes on after the bytes that were read
known_more : (input rest : Option (List ℕ)) (given : List ℕ) → Consumes input rest given → (more : List ℕ) × Keeps input (Some (given ++ more))
known_more (Some xs) (Some ys) given taken = (ys, sym taken)
known_more input None given taken = ([], grind arith)
known_more None rest given taken = ([], tt)

-- the writer failed in the blocks of these lines, whatever follows them
fails_in : (start state : RunState) (given part text : List ℕ) (lines : List (List ℕ)) (input rest : Option (List ℕ))
    → given ≡ whole_lines lines ++ part → AllByRecursion IsUnbroken lines → AreTold start lines text state → Consumes input rest given
    → ToldToAWriteFault start input state.notes text
fails_in start state given part text lines input rest e whole told taken =
    let more = known_more input rest given taken in
    record {
      lines = lines;
      rest = part ++ more.0;
      blocks = text;
      state = state;
      input_is = subst (λ (xs : List ℕ). Keeps input (Some xs)) (ap (λ (w : List ℕ). w ++ more.0) e ∙ append_assoc (whole_lines lines) part more.0) more.1;
      whole = whole;
      told = told;
      reaches = inl (refl, refl);
    }

-- a last line counts as its block does
counts_cut : (lines : List (List ℕ)) (last : List ℕ) → line_count lines last ≡ length lines + cut_count (line_unless_long last)
counts_cut lines last = grind (arith, nat_tests)

none_behind : (lines : List (List ℕ)) (part : List ℕ) → length lines ≡ most_lines → line_count lines part ≤ most_lines → part ≡ []
none_behind lines part all few = grind arith

-- nothing was read, so the input ends
pub nothing_read : (mid rest : Option (List ℕ)) (most count : ℕ) (piece : List ℕ) → TakesPiece mid rest most piece (Ok count) → count ≡ 0
    → Consumes mid rest [] × IsAtEnd rest
nothing_read mid rest most count piece took none = (subst (λ (m : ℕ). Consumes mid rest (take m piece)) none took.1, took.2 none)

pub length_taken : (count : ℕ) (piece : List ℕ) → count ≤ length piece → length (take count piece) ≡ count
length_taken count piece le = omega (arith, length-take count piece, le)

one_byte : (piece : List ℕ) (count : ℕ) → 1 ≤ length piece → count ≡ 1 → take count piece ≡ get_or piece 0 0 ∷ []
one_byte piece count some one = grind arith

-- a last line that ends a run
abbrev cut_line : Option (List ℕ) → EndLine
cut_line line = record { line = line; is_cut = true }

-- a last line ends a strict run and counts, unless it is empty
abbrev EndsOrNot : RunState → Option (List ℕ) → Type 0
EndsOrNot state line =
    ((end_by state line ≡ None) × (state.options.strict ≡ true → line ≡ Some []))
    ⊎ ((end_by state line ≡ Some (cut_line line)) × (cut_count line ≡ 1) × (state.options.strict ≡ true) × (line ≢ Some []))

ends_or_not : (state : RunState) (line : Option (List ℕ)) (strict : Bool) → state.options.strict ≡ strict → EndsOrNot state line
ends_or_not state (Some []) strict e = inl (refl, λ t. refl)
ends_or_not state None true e = inr (rw e refl, refl, e, λ h. absurd cc)
ends_or_not state (Some (byte ∷ bytes)) true e = inr (rw e refl, refl, e, λ h. absurd cc)
ends_or_not state None false e = inl (rw e refl, λ t. clash state.options.strict t e)
ends_or_not state (Some (byte ∷ bytes)) false e = inl (rw e refl, λ t. clash state.options.strict t e)

kept_empty : (part : List ℕ) → line_unless_long part ≡ Some [] → part ≡ []
kept_empty part e = grind (arith, nat_tests)

-- if all was handed over, the text that was put was written, and otherwise its beginning
pub all_out : {Told : List ℕ → Type 0} {old new : Outlet} {text : List ℕ} → old.held ≡ [] → Outputs old new text → IsHandedOver new → Told text → Writes Told old.known new.known
all_out none put over told = record { text = _; told = told; written = all_written none put over }

pub front_out : {Told : List ℕ → Type 0} {old new : Outlet} {text : List ℕ} → old.held ≡ [] → Outputs old new text → Told text → WritesFront Told old.known new.known
front_out none put told = record { text = _; told = told; written = front_written none put }

-- a reader fails with ReadFault
pub read_only : (mid rest : Option (List ℕ)) (most : ℕ) (piece : List ℕ) (fault : ShellFault) → TakesPiece mid rest most piece (Err fault) → Keeps mid rest × (fault ≡ ReadFault)
read_only mid rest most piece ReadFault keeps = (keeps, refl)
read_only mid rest most piece fault h = absurd h

module _ {start state : RunState} {room : ℕ} {buffer input mid : Option (List ℕ)} {text : List ℕ} (ran : RanSoFar start state room buffer input mid text) where
  -- the writer failed at the buffered text
  pub ends_over : ToldToAWriteFault start input state.notes text
  ends_over = fails_in start state ran.given ran.part text ran.lines input mid ran.is.are.parts ran.is.are.whole ran.is.told ran.taken

  -- the reader failed
  pub ends_read : (rest : Option (List ℕ)) → Keeps mid rest → ToldToAReadFault start input rest state.notes text
  ends_read rest keeps =
      record { given = ran.given; lines = ran.lines; part = ran.part; state = state; taken = Consumes-kept input mid rest ran.given ran.taken keeps; is = ran.is; noted = refl }

  -- a byte follows as much as a script may have
  pub ends_past : (rest : Option (List ℕ)) (piece : List ℕ) (count : ℕ) → min room (most_lines - state.number) ≡ 0 → 1 ≤ length piece → count ≡ 1
      → Consumes mid rest (take count piece) → ToldPastABound start input rest state.notes text
  ends_past rest piece count full some one took = record {
    given = ran.given;
    byte = get_or piece 0 0;
    lines = ran.lines;
    part = ran.part;
    state = state;
    taken = Consumes-trans input mid rest ran.given (get_or piece 0 0 ∷ []) ran.taken (subst (Consumes mid rest) (one_byte piece count some one) took);
    is = ran.is;
    most = elim (cases_order room 0) [
      | inl e ↦ inr (omega (arith, ran.size, e))
      | inr (inl lt) ↦ absurd (omega (arith, lt))
      | inr (inr gt) ↦
          let all : length ran.lines ≡ most_lines = omega (arith, full, gt, ran.count, ran.is.few_lines) in
          inl (all, none_behind ran.lines ran.part all ran.few)
    ];
    noted = refl;
  }

  -- a last line counts as its block does
  counted_cut : (count : ℕ) → count ≡ state.number + cut_count buffer → count ≡ line_count ran.lines ran.part
  counted_cut count is =
      is ∙ ap (λ (b : Option (List ℕ)). state.number + cut_count b) ran.keeps ∙ ap (λ (m : ℕ). m + cut_count (line_unless_long ran.part)) (sym ran.count)
      ∙ sym (counts_cut ran.lines ran.part)

  cut_is : text ++ cut_told state buffer ≡ text ++ cut_told state (line_unless_long ran.part)
  cut_is = ap (λ (b : Option (List ℕ)). text ++ cut_told state b) ran.keeps

  note_is : (notes : Outlet) → Outputs state.notes notes (cut_note state buffer) → Outputs state.notes notes (cut_note state (line_unless_long ran.part))
  note_is notes told = subst (λ (b : Option (List ℕ)). Outputs state.notes notes (cut_note state b)) ran.keeps told

  all_taken : (rest : Option (List ℕ)) → Consumes mid rest [] → Consumes input rest ran.given
  all_taken rest took = subst (Consumes input rest) (append-nil ran.given) (Consumes-trans input mid rest ran.given [] ran.taken took)

  -- the input ends
  module _ (rest : Option (List ℕ)) (notes : Outlet) (took : Consumes mid rest []) (at_end : IsAtEnd rest) (noted : Outputs state.notes notes (cut_note state buffer)) where
    -- and the writer failed in the block of a last line without its line feed
    pub ends_in_cut : ToldToAWriteFault start input notes (text ++ cut_told state buffer)
    ends_in_cut = record {
      lines = ran.lines;
      rest = ran.part;
      blocks = text;
      state = state;
      input_is = subst (λ (xs : List ℕ). Keeps input (Some xs)) ran.is.are.parts (whole_input input rest ran.given (all_taken rest took) at_end);
      whole = ran.is.are.whole;
      told = ran.is.told;
      reaches = inr (ran.is.are.cut, cut_is, note_is notes noted);
    }

    strict_is : state.options.strict ≡ start.options.strict
    strict_is = ap (λ (m : RunOptions). m.strict) (manner_stays start state ran.lines text ran.is.told)

    -- no last line ends the run
    ends_all : (count : ℕ) (tally : Tally) → count ≡ state.number + cut_count buffer → (state.options.strict ≡ true → buffer ≡ Some []) → IsTallyOf state buffer tally → HasTold start input rest notes count None tally (text ++ cut_told state buffer)
    ends_all count tally is uncut counts =
        let counted = counted_cut count is in
        let last = subst (λ (kept : Option (List ℕ)). IsTallyOf state kept tally) ran.keeps counts in (
          record {
            given = ran.given;
            lines = ran.lines;
            last = ran.part;
            blocks = text;
            state = state;
            taken = all_taken rest took;
            at_end = at_end;
            is = ran.is;
            count = counted;
            few = subst (λ (m : ℕ). m ≤ most_lines) (sym counted) ran.few;
            uncut = λ strict. kept_empty ran.part (sym ran.keeps ∙ uncut (strict_is ∙ strict));
            text_is = cut_is;
            noted = note_is notes noted;
          },
          last,
        )

    -- a last line ends the run
    ends_cut : (count : ℕ) → count ≡ state.number + 1 → state.options.strict ≡ true → buffer ≢ Some [] → ToldToAnEnd start count (cut_line buffer) input rest notes (text ++ cut_told state buffer)
    ends_cut count is strict some =
        record {
          given = ran.given;
          lines = ran.lines;
          line = ran.part;
          strict = sym strict_is ∙ strict;
          taken = all_taken rest took;
          count = omega (arith, is, ran.count);
          keeps = ran.keeps;
          by = record {
            blocks = text;
            state = state;
            at_end = at_end;
            some = λ h. some (ran.keeps ∙ ap line_unless_long h);
            is = ran.is;
            text_is = cut_is;
            noted = note_is notes noted;
          };
        }

    -- the end says whether a last line ended the run
    pub ends_by : (count : ℕ) (kept : Option EndLine) (tally : Tally) → count ≡ state.number + cut_count buffer → kept ≡ end_by state buffer → IsTallyOf state buffer tally → HasTold start input rest notes count kept tally (text ++ cut_told state buffer)
    ends_by count kept tally is by counts = elim (ends_or_not state buffer state.options.strict refl) [
      | inl none ↦ rw (by ∙ none.0) (ends_all count tally is none.1 counts)
      | inr one ↦ rw (by ∙ one.0) (ends_cut count (is ∙ ap (λ (m : ℕ). state.number + m) one.1) one.2 one.3)
    ]

  -- whole lines were read, and then these of a piece, whatever follows them
  parts_more : (piece behind : List ℕ) (more : List (List ℕ)) → ran.part ++ piece ≡ whole_lines more ++ behind → ran.given ++ piece ≡ whole_lines (ran.lines ++ more) ++ behind
  parts_more piece behind more parts =
      ap (λ (w : List ℕ). w ++ piece) ran.is.are.parts ∙ append_assoc (whole_lines ran.lines) ran.part piece ∙ ap (λ (w : List ℕ). whole_lines ran.lines ++ w) parts
      ∙ sym (append_assoc (whole_lines ran.lines) (whole_lines more) behind) ∙ ap (λ (w : List ℕ). w ++ behind) (sym (flat_map-append whole_line ran.lines more))

  -- the writer failed in the blocks of the lines of a piece
  pub ends_in_piece : (after : RunState) (rest : Option (List ℕ)) (so_far new : Outlet) (piece : List ℕ) → Consumes mid rest piece
      → (did : AnswersSome state after ran.part piece so_far new) → ToldToAWriteFault start input after.notes (text ++ did.text)
  ends_in_piece after rest so_far new piece took did =
      fails_in start after (ran.given ++ piece) did.rest (text ++ did.text) (ran.lines ++ did.lines) input rest
      (parts_more piece did.rest did.lines did.parts)
      (all-append IsUnbroken ran.lines did.lines ran.is.are.whole did.whole)
      (told_append start state after ran.lines did.lines text did.text ran.is.told did.told)
      (Consumes-trans input mid rest ran.given piece ran.taken took)

  module _ (after : RunState) (rest : Option (List ℕ)) (so_far new : Outlet) (piece : List ℕ) (kept : Option (List ℕ)) (took : Consumes mid rest piece) (did : AnswersLast state after ran.part piece kept so_far new) where
    abbrev upto : List (List ℕ)
    upto = did.lines ++ did.line ∷ []

    -- a line of a piece ended the run
    pub ends_last : ToldToAnEnd start after.number (record { line = kept; is_cut = false }) input rest after.notes (text ++ did.text)
    ends_last =
        let lines : ran.lines ++ upto ≡ (ran.lines ++ did.lines) ++ did.line ∷ [] = sym (append_assoc ran.lines did.lines (did.line ∷ [])) in
        record {
          given = ran.given ++ piece;
          lines = ran.lines ++ did.lines;
          line = did.line;
          strict = ap (λ (m : RunOptions). m.strict) (sym (manner_stays start state ran.lines text ran.is.told)) ∙ strict_run state after upto did.text did.told ran.is.goes_on did.ended;
          taken = Consumes-trans input mid rest ran.given piece ran.taken took;
          count = omega (arith, did.counted, ran.count, length-append ran.lines did.lines);
          keeps = did.keeps;
          by = record {
            behind = did.rest;
            state = after;
            parts = parts_more piece did.rest upto did.parts ∙ ap (λ (xs : List (List ℕ)). whole_lines xs ++ did.rest) lines;
            whole = subst (AllByRecursion IsUnbroken) lines (all-append IsUnbroken ran.lines upto ran.is.are.whole did.whole);
            told = subst (λ (xs : List (List ℕ)). AreTold start xs (text ++ did.text) after) lines (told_append start state after ran.lines upto text did.text ran.is.told did.told);
            ended = did.ended;
            noted = refl;
          };
        }

    -- the writer failed at that text
    pub ends_in_last : ToldToAWriteFault start input after.notes (text ++ did.text)
    ends_in_last =
        ends_in_piece after rest so_far new piece took (record { lines = upto; rest = did.rest; text = did.text; parts = did.parts; whole = did.whole; told = did.told; put = did.put })

-- the writer holds what the printer's writer holds
pub told_at : (start : RunState) (input rest : Option (List ℕ)) (a b : Outlet) (old new : Option (List ℕ)) (notes : Outlet) (r : Result RunEnd ShellFault) → RunsAt start input rest a b notes r
    → a.known ≡ old → b.known ≡ new → Tells start input rest old new notes r × HadMemory r
told_at start input rest a b old new notes r h e f = rw (← e, ← f) (h.1, h.2)
