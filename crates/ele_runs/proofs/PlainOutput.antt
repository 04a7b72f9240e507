-- The text of a run without options is an output.
use Rattle.ele_runs.proofs.Basics.{◌≡◌, ℕ, ◌+◌, false, List, [], ◌∷◌, ◌++◌, Option, Some, None, refl, sym, ap, subst, ◌∙◌, inl}
use Rattle.ele_runs.proofs.Words.{AreBlocks, AreTold, Outlet, RunState, IsBlock, IsNoted, IsTold, Past, begun, cut_block, front_of, heard, line_unless_long, plain, tells_reasons}
use Rattle.ele_runs.specs.Note as note
use Rattle.ele_runs.specs.PlainOutput.{IsPlain, PlainOutput}
use Rattle.ele_runs.specs.RunState.{advance}
use Rattle.ele_runs.specs.Tally.{is_well, outcome_of}
use Rattle.ele_run_options.specs.declared.options.RunOptions.{RunOptions}
use Rattle.std.specs.Prelude.{not, ◌&&◌}

-- lines have no numbers
none_in_front : (number : ℕ) (line : Option (List ℕ)) → front_of plain number line ≡ []
none_in_front number None = refl
none_in_front number (Some []) = refl
none_in_front number (Some (byte ∷ bytes)) = refl

bare : (options : RunOptions) (number : ℕ) (line : Option (List ℕ)) (block : List ℕ) → options ≡ plain → front_of options number line ++ block ≡ block
bare options number line block is = ap (λ (m : RunOptions). front_of m number line ++ block) is ∙ ap (λ (w : List ℕ). w ++ block) (none_in_front number line)

-- no reason is written
unnoted : (number : ℕ) (line : Option (List ℕ)) (block : List ℕ) (old new : Outlet) → IsNoted plain number line block old new → new ≡ old
unnoted number line block old new (note.nothing why same) = same
unnoted number line block old new (note.reason tells fault is why told front) = absurd (let never = tells in cc)

goes_on_after : (options : RunOptions) (block : List ℕ) → options ≡ plain → (options.strict && not (is_well (outcome_of block))) ≡ false
goes_on_after options block is = ap (λ (m : RunOptions). m.strict && not (is_well (outcome_of block))) is

-- the text for a line is its block, and the options stay off
record IsPlainBlock (before : RunState) (line : Option (List ℕ)) (told : List ℕ) (after : RunState) : Type 0 where
  block : IsBlock false before.past line told after.past
  options : after.options ≡ plain
  goes_on : after.ended ≡ false
  noted : after.notes ≡ before.notes

plain_block : (before after : RunState) (line : Option (List ℕ)) (told : List ℕ) → before.options ≡ plain → IsTold before line told after → IsPlainBlock before line told after
plain_block before after line told options is =
    let text : told ≡ is.block = is.told_is ∙ bare before.options (before.number + 1) (heard before.options line) is.block options in
    let past : after.past ≡ is.past = ap (λ (c : RunState). c.past) is.after_is in
    let notes : after.notes ≡ is.notes = ap (λ (c : RunState). c.notes) is.after_is in
    record {
      block = rw (text, past) (subst (λ (m : RunOptions). IsBlock m.explain before.past (heard m line) is.block is.past) options is.is);
      options = ap (λ (c : RunState). c.options) is.after_is ∙ options;
      goes_on = ap (λ (c : RunState). c.ended) is.after_is ∙ goes_on_after before.options is.block options;
      noted = notes ∙ unnoted (before.number + 1) line is.block before.notes is.notes (subst (λ (m : RunOptions). IsNoted m (before.number + 1) line is.block before.notes is.notes) options is.noted);
    }

told : (before after : RunState) (lines : List (List ℕ)) (text : List ℕ) → before.options ≡ plain → before.ended ≡ false → AreTold before lines text after → IsPlain before.past before.notes lines text after
told before after [] text options goes_on are =
    record {
      blocks = (are.0, ap (λ (c : RunState). c.past) are.1);
      cut = λ last. bare after.options (after.number + 1) last (cut_block last) (ap (λ (c : RunState). c.options) are.1 ∙ options);
      goes_on = ap (λ (c : RunState). c.ended) are.1 ∙ goes_on;
      noted = ap (λ (c : RunState). c.notes) are.1;
    }
told before after (line ∷ lines) text options goes_on (own, rest, between, is, more, parts) =
    let first = plain_block before between (line_unless_long line) own options is in
    let others = told between after lines rest first.options first.goes_on more in
    record {
      blocks = (own, rest, between.past, first.block, others.blocks, parts);
      cut = others.cut;
      goes_on = others.goes_on;
      noted = others.noted ∙ first.noted;
    }

-- so blocks of lines are a text for them
block_told : (before : RunState) (line : Option (List ℕ)) (block : List ℕ) (after : Past) → before.options ≡ plain → before.ended ≡ false → IsBlock false before.past line block after
    → IsTold before line block (advance before after line block before.notes)
block_told before line block after options goes_on is = record {
  block = block;
  past = after;
  notes = before.notes;
  goes_on = goes_on;
  is = subst (λ (m : RunOptions). IsBlock m.explain before.past (heard m line) block after) (sym options) is;
  told_is = sym (bare before.options (before.number + 1) (heard before.options line) block options);
  noted = note.nothing (inl (ap tells_reasons options)) refl;
  after_is = refl;
}

blocks_told : (before : RunState) (lines : List (List ℕ)) (text : List ℕ) (after : Past) → before.options ≡ plain → before.ended ≡ false → AreBlocks before.past lines text after
    → (state : RunState) × AreTold before lines text state × (state.past ≡ after)
blocks_told before [] text after options goes_on are = (before, (are.0, refl), sym are.1)
blocks_told before (line ∷ lines) text after options goes_on (block, rest, between, is, more, parts) =
    let next = advance before between (line_unless_long line) block before.notes in
    let others = blocks_told next lines rest after options (goes_on_after before.options block options) more in
    (others.0, (block, rest, next, block_told before (line_unless_long line) block between options goes_on is, others.1, parts), others.2)

pub plain_output : PlainOutput
plain_output = record {
  told = λ start notes lines text state are. told (begun plain start notes) state lines text refl refl are;
  blocks = λ start notes lines text after are. blocks_told (begun plain start notes) lines text after refl refl are;
}
