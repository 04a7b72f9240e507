-- If its writer failed, a run without options has written the beginning of an output of its input.
use Rattle.ele_runs.proofs.Basics.{ℕ, false, zero, suc, List, [], ◌∷◌, ◌++◌, Option, Some, None, Result, Ok, Err, inl, inr, refl, sym, ap, subst, ◌∙◌, append-nil, append_assoc}
use Rattle.ele_runs.proofs.Joins.{blocks_append, lines_before}
use Rattle.ele_runs.proofs.SomeOutput.{some_blocks, some_lines}
use Rattle.ele_runs.proofs.Within.{recorded_within, trimmed_within}
use Rattle.ele_runs.proofs.Words.{AreBlocks, HistoryFull, IsBlock, MayMean, MayPass, MayReply, Outlet, Recorded, Removes, Reply, Said, Past, Stop, begun, cut_block, line_unless_long, plain, whole_lines}
use Rattle.ele_script.specs.EveryLine.{EveryLineMeaning}
use Rattle.ele_model.specs.declared.event.Event.{Event}
use Rattle.ele_model.specs.declared.event.Event.TheVariants.{CleanOne}
use Rattle.ele_model.specs.declared.pass.PassEnd.{PassEnd}
use Rattle.ele_model.specs.declared.pass.PassEnd.TheVariants.{Finished, Budget, Stopped}
use Rattle.ele_model.specs.declared.refusal.Stop.TheVariants.{NoMemory}
use Rattle.ele_model.specs.declared.reply.Reply.TheVariants.{Nothing, Removed}
use Rattle.ele_runs.specs.declared.said.Said.TheVariants as said
use Rattle.ele_output.proofs.Known.{front_of_more}
use Rattle.ele_runs.proofs.PlainOutput.{plain_output}
use Rattle.ele_runs.specs.FrontOfOutput.{FrontOfOutput, IsOutputOf}
use Rattle.ele_runs.specs.Telling.{ToldToAWriteFault}
use Rattle.ele_runs.specs.SomeAnswer.{IsWithin}

-- the entries stay within the limit
reply_within : (before after : Past) (event : Event) (said : Result Reply Stop) → IsWithin before → MayReply before event said after → IsWithin after
reply_within before after event (Ok reply) within may =
    subst IsWithin (sym (ap (λ (told : Reply × Past). told.1) may.1)) (recorded_within before event may.0)
reply_within before after event (Err HistoryFull) within may = subst IsWithin (sym may.1) within
reply_within before after event (Err NoMemory) within may = subst IsWithin (sym may.1) within

removes_within : (before after : Past) (n : ℕ) → IsWithin before → Removes before n after → IsWithin after
removes_within before after zero within same = subst IsWithin (sym same) within
removes_within before after (suc n) within more = reply_within more.0 after CleanOne (Ok (Removed more.2.0)) (removes_within before more.0 n within more.1) more.2.1

pass_within : (before after : Past) (budget : ℕ) (end : PassEnd) → IsWithin before → MayPass before budget end after → IsWithin after
pass_within before after budget (Finished n) within may = reply_within may.1.0 after CleanOne (Ok Nothing) (removes_within before may.1.0 n within may.1.1) may.1.2
pass_within before after budget (Budget n) within may = removes_within before after n within may.1
pass_within before after budget (Stopped stop n) within may = reply_within may.1.0 after CleanOne (Err stop) (removes_within before may.1.0 n within may.1.1) may.1.2

answer_within : (before after : Past) (line : List ℕ) (said : Said) → IsWithin before → MayMean false (Recorded before) line said (Recorded after) → IsWithin after
answer_within before after line said.Nothing within may = absurd may
answer_within before after line (said.Bad fault) within may = subst IsWithin (sym may.1) within
answer_within before after line said.Replied within may = subst IsWithin (sym may.2.1) (recorded_within before may.0 may.2.0)
answer_within before after line (said.Stopped HistoryFull) within may = subst IsWithin (sym may.3) within
answer_within before after line (said.Stopped NoMemory) within may = subst IsWithin (sym may.1) within
answer_within before after line (said.Passed end) within may = pass_within before after may.0 end within may.2
answer_within before after line said.History within may = subst IsWithin (sym may.2) within
answer_within before after line (said.Trimmed count) within may = subst IsWithin (sym may.1.1) (trimmed_within before within)
answer_within before after line told within may = subst IsWithin (sym may.3) within

block_within : (before after : Past) (line : Option (List ℕ)) (block : List ℕ) → IsWithin before → IsBlock false before line block after → IsWithin after
block_within before after None block within is = subst IsWithin (sym is.1.1) within
block_within before after (Some []) block within is = subst IsWithin (sym is.1.1) within
block_within before after (Some (byte ∷ bytes)) block within is = answer_within before after (byte ∷ bytes) is.0 within is.1

blocks_within : (before after : Past) (lines : List (List ℕ)) (text : List ℕ) → IsWithin before → AreBlocks before lines text after → IsWithin after
blocks_within before after [] text within are = subst IsWithin (sym are.1) within
blocks_within before after (line ∷ lines) text within (block, rest, between, is, more, parts) =
    blocks_within between after lines rest (block_within before between (line_unless_long line) block within is) more

module _ (law : EveryLineMeaning) where
  -- the text of a run whose writer failed begins an output
  begins_output : (start : Past) (input : Option (List ℕ)) (before after : Outlet) (text : List ℕ) → IsWithin start → ToldToAWriteFault (begun plain start before) input after text
      → (more : List ℕ) × IsOutputOf start input (text ++ more)
  begins_output start input before after text within run =
      let told = plain_output.told start before run.lines run.blocks run.state run.told in elim run.reaches [
        | inl is ↦
            let rest = some_lines run.rest in
            let more = some_blocks law run.state.past rest.lines (blocks_within start run.state.past run.lines run.blocks within told.blocks) in (
              more.text ++ cut_block (line_unless_long rest.last),
              record {
                given = whole_lines run.lines ++ run.rest;
                lines = run.lines ++ rest.lines;
                last = rest.last;
                input_is = run.input_is;
                are = lines_before (whole_lines run.lines ++ run.rest) run.rest run.lines rest.lines rest.last refl run.whole rest.are;
                output = record {
                  blocks = run.blocks ++ more.text;
                  state = more.after;
                  are = blocks_append start run.state.past more.after run.lines rest.lines run.blocks more.text told.blocks more.are;
                  text_is = ap (λ (w : List ℕ). w ++ (more.text ++ cut_block (line_unless_long rest.last))) is.0 ∙ sym (append_assoc run.blocks more.text (cut_block (line_unless_long rest.last)));
                };
              },
            )
        | inr cut ↦ (
          [],
          record {
            given = whole_lines run.lines ++ run.rest;
            lines = run.lines;
            last = run.rest;
            input_is = run.input_is;
            are = record { parts = refl; whole = run.whole; cut = cut.0 };
            output = record {
              blocks = run.blocks;
              state = run.state.past;
              are = told.blocks;
              text_is = append-nil text ∙ cut.1 ∙ ap (λ (w : List ℕ). run.blocks ++ w) (told.cut (line_unless_long run.rest));
            };
          },
        )
      ]

  pub front_of_output : FrontOfOutput
  front_of_output start input old new before after within run =
      let output = begins_output start input before after run.text within run.told in
      record { text = run.text ++ output.0; told = output.1; written = front_of_more old new run.text output.0 run.written }
