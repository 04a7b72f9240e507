-- Lines have one output, unless want of memory stops one of them.
use Rattle.ele_runs.proofs.Basics.{◌≡◌, ◌≢◌, ℕ, false, List, [], ◌∷◌, ◌++◌, length, Option, Some, None, refl, sym, ap, subst, ◌∙◌, append_assoc}
use Rattle.ele_runs.proofs.Words.{Reply, IsBlock, IsTextIn, MayAnswer, Recorded, Said, line_unless_long, AreBlocks, Past, cut_block}
use Rattle.ele_moment.proofs.Moments.{one_text}
use Rattle.ele_audit.specs.AuditText.{AreAnswers}
use Rattle.ele_model.specs.declared.entry.Entry.{Entry}
use Rattle.ele_printer.specs.HistoryText.{entry_line}
use Rattle.ele_printer.specs.Printed.{IsReplyText, pass_text, stop_text}
use Rattle.ele_output.specs.Line.{line_text}
use Rattle.std.specs.Fmt.{decimal}
use Rattle.std.specs.Prelude.{codes, length}
use Rattle.ele_model.specs.declared.pass.PassEnd.TheVariants.{Stopped}
use Rattle.ele_model.specs.declared.refusal.Stop.TheVariants.{NoMemory}
use Rattle.ele_model.specs.declared.reply.Reply.TheVariants.{Now}
use Rattle.ele_runs.specs.Said.{IsForMemory, IsLastText, IsText}
use Rattle.ele_runs.specs.declared.said.Said.TheVariants as said
use Rattle.ele_runs.specs.OneAnswer.{OneAnswer}
use Rattle.ele_runs.specs.OneOutput.{IsNowhere, OneOutput, TellsNoStop}
use Rattle.ele_runs.specs.Output.{IsOutput}
use Rattle.ele_runs.specs.Unstopped.{AreUnstopped, IsUnstopped, IsUnstoppedBlock}

-- a reply has one text
one_reply_text : (reply : Reply) (s t : List ℕ) → IsReplyText reply s → IsReplyText reply t → s ≡ t
one_reply_text (Now moment) s t a b =
    a.2 ∙ ap (λ (stamp : List ℕ). line_text (codes "ok now" ∷ decimal moment ∷ stamp ∷ [])) (one_text a.0 b.0 moment a.1 b.1) ∙ sym b.2
one_reply_text reply s t a b = a ∙ sym b

-- so have the entries of a history with their replies
one_answers : (entries : List Entry) (s t : List ℕ) → AreAnswers entries s → AreAnswers entries t → s ≡ t
one_answers [] s t a b = a ∙ sym b
one_answers (entry ∷ entries) s t (reply, others, is, are, parts) (reply', others', is', are', parts') =
    parts ∙ ap (λ (w : List ℕ). entry_line entry ++ (w ++ others)) (one_reply_text entry.reply reply reply' is is')
    ∙ ap (λ (w : List ℕ). entry_line entry ++ (reply' ++ w)) (one_answers entries others others' are are') ∙ sym parts'

one_last : (last : Option Reply) (s t : List ℕ) → IsLastText last s → IsLastText last t → s ≡ t
one_last None s t a b = a ∙ sym b
one_last (Some reply) s t a b = one_reply_text reply s t a b

-- and an answer
one_said : (last : Option Reply) (folded : ℕ) (entries : List Entry) (told : Said) (s t : List ℕ) → IsText last folded entries told s → IsText last folded entries told t → s ≡ t
one_said last folded entries said.Replied s t a b = one_last last s t a b
one_said last folded entries said.Answers s t a b =
    a.2 ∙ ap (λ (w : List ℕ). line_text (codes "ok answers" ∷ decimal folded ∷ decimal (length entries) ∷ []) ++ w) (one_answers entries a.0 b.0 a.1 b.1) ∙ sym b.2
one_said last folded entries told s t a b = a ∙ sym b

-- a text that is nowhere in a whole is in no part of it
front_nowhere : (told text front back : List ℕ) → text ≡ front ++ back → IsNowhere told text → IsNowhere told front
front_nowhere told text front back are none before behind is =
    none before (behind ++ back) (are ∙ ap (λ (w : List ℕ). w ++ back) is ∙ append_assoc (before ++ told) behind back)

rest_nowhere : (told text front back : List ℕ) → text ≡ front ++ back → IsNowhere told text → IsNowhere told back
rest_nowhere told text front back are none before behind is =
    none (front ++ before) behind
    (are ∙ ap (λ (w : List ℕ). front ++ w) is ∙ sym (append_assoc front (before ++ told) behind) ∙ ap (λ (w : List ℕ). w ++ behind) (sym (append_assoc front before told)))

own_nowhere : (told text front back : List ℕ) → text ≡ front ++ back → IsNowhere told text → front ≢ told
own_nowhere told text front back are none is = none [] back (are ∙ ap (λ (w : List ℕ). w ++ back) is)

front_tells : (text front back : List ℕ) → text ≡ front ++ back → TellsNoStop text → TellsNoStop front
front_tells text front back are none = record {
  stop = front_nowhere (stop_text NoMemory) text front back are none.stop;
  pass = λ removed. front_nowhere (pass_text (Stopped NoMemory removed)) text front back are (none.pass removed);
}

rest_tells : (text front back : List ℕ) → text ≡ front ++ back → TellsNoStop text → TellsNoStop back
rest_tells text front back are none = record {
  stop = rest_nowhere (stop_text NoMemory) text front back are none.stop;
  pass = λ removed. rest_nowhere (pass_text (Stopped NoMemory removed)) text front back are (none.pass removed);
}

-- in a text without stops for memory, no answer is one
not_stopped : (past : Past) (told : Said) (text front back : List ℕ) → IsTextIn past told front → text ≡ front ++ back → TellsNoStop text → ¬ IsForMemory told
not_stopped past (said.Stopped NoMemory) text front back is are none for_memory =
    own_nowhere (stop_text NoMemory) text front back are none.stop is
not_stopped past (said.Passed (Stopped NoMemory removed)) text front back is are none for_memory =
    own_nowhere (pass_text (Stopped NoMemory removed)) text front back are (none.pass removed) is
not_stopped past told text front back is are none for_memory = for_memory

blocks_told : (before : Past) (lines : List (List ℕ)) (text : List ℕ) (after : Past) (are : AreBlocks before lines text after) → TellsNoStop text → AreUnstopped before lines text after are
blocks_told before [] text after are none = tt
blocks_told before (line ∷ lines) text after (block, rest, between, is, more, parts) none =
    (not_stopped between is.0 text block rest is.2 parts none, blocks_told between lines rest after more (rest_tells text block rest parts none))

module _ (law : OneAnswer) where
  one_block : (before other : Past) (line : Option (List ℕ)) (s t : List ℕ) (x y : Past) → before ≡ other → (a : IsBlock false before line s x) (b : IsBlock false other line t y)
      → IsUnstoppedBlock before line s x a → IsUnstoppedBlock other line t y b → (s ≡ t) × (x ≡ y)
  one_block before other line s t x y here a b p q =
      let may : MayAnswer false (Recorded before) line b.0 (Recorded y) = subst (λ (m : Past). MayAnswer false (Recorded m) line b.0 (Recorded y)) (sym here) b.1 in
      let same = law before line a.0 b.0 x y a.1 may p q in
      (one_said _ _ _ b.0 s t (subst (λ (told : Said). IsTextIn y told s) same.0 (subst (λ (past : Past). IsTextIn past a.0 s) same.1 a.2)) b.2, same.1)

  -- blocks of the same lines from one state are one text
  one_blocks : (before other : Past) (lines : List (List ℕ)) (s t : List ℕ) (x y : Past) → before ≡ other → (a : AreBlocks before lines s x) (b : AreBlocks other lines t y)
      → AreUnstopped before lines s x a → AreUnstopped other lines t y b → s ≡ t
  one_blocks before other [] s t x y here a b p q = a.0 ∙ sym b.0
  one_blocks before other (line ∷ lines) s t x y here (block, rest, mid, is, more, are) (own, others, between, also, behind, parts) p q =
      let same = one_block before other (line_unless_long line) block own mid between here is also p.0 q.0 in
      let rests = one_blocks mid between lines rest others x y same.1 more behind p.1 q.1 in
      are ∙ ap (λ (w : List ℕ). w ++ rest) same.0 ∙ ap (λ (w : List ℕ). own ++ w) rests ∙ sym parts

  one : (start : Past) (lines : List (List ℕ)) (last a b : List ℕ) (x : IsOutput start lines last a) (y : IsOutput start lines last b) → IsUnstopped start lines last a x → IsUnstopped start lines last b y → a ≡ b
  one start lines last a b x y p q =
      let same = one_blocks start start lines x.blocks y.blocks x.state y.state refl x.are y.are p q in
      x.text_is ∙ ap (λ (w : List ℕ). w ++ cut_block (line_unless_long last)) same ∙ sym y.text_is

  pub one_output : OneOutput
  one_output = record {
    one = one;
    told = λ start lines last text output none. blocks_told start lines output.blocks output.state output.are (front_tells text output.blocks (cut_block (line_unless_long last)) output.text_is none);
  }
