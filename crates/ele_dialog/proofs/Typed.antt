-- What was typed and answered so far, and how it ends.
use Rattle.ele_dialog.proofs.Basics.{AllByRecursion, Appends, Consumes, Consumes-nil, Consumes-trans, Err, List, None, Ok, Option, Result, Some, [], ap, append-nil, append_assoc, arith, inl, inr, length, refl, subst, sym, ℕ, ◌++◌, ◌+◌, ◌∙◌, ◌∷◌, ◌≡◌}
use Rattle.std.proofs.lemmas.List.{length-append}
use Rattle.ele_dialog.specs.Answer.{IsAnswered}
use Rattle.ele_dialog.specs.Dialog.{AreAnswered, EndsTyping, IsTyped}
use Rattle.ele_dialog.specs.Dialog.IsStopped.{answering, reading}
use Rattle.ele_dialog.specs.Next.{AnswersNext, EndsPrinted, NextLast, NextUnanswered, NextUnread, NextWhole}
use Rattle.ele_history.specs.Past.{Past}
use Rattle.ele_lists.proofs.Alls.{all-append}
use Rattle.ele_output.proofs.Known.{all_written, front_written, outputs_no_more, outputs_of, outputs_then, puts_nil, puts_short}
use Rattle.ele_output.specs.Front.{AppendsFront}
use Rattle.ele_output.specs.Outlet.{IsHandedOver, Outlet, Outputs, Puts}
use Rattle.ele_run_options.specs.declared.fault.ShellFault.{ShellFault}
use Rattle.ele_run_options.specs.declared.fault.ShellFault.TheVariants.{ReadFault, WriteFault, TooManyLines, NoMemory}
use Rattle.ele_runs.proofs.Ran.{joined_push}
use Rattle.ele_runs.specs.Lines.{IsUnbroken, whole_line, whole_lines}

-- so many lines were answered, and the text is written, or was handed over as far as the writer took it
pub record TypedSoFar (before : Past) (input rest : Option (List ℕ)) (old new : Outlet) (count : ℕ) (past : Past) : Type 0 where
  pub lines : List (List ℕ)
  pub text : List ℕ
  pub whole : AllByRecursion IsUnbroken lines
  pub counted : length lines ≡ count
  pub taken : Consumes input rest (whole_lines lines)
  pub answered : AreAnswered 0 before lines text past
  pub put : Outputs old new text

pub typed_none : (before : Past) (input : Option (List ℕ)) (old : Outlet) → TypedSoFar before input input old old 0 before
typed_none before input old =
    record { lines = []; text = []; whole = tt; counted = refl; taken = Consumes-nil input; answered = (refl, refl); put = outputs_of (puts_nil old) }

-- one line more is answered
answered_more : (count number : ℕ) (before between after : Past) (lines : List (List ℕ)) (line text first : List ℕ)
    → number ≡ count + length lines + 1 → AreAnswered count before lines text between → IsAnswered number between line first after → AreAnswered count before (lines ++ line ∷ []) (text ++ first) after
answered_more count number before between after [] line text first is (none, same) answered =
    let here : IsAnswered (count + 1) before line first after = rw (← same) (subst (λ (n : ℕ). IsAnswered n between line first after) (omega (arith, is)) answered) in
    (first, [], after, here, (refl, refl), ap (λ (t : List ℕ). t ++ first) none ∙ sym (append-nil first))
answered_more count number before between after (l ∷ lines) line text first is (one, more, mid, by_one, by_more, parts) answered = (
  one,
  more ++ first,
  mid,
  by_one,
  answered_more (count + 1) number mid between after lines line more first (omega (arith, is)) by_more answered,
  ap (λ (t : List ℕ). t ++ first) parts ∙ append_assoc one more first,
)

pub typed_more : {before past after : Past} {input mid rest : Option (List ℕ)} {old between new : Outlet} {count : ℕ} (number : ℕ) → number ≡ count + 1
    → TypedSoFar before input mid old between count past → NextWhole number past mid rest after between new → TypedSoFar before input rest old new number after
typed_more {before} {past} {after} {input} {mid} {rest} {old} {between} {new} {count} number is so next =
    let taken : Consumes input rest (whole_lines so.lines ++ whole_line next.line) = Consumes-trans input mid rest (whole_lines so.lines) (whole_line next.line) so.taken next.taken in
    record {
      lines = so.lines ++ next.line ∷ [];
      text = so.text ++ next.answered.text;
      whole = all-append IsUnbroken so.lines (next.line ∷ []) so.whole (next.whole, tt);
      counted = length-append so.lines (next.line ∷ []) ∙ omega (arith, so.counted, is);
      taken = subst (λ (bytes : List ℕ). Consumes input rest bytes) (sym (joined_push so.lines next.line)) taken;
      answered = answered_more 0 number before past after so.lines next.line so.text next.answered.text (omega (arith, is, so.counted)) so.answered next.answered.is;
      put = outputs_then so.put next.answered.put;
    }

-- these lines, and the bytes of one more
typed_part : {before past : Past} {input mid rest : Option (List ℕ)} {old new : Outlet} {count : ℕ} (part : List ℕ)
    → (so : TypedSoFar before input mid old new count past) → IsUnbroken part → Consumes mid rest part → IsTyped before input rest part so.text
typed_part {past = past} {input} {mid} {rest} part so whole taken = record {
  lines = so.lines;
  after = past;
  whole = so.whole;
  cut = whole;
  taken = Consumes-trans input mid rest (whole_lines so.lines) part so.taken taken;
  answered = so.answered;
}

-- the input between a line and its line feed
before_feed : (mid rest : Option (List ℕ)) (line : List ℕ) → Consumes mid rest (line ++ 10 ∷ []) → (at_feed : Option (List ℕ)) × Consumes mid at_feed line × Consumes at_feed rest (10 ∷ [])
before_feed None rest line taken = (None, tt, tt)
before_feed (Some xs) None line taken = absurd taken
before_feed (Some xs) (Some ys) line taken = (Some (10 ∷ ys), taken ∙ append_assoc line (10 ∷ []) ys, refl)

-- the input ended
pub ends_well : {before past : Past} {input mid rest : Option (List ℕ)} {old between new : Outlet} {count : ℕ} (x : Unit {0})
    → IsHandedOver old → TypedSoFar before input mid old between count past → NextLast mid rest between new → IsHandedOver new → EndsPrinted {A = Unit {0}} before input rest old new (Ok x)
ends_well x clean so last over =
    let put = outputs_then so.put last.put in (last.line, so.text, typed_part last.line so last.whole last.taken, last.at_end, (put.same, all_written clean.0 put over))

-- the writer failed in the answer to a line
ends_in_whole : {before past after : Past} {input mid rest : Option (List ℕ)} {old between new : Outlet} {count : ℕ} (number : ℕ) → number ≡ count + 1
    → IsHandedOver old → TypedSoFar before input mid old between count past → NextWhole number past mid rest after between new → EndsPrinted {A = Unit {0}} before input rest old new (Err WriteFault)
ends_in_whole {rest = rest} {old = old} {new = new} number is clean so next =
    let more = typed_more number is so next in (
      [],
      more.text,
      typed_part [] more tt (Consumes-nil rest),
      (more.put.same, subst (λ (text : List ℕ). AppendsFront old.known new.known text) (sym (append-nil more.text)) (front_written clean.0 more.put)),
    )

ends_in_last : {before past : Past} {input mid rest : Option (List ℕ)} {old between new : Outlet} {count : ℕ}
    → IsHandedOver old → TypedSoFar before input mid old between count past → NextLast mid rest between new → EndsPrinted {A = Unit {0}} before input rest old new (Err WriteFault)
ends_in_last clean so last =
    let put = outputs_then so.put last.put in (last.line, so.text, typed_part last.line so last.whole last.taken, (put.same, front_written clean.0 put))

-- nothing more was printed, so the writer has all
still_written : {old between new : Outlet} {text : List ℕ} → IsHandedOver old → Outputs old between text → IsHandedOver between → Puts between new [] → (new.writer ≡ old.writer) × Appends old.known new.known text
still_written {old} {between} {new} {text} clean put over more =
    let all = outputs_no_more put (outputs_of more) in
    let short = puts_short more over.1 (rw over.0 (omega arith)) in
    (all.same, all_written clean.0 all (short.0 ∙ append-nil between.held ∙ over.0, short.1))

-- there was no memory for the bytes of a line
ends_unread : {before past : Past} {input mid rest : Option (List ℕ)} {old between new : Outlet} {count : ℕ}
    → IsHandedOver old → TypedSoFar before input mid old between count past → IsHandedOver between → NextUnread mid rest between new → EndsPrinted {A = Unit {0}} before input rest old new (Err NoMemory)
ends_unread {old = old} clean so over next =
    (so.text, reading next.part next.some (typed_part next.part so next.whole next.taken), rw next.same (so.put.same, all_written clean.0 so.put over))

-- there was none for the answer to a line
ends_unanswered : {before past after : Past} {input mid rest : Option (List ℕ)} {old between new : Outlet} {count : ℕ}
    → IsHandedOver old → TypedSoFar before input mid old between count past → IsHandedOver between → NextUnanswered past mid rest after between new → EndsPrinted {A = Unit {0}} before input rest old new (Err NoMemory)
unfolding typed_part
ends_unanswered {after = after} {mid = mid} {rest = rest} clean so over next =
    let feed = before_feed mid rest next.line next.taken in
    (so.text, answering feed.0 next.line after (typed_part next.line so next.whole feed.1) feed.2 next.unanswered, still_written clean so.put over next.put)

-- there are more lines than any input has
pub ends_long : {before past : Past} {input rest : Option (List ℕ)} {old new : Outlet} {count : ℕ}
    → IsHandedOver old → TypedSoFar before input rest old new count past → IsHandedOver new → EndsPrinted {A = Unit {0}} before input rest old new (Err ReadFault)
ends_long {rest = rest} clean so over = ([], so.text, typed_part [] so tt (Consumes-nil rest), (so.put.same, all_written clean.0 so.put over))

-- a fault ended it
pub ends_badly : {before past : Past} {input mid : Option (List ℕ)} {old between : Outlet} {count : ℕ} (after : Past) (rest : Option (List ℕ)) (new : Outlet) (number : ℕ) (fault : ShellFault) → number ≡ count + 1
    → IsHandedOver old → TypedSoFar before input mid old between count past → IsHandedOver between → AnswersNext number past mid rest after between new (Err fault)
    → EndsPrinted {A = Unit {0}} before input rest old new (Err fault)
ends_badly {old = old} after rest new number ReadFault is clean so over (part, whole, taken, same) =
    (part, so.text, typed_part part so whole taken, rw same (so.put.same, all_written clean.0 so.put over))
ends_badly after rest new number WriteFault is clean so over (inl next) = ends_in_whole number is clean so next
ends_badly after rest new number WriteFault is clean so over (inr last) = ends_in_last clean so last
ends_badly after rest new number NoMemory is clean so over (inl next) = ends_unread clean so over next
ends_badly after rest new number NoMemory is clean so over (inr next) = ends_unanswered clean so over next
ends_badly after rest new number TooManyLines is clean so over next = absurd next

-- the writer holds what the printer's writer holds, since it is still the same
pub ended_at : {A : Type 0} (before : Past) (input rest : Option (List ℕ)) (a b : Outlet) (old new : Option (List ℕ)) (r : Result A ShellFault)
    → EndsPrinted before input rest a b r → a.known ≡ old → (b.writer ≡ a.writer → b.known ≡ new) → EndsTyping before input rest old new r
ended_at before input rest a b old new (Ok x) (part, text, typed, at_end, (same, whole)) e f = (part, text, typed, at_end, rw (← e, ← f same) whole)
ended_at before input rest a b old new (Err ReadFault) (part, text, typed, (same, whole)) e f = (part, text, typed, rw (← e, ← f same) whole)
ended_at before input rest a b old new (Err WriteFault) (part, text, typed, (same, front)) e f = (part, text, typed, rw (← e, ← f same) front)
ended_at before input rest a b old new (Err NoMemory) (text, stopped, (same, whole)) e f = (text, stopped, rw (← e, ← f same) whole)
ended_at before input rest a b old new (Err TooManyLines) h e f = absurd h
