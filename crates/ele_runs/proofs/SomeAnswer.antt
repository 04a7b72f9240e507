-- Each line has an answer, and each answer a text.
use Rattle.ele_runs.proofs.Basics.{ℕ, false, List, [], ◌∷◌, Option, Some, None, length, inl, inr, refl, sym, subst}
use Rattle.ele_runs.proofs.InTime.{asked_in_time, some_text, told_in_time}
use Rattle.ele_runs.proofs.SomePass.{some_pass}
use Rattle.ele_runs.proofs.Within.{is_full, recorded_within, trimmed_within}
use Rattle.ele_runs.proofs.Words.{HistoryFull, Past, Reply, count_of, recorded, reply_to, trimmed, world_of}
use Rattle.std.proofs.Math.Decide.{dec_lt}
use Rattle.ele_printer.specs.HistoryText.{history_text, trimmed_text}
use Rattle.ele_printer.specs.Printed.{bad_text, pass_text, stop_text}
use Rattle.ele_printer.specs.declared.fault.LineFault.TheVariants.{LineTooLong}
use Rattle.ele_script.specs.EveryLine.{EveryLineMeaning}
use Rattle.ele_script.specs.Spells.{Asks}
use Rattle.ele_script.specs.declared.reading.Line.{Line}
use Rattle.ele_script.specs.declared.reading.Line.TheVariants as asks
use Rattle.ele_model.specs.declared.event.Event.{Event}
use Rattle.ele_runs.proofs.Asked.{never_asked}
use Rattle.ele_runs.proofs.Blocks.{last_replied}
use Rattle.ele_runs.specs.Said.{IsLastText}
use Rattle.ele_runs.specs.declared.said.Said.TheVariants as said
use Rattle.ele_runs.specs.SomeAnswer.{HasAnswer, IsWithin, SomeAnswer}

some_reply : (before : Past) (byte : ℕ) (bytes : List ℕ) (event : Event) → Asks false (byte ∷ bytes) (asks.Event event) → IsWithin before → HasAnswer before (Some (byte ∷ bytes))
some_reply before byte bytes event is within = elim (dec_lt (count_of before) before.base.limits.events) [
  | yes room ↦
      let text = some_text (reply_to before event) (told_in_time (world_of before) event (asked_in_time (byte ∷ bytes) event is)) in
      record {
        said = said.Replied;
        after = recorded before event;
        may = (event, is, (room, refl));
        unstopped = λ h. h;
        text = text.0;
        is = subst (λ (last : Option Reply). IsLastText last text.0) (sym (last_replied before (recorded before event) event refl)) text.1;
        within = recorded_within before event room;
      }
  | no full ↦ record {
    said = said.Stopped HistoryFull;
    after = before;
    may = (event, is, is_full before within full, refl);
    unstopped = λ h. h;
    text = stop_text HistoryFull;
    is = refl;
    within = within;
  }
]

asked_for : (before : Past) (byte : ℕ) (bytes : List ℕ) (asked : Line) → Asks false (byte ∷ bytes) asked → IsWithin before → HasAnswer before (Some (byte ∷ bytes))
asked_for before byte bytes (asks.Event event) is within = some_reply before byte bytes event is within
asked_for before byte bytes (asks.Pass budget) is within =
    let pass = some_pass before budget within in
    record { said = said.Passed pass.end; after = pass.after; may = (budget, is, pass.may); unstopped = pass.unstopped; text = pass_text pass.end; is = refl; within = pass.within }
asked_for before byte bytes asks.History is within = record {
  said = said.History;
  after = before;
  may = (is, refl, refl);
  unstopped = λ h. h;
  text = history_text before.folded before.entries;
  is = refl;
  within = within;
}
asked_for before byte bytes asks.Trim is within = record {
  said = said.Trimmed (length before.entries);
  after = trimmed before;
  may = (is, (refl, refl));
  unstopped = λ h. h;
  text = trimmed_text (length before.entries);
  is = refl;
  within = trimmed_within before within;
}
asked_for before byte bytes (asks.Question asked) is within = absurd (never_asked (byte ∷ bytes) asked is)

pub some_answer : EveryLineMeaning → SomeAnswer
some_answer law before None within =
    record { said = said.Bad LineTooLong; after = before; may = (refl, refl); unstopped = λ h. h; text = bad_text LineTooLong; is = refl; within = within }
some_answer law before (Some []) within =
    record { said = said.Nothing; after = before; may = (refl, refl); unstopped = λ h. h; text = []; is = refl; within = within }
some_answer law before (Some (byte ∷ bytes)) within = elim (law false (byte ∷ bytes)) [
  | inl asked ↦ asked_for before byte bytes asked.0 asked.1 within
  | inr bad ↦ record { said = said.Bad bad.0; after = before; may = (bad.1, refl); unstopped = λ h. h; text = bad_text bad.0; is = refl; within = within }
]
