-- Answers, entry after entry.
use Rattle.ele_audit.proofs.Basics.{List, [], append_assoc, append-nil, ap, length, drop, get_or, refl, sym, subst, ℕ, ◌++◌, ◌≡◌, ◌≤◌, ◌<◌, ◌+◌, ◌∙◌}
use Rattle.ele_audit.proofs.Gathers.{left_more, left_none}
use Rattle.ele_audit.specs.AuditText.{AreAnswers}
use Rattle.ele_model.specs.declared.entry.Entry.{Entry}
use Rattle.ele_output.proofs.Known.{puts_nil, puts_then}
use Rattle.ele_output.specs.Outlet.{Outlet, Puts}
use Rattle.ele_printer.specs.HistoryText.{entry_line}
use Rattle.ele_printer.specs.Printed.{IsReplyText}

-- a text was put, which the answers of the entries that are left end
pub record Answered (before after : Outlet) (entries left : List Entry) : Type 0 where
  pub text : List ℕ
  pub ends : (rest : List ℕ) → AreAnswers left rest → AreAnswers entries (text ++ rest)
  pub puts : Puts before after text

pub answered_none : (a : Outlet) (entries : List Entry) → Answered a a entries entries
answered_none a entries = record { text = []; ends = λ rest are. are; puts = puts_nil a }

pub answered_more : {a b c : Outlet} (entries : List Entry) (i : ℕ) (entry : Entry) (reply : List ℕ) → i < length entries → entry ≡ get_or entries i entry → IsReplyText entry.reply reply
    → Answered a b entries (drop i entries) → Puts b c (entry_line entry ++ reply) → Answered a c entries (drop (i + 1) entries)
answered_more entries i entry reply lt is of so puts = record {
  text = so.text ++ (entry_line entry ++ reply);
  ends = λ rest are.
      subst (λ (text : List ℕ). AreAnswers entries text) (ap (λ (more : List ℕ). so.text ++ more) (sym (append_assoc (entry_line entry) reply rest)) ∙ sym (append_assoc so.text (entry_line entry ++ reply) rest))
      (so.ends (entry_line entry ++ (reply ++ rest)) (rw (left_more entries i entry lt is) (reply, rest, of, are, refl)));
  puts = puts_then so.puts puts;
}

pub answered_all : {a b : Outlet} (entries : List Entry) (i : ℕ) → length entries ≤ i → Answered a b entries (drop i entries) → (text : List ℕ) × AreAnswers entries text × Puts a b text
answered_all entries i le so = (so.text ++ [], so.ends [] (rw (left_none entries i le) refl), rw append-nil so.puts)
