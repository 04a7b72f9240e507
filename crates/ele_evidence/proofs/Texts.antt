-- Evidence, row after row.
use Rattle.ele_evidence.proofs.Basics.{Bool, List, [], ap, append_assoc, append-nil, AllZip, at_drop_all, codes, decimal, drop, drop_more, get_or, length, refl, subst, sym, ℕ, ◌++◌, ◌+◌, ◌<◌, ◌∙◌, ◌∷◌, ◌≡◌, ◌≤◌}
use Rattle.ele_chain.proofs.Grows.{goes_on, last_goes_on}
use Rattle.ele_chain.specs.Chain.{chained, hash_line, last_hash}
use Rattle.ele_evidence.specs.EvidenceText.{IsEvidence, IsRow, end_line, head_row}
use Rattle.ele_model.specs.Bounds.{Bounds}
use Rattle.ele_model.specs.declared.entry.Entry.{Entry}
use Rattle.ele_model.specs.declared.reply.Reply.{Reply}
use Rattle.ele_model.specs.declared.reply.Reply.TheVariants.{Now}
use Rattle.ele_moment.proofs.Moments.{one_text}
use Rattle.ele_output.specs.Line.{line_text}
use Rattle.ele_printer.specs.HistoryText.{entry_line}
use Rattle.ele_printer.specs.Printed.{IsReplyText}
use Rattle.std.specs.Bool.{Decides}
use Rattle.std.specs.Prelude.{IsTrue, ◌↔◌}
use Rattle.ele_output.proofs.Known.{puts_as, puts_nil, puts_then}
use Rattle.ele_output.specs.Outlet.{Outlet, Puts}

-- the rows of the entries so far were put in a chain, of which this is the last line, and these are left
pub record Rowed (before after : Outlet) (above line : List ℕ) (entries left : List Entry) : Type 0 where
  pub rows : List (List ℕ)
  pub ends : (more : List (List ℕ)) → AllZip IsRow left more → AllZip IsRow entries (rows ++ more)
  pub line_is : line ≡ last_hash above rows
  pub puts : Puts before after (chained above rows)

pub rowed_none : (a : Outlet) (above : List ℕ) (entries : List Entry) → Rowed a a above above entries entries
rowed_none a above entries = record { rows = []; ends = λ more are. are; line_is = refl; puts = puts_nil a }

pub one_more : (above : List ℕ) (rows : List (List ℕ)) (line row : List ℕ) → line ≡ last_hash above rows → chained above rows ++ (row ++ hash_line (line ++ row)) ≡ chained above (rows ++ row ∷ [])
one_more above rows line row is =
    ap (λ (last : List ℕ). chained above rows ++ (row ++ hash_line (last ++ row))) is
    ∙ (ap (λ (text : List ℕ). chained above rows ++ (row ++ text)) (sym (append-nil (hash_line (last_hash above rows ++ row))))
    ∙ sym (goes_on above rows (row ∷ [])))

pub rowed_more : {a b c : Outlet} {above line next : List ℕ} (entries : List Entry) (i : ℕ) (entry : Entry) (row : List ℕ) → i < length entries → entry ≡ get_or entries i entry → IsRow entry row
    → next ≡ hash_line (line ++ row) → Rowed a b above line entries (drop i entries) → Puts b c (row ++ hash_line (line ++ row)) → Rowed a c above next entries (drop (i + 1) entries)
rowed_more {a} {b} {c} {above} {line} {next} entries i entry row lt is of next_is so puts = record {
  rows = so.rows ++ row ∷ [];
  ends = λ more are.
      subst (λ (rows : List (List ℕ)). AllZip IsRow entries rows) (sym (append_assoc so.rows (row ∷ []) more))
      (so.ends (row ∷ more) (rw (drop_more entries i entry lt ∙ ap (λ (e : Entry). e ∷ drop (i + 1) entries) (sym is)) (of, are)));
  line_is = next_is ∙ (ap (λ (last : List ℕ). hash_line (last ++ row)) so.line_is ∙ sym (last_goes_on above so.rows row));
  puts = puts_as (one_more above so.rows line row so.line_is) (puts_then so.puts puts);
}

pub rowed_all : {a b : Outlet} {above line : List ℕ} (entries : List Entry) (i : ℕ) → length entries ≤ i → Rowed a b above line entries (drop i entries)
    → (rows : List (List ℕ)) × AllZip IsRow entries rows × Puts a b (chained above rows)
rowed_all {a} {b} {above} {line} entries i le so =
    (so.rows, subst (λ (rows : List (List ℕ)). AllZip IsRow entries rows) (append-nil so.rows) (so.ends [] (rw (at_drop_all (λ (ys : List Entry). ys) entries i le) tt)), so.puts)

-- the first row, the others and the last line
pub whole_text : {a b c d : Outlet} (above bytes head line last : List ℕ) (rows : List (List ℕ)) → above ≡ [] → bytes ≡ head → line ≡ hash_line (above ++ bytes)
    → Puts a b (bytes ++ hash_line (above ++ bytes)) → Puts b c (chained line rows) → Puts c d last → Puts a d (chained [] (head ∷ rows) ++ last)
whole_text {a} {b} {c} {d} above bytes head line last rows none is line_is first rest end =
    puts_then (puts_as parts (puts_then first rest)) end where
      parts : (bytes ++ hash_line (above ++ bytes)) ++ chained line rows ≡ chained [] (head ∷ rows)
      parts = ap (λ (l : List ℕ). (bytes ++ hash_line (above ++ bytes)) ++ chained l rows) line_is
          ∙ (ap (λ (up : List ℕ). (bytes ++ hash_line (up ++ bytes)) ++ chained (hash_line (up ++ bytes)) rows) none
          ∙ (ap (λ (row : List ℕ). (row ++ hash_line row) ++ chained (hash_line row) rows) is
          ∙ append_assoc head (hash_line head) (chained (hash_line head) rows)))

-- ---- one text

one_reply : (reply : Reply) (s t : List ℕ) → IsReplyText reply s → IsReplyText reply t → s ≡ t
one_reply (Now moment) s t a b =
    a.2 ∙ ap (λ (stamp : List ℕ). line_text (codes "ok now" ∷ decimal moment ∷ stamp ∷ [])) (one_text a.0 b.0 moment a.1 b.1) ∙ sym b.2
one_reply reply s t a b = a ∙ sym b

pub one_row : (entry : Entry) (a b : List ℕ) → IsRow entry a → IsRow entry b → a ≡ b
one_row entry a b x y = x.2 ∙ ap (λ (reply : List ℕ). entry_line entry ++ reply) (one_reply entry.reply x.0 y.0 x.1 y.1) ∙ sym y.2

both_heads : (a b : List ℕ) (us vs : List (List ℕ)) → a ≡ b → us ≡ vs → a ∷ us ≡ b ∷ vs
both_heads a b us vs e h = cc

one_rows : (entries : List Entry) (us vs : List (List ℕ)) → AllZip IsRow entries us → AllZip IsRow entries vs → us ≡ vs
one_rows [] [] [] x y = refl
one_rows [] [] (b ∷ vs) x y = absurd y
one_rows [] (a ∷ us) vs x y = absurd x
one_rows (entry ∷ entries) [] vs x y = absurd x
one_rows (entry ∷ entries) (a ∷ us) [] x y = absurd y
one_rows (entry ∷ entries) (a ∷ us) (b ∷ vs) x y = both_heads a b us vs (one_row entry a b x.0 y.0) (one_rows entries us vs x.1 y.1)

pub one_evidence : (limits : Bounds) (entries : List Entry) (s t : List ℕ) → IsEvidence limits entries s → IsEvidence limits entries t → s ≡ t
one_evidence limits entries s t a b =
    a.is ∙ ap (λ (rows : List (List ℕ)). chained [] (head_row limits ∷ rows) ++ end_line (length entries)) (one_rows entries a.rows b.rows a.are b.are) ∙ sym b.is

-- a text that is the evidence, or not, by whether it is the same as the evidence
pub tells : (limits : Bounds) (entries : List Entry) (evidence text : List ℕ) (same : Bool) → IsEvidence limits entries evidence → Decides same (evidence ≡ text) → IsTrue same ↔ IsEvidence limits entries text
tells limits entries evidence text same is decides =
    (λ yes. subst (λ (t : List ℕ). IsEvidence limits entries t) (decides.0 yes) is, λ there. decides.1 (one_evidence limits entries evidence text is there))
