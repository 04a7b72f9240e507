-- Lines have an output, and an input has lines.
use Rattle.ele_runs.proofs.Basics.{◌≢◌, ℕ, List, [], ◌∷◌, ◌++◌, refl, sym, ap, ◌∙◌, flat_map-cons}
use Rattle.ele_runs.proofs.SomeAnswer.{some_answer}
use Rattle.ele_runs.proofs.Words.{AreBlocks, AreLines, Past, cut_block, line_unless_long, whole_line}
use Rattle.std.proofs.Math.Decide.{ℕ_discrete}
use Rattle.ele_script.specs.EveryLine.{EveryLineMeaning}
use Rattle.ele_runs.specs.SomeAnswer.{IsWithin}
use Rattle.ele_runs.specs.SomeOutput.{SomeOutput}
use Rattle.ele_runs.specs.Unstopped.{AreUnstopped}

pub record HasBlocks (before : Past) (lines : List (List ℕ)) : Type 0 where
  pub text : List ℕ
  pub after : Past
  pub are : AreBlocks before lines text after
  pub unstopped : AreUnstopped before lines text after are

module _ (law : EveryLineMeaning) where
  pub some_blocks : (before : Past) (lines : List (List ℕ)) → IsWithin before → HasBlocks before lines
  some_blocks before [] within = record { text = []; after = before; are = (refl, refl); unstopped = tt }
  some_blocks before (line ∷ lines) within =
      let own = some_answer law before (line_unless_long line) within in
      let rest = some_blocks own.after lines own.within in
      record { text = own.text ++ rest.text; after = rest.after; are = (own.text, rest.text, own.after, (own.said, own.may, own.is), rest.are, refl); unstopped = (own.unstopped, rest.unstopped) }

  pub some_output : SomeOutput
  some_output start lines last within =
      let blocks = some_blocks start lines within in
      (blocks.text ++ cut_block (line_unless_long last), record { blocks = blocks.text; state = blocks.after; are = blocks.are; text_is = refl }, blocks.unstopped)

-- a text is whole lines and a last one
pub record HasLines (text : List ℕ) : Type 0 where
  pub lines : List (List ℕ)
  pub last : List ℕ
  pub are : AreLines text lines last

byte_more : (byte : ℕ) (text : List ℕ) → byte ≢ 10 → (lines : List (List ℕ)) (last : List ℕ) → AreLines text lines last → HasLines (byte ∷ text)
byte_more byte text other [] last are =
    record { lines = []; last = byte ∷ last; are = record { parts = ap (λ (w : List ℕ). byte ∷ w) are.parts; whole = tt; cut = (other, are.cut) } }
byte_more byte text other (line ∷ lines) last are =
    record {
      lines = (byte ∷ line) ∷ lines;
      last = last;
      are = record {
        parts = ap (λ (w : List ℕ). byte ∷ w) (are.parts ∙ ap (λ (w : List ℕ). w ++ last) (flat_map-cons whole_line line lines)) ∙ ap (λ (w : List ℕ). w ++ last) (sym (flat_map-cons whole_line (byte ∷ line) lines));
        whole = ((other, are.whole.0), are.whole.1);
        cut = are.cut;
      };
    }

pub some_lines : (text : List ℕ) → HasLines text
some_lines [] = record { lines = []; last = []; are = record { parts = refl; whole = tt; cut = tt } }
some_lines (byte ∷ text) =
    let rest = some_lines text in
    elim (ℕ_discrete byte 10) [
      | no other ↦ byte_more byte text other rest.lines rest.last rest.are
      | yes feed ↦ record {
        lines = [] ∷ rest.lines;
        last = rest.last;
        are = record {
          parts = ap (λ (b : ℕ). b ∷ text) feed ∙ ap (λ (w : List ℕ). 10 ∷ w) rest.are.parts ∙ ap (λ (w : List ℕ). w ++ rest.last) (sym (flat_map-cons whole_line [] rest.lines));
          whole = (tt, rest.are.whole);
          cut = rest.are.cut;
        };
      }
    ]
