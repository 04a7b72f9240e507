-- Spans, one after another.
use Rattle.std.proofs.Common.{◌≡◌, ℕ, zero, suc, ◌<◌, ◌≤◌, ◌==◌, false, List, [], ◌∷◌, ◌++◌, length, get_or, Option, Some, None, sym, ap, subst, ◌∙◌, arith, length-append}
use Rattle.std.proofs.lemmas.Bool.Decides.{nat_tests}
use Rattle.std.specs.List.{AllZip}
use Rattle.std.proofs.lemmas.Option.{none-some}
use Rattle.ele_suggest.specs.Words.{SpellsSpan}
use Rattle.ele_suggest.specs.declared.grain.Grain.{Grain}
use Rattle.ele_suggest.specs.declared.grain.Span.{Span}

pub span_same : (age : ℕ) (grain : Grain) (span : Span) → age ≡ span.age → grain ≡ span.grain → ◌≡◌ {A = Option Span} (Some (record { age = age; grain = grain })) (Some span)
span_same age grain span p q =
    ap (λ (n : ℕ). let made : Span = record { age = n; grain = grain } in Some made) p ∙ ap (λ (g : Grain). let made : Span = record { age = span.age; grain = g } in Some made) q

-- one more
pub spans_push : (words : List (List ℕ)) (spans : List Span) (word : List ℕ) (span : Span) → AllZip SpellsSpan words spans → SpellsSpan word span → AllZip SpellsSpan (words ++ word ∷ []) (spans ++ span ∷ [])
spans_push [] [] word span far is = (is, tt)
spans_push [] (x ∷ spans) word span far is = absurd far
spans_push (w ∷ words) [] word span far is = absurd far
spans_push (w ∷ words) (x ∷ spans) word span far is = (far.0, spans_push words spans word span far.1 is)

pub same_count : (words : List (List ℕ)) (spans : List Span) → AllZip SpellsSpan words spans → length words ≡ length spans
same_count [] [] far = cc
same_count [] (x ∷ spans) far = absurd far
same_count (w ∷ words) [] far = absurd far
same_count (w ∷ words) (x ∷ spans) far = grind (arith, same_count words spans far.1)

-- if words are spans, so is each
pub each_span : (words : List (List ℕ)) (spans : List Span) (i : ℕ) (word : List ℕ) → AllZip SpellsSpan words spans → i < length words → word ≡ get_or words i word → ((s : Span) → SpellsSpan word s → ◌≡◌ {A = Option Span} None (Some s)) → ⊥
each_span [] spans i word all lt here bad = absurd (omega (arith, lt))
each_span (w ∷ words) [] i word all lt here bad = all
each_span (w ∷ words) (p ∷ ps) zero word all lt here bad = none-some _ (bad p (subst (λ (x : List ℕ). SpellsSpan x p) (sym here) all.0))
each_span (w ∷ words) (p ∷ ps) (suc i) word all lt here bad = each_span words ps i word all.1 (omega (arith, lt)) here bad

-- one more, if there are not as many as can be asked for
pub few_more : (spans : List Span) (span : Span) → length spans ≤ 8 → (length spans == 8) ≡ false → length (spans ++ span ∷ []) ≤ 8
few_more spans span few not_full = grind (arith, nat_tests, length-append spans (span ∷ []))

-- more parts than can be asked for
pub too_many : (words yielded : List (List ℕ)) (spans kept : List Span) (i : ℕ) → AllZip SpellsSpan words spans → length spans ≤ 8 → AllZip SpellsSpan yielded kept → i < length words → i ≡ length yielded → length kept ≡ 8 → ⊥
too_many words yielded spans kept i all few far lt here full = absurd (omega (arith, same_count words spans all, same_count yielded kept far, lt, here, full, few))
