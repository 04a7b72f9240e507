-- Rungs, one after another.
use Rattle.std.proofs.Common.{◌≡◌, ℕ, zero, suc, ◌<◌, List, [], ◌∷◌, ◌++◌, length, get_or, Option, Some, None, sym, ap, subst, ◌∙◌, arith}
use Rattle.std.specs.List.{AllZip}
use Rattle.std.proofs.lemmas.Option.{none-some}
use Rattle.ele_policy.specs.Ladder.{Rung}
use Rattle.ele_tool_words.specs.PolicyWord.{SpellsRung}
use Rattle.ele_tool_words.proofs.Lengths.{one_length}

pub pair_same : (age width : ℕ) (rung : Rung) → age ≡ rung.0 → width ≡ rung.1 → ◌≡◌ {A = Option Rung} (Some (age, width)) (Some rung)
pair_same age width (a, w) p q = ap (λ (n : ℕ). Some (n, width)) p ∙ ap (λ (n : ℕ). Some (a, n)) q

one_rung : (word : List ℕ) (a b : Rung) → SpellsRung word a → SpellsRung word b → a ≡ b
one_rung word (age, width) (other, wide) p q =
    ap (λ (n : ℕ). (n, width)) (one_length _ age other p.age q.age) ∙ ap (λ (n : ℕ). (other, n)) (one_length _ width wide p.width q.width)

pub one_rungs : (words : List (List ℕ)) (a b : List Rung) → AllZip SpellsRung words a → AllZip SpellsRung words b → a ≡ b
one_rungs [] [] [] p q = cc
one_rungs [] [] (y ∷ b) p q = absurd q
one_rungs [] (x ∷ a) b p q = absurd p
one_rungs (word ∷ words) [] b p q = absurd p
one_rungs (word ∷ words) (x ∷ a) [] p q = absurd q
one_rungs (word ∷ words) (x ∷ a) (y ∷ b) p q =
    ap (λ (r : Rung). r ∷ a) (one_rung word x y p.0 q.0) ∙ ap (λ (rs : List Rung). y ∷ rs) (one_rungs words a b p.1 q.1)

-- one more
pub rungs_push : (words : List (List ℕ)) (rungs : List Rung) (word : List ℕ) (rung : Rung) → AllZip SpellsRung words rungs → SpellsRung word rung → AllZip SpellsRung (words ++ word ∷ []) (rungs ++ rung ∷ [])
rungs_push [] [] word rung far is = (is, tt)
rungs_push [] (x ∷ rungs) word rung far is = absurd far
rungs_push (w ∷ words) [] word rung far is = absurd far
rungs_push (w ∷ words) (x ∷ rungs) word rung far is = (far.0, rungs_push words rungs word rung far.1 is)

pub same_count : (words : List (List ℕ)) (rungs : List Rung) → AllZip SpellsRung words rungs → length words ≡ length rungs
same_count [] [] far = cc
same_count [] (x ∷ rungs) far = absurd far
same_count (w ∷ words) [] far = absurd far
same_count (w ∷ words) (x ∷ rungs) far = grind (arith, same_count words rungs far.1)

-- if words are rungs, so is each
pub each_rung : (words : List (List ℕ)) (rungs : List Rung) (i : ℕ) (word : List ℕ) → AllZip SpellsRung words rungs → i < length words → word ≡ get_or words i word → ((r : Rung) → SpellsRung word r → ◌≡◌ {A = Option Rung} None (Some r)) → ⊥
each_rung [] rungs i word all lt here bad = absurd (omega (arith, lt))
each_rung (w ∷ words) [] i word all lt here bad = all
each_rung (w ∷ words) (p ∷ ps) zero word all lt here bad = none-some _ (bad p (subst (λ (x : List ℕ). SpellsRung x p) (sym here) all.0))
each_rung (w ∷ words) (p ∷ ps) (suc i) word all lt here bad = each_rung words ps i word all.1 (omega (arith, lt)) here bad

-- more parts than a ladder has rungs
pub too_many : (words yielded : List (List ℕ)) (rungs kept : List Rung) (i : ℕ) → AllZip SpellsRung words rungs → AllZip SpellsRung yielded kept → i < length words → i ≡ length yielded → length kept ≡ 8 → 8 < length rungs
too_many words yielded rungs kept i all far lt here full = omega (arith, same_count words rungs all, same_count yielded kept far, lt, here, full)
