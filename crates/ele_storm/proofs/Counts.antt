-- The calls of two seats that were joined, added up.
use Rattle.std.proofs.Common.{◌≡◌, ℕ, ◌+◌, Bool, true, false, ◌||◌, cond, List, [], ◌∷◌, ◌++◌, length, refl, sym, ap, ◌∙◌, arith}
use Rattle.ele_shared_history.specs.declared.ledger.Call.{Call}
use Rattle.ele_shared_history.specs.Knowledge.{Knowledge}
use Rattle.ele_shared_history.specs.Running.{has, own_of}
use Rattle.ele_shared_history.specs.Seats.{Joined}
use Rattle.ele_shared_history.proofs.Histories.{has-append}

length-cond : (p q : Bool) (call : Call) (xs ys zs : List Call) → (p ≡ true → q ≡ false) → length xs ≡ length ys + length zs
    → length (cond (p || q) (call ∷ xs) xs) ≡ length (cond p (call ∷ ys) ys) + length (cond q (call ∷ zs) zs)
length-cond true true call xs ys zs apart e = absurd (let h = apart refl in cc)
length-cond true false call xs ys zs apart e = omega arith
length-cond false true call xs ys zs apart e = omega arith
length-cond false false call xs ys zs apart e = e

length-own_of : (ns ms : List ℕ) (calls : List Call) → ((n : ℕ) → has ns n ≡ true → has ms n ≡ false)
    → length (own_of (ns ++ ms) calls) ≡ length (own_of ns calls) + length (own_of ms calls)
length-own_of ns ms [] apart = refl
length-own_of ns ms (call ∷ calls) apart =
    rw (has-append ns ms call.by) (length-cond (has ns call.by) (has ms call.by) call (own_of (ns ++ ms) calls) (own_of ns calls) (own_of ms calls) (apart call.by) (length-own_of ns ms calls apart))

pub calls_of_both : (a b c : Knowledge) → Joined a b c → length c.own ≡ length a.own + length b.own
calls_of_both a b c j =
    ap length (sym j.own ∙ ap (λ (ns : List ℕ). own_of ns c.view) j.numbers) ∙ length-own_of a.numbers b.numbers c.view j.apart
    ∙ ap (λ (calls : List Call). length calls + length (own_of b.numbers c.view)) j.own_first ∙ ap (λ (calls : List Call). length a.own + length calls) j.own_second
