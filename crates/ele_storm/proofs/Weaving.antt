-- Lists that are woven of two, and the calls of two seats that were joined.
use Rattle.std.proofs.Common.{◌≡◌, ℕ, ◌+◌, Bool, true, false, ◌||◌, cond, List, [], ◌∷◌, ◌++◌, length, inl, inr, refl, sym, ap, subst, ◌∙◌, arith}
use Rattle.ele_model.specs.declared.entry.Entry.{Entry}
use Rattle.ele_shared_history.specs.declared.ledger.Call.{Call}
use Rattle.ele_shared_history.specs.Knowledge.{Knowledge}
use Rattle.ele_shared_history.specs.Running.{entries_of, has, own_of}
use Rattle.ele_shared_history.specs.Seats.{Joined}
use Rattle.ele_shared_history.proofs.Histories.{has-append}
use Rattle.ele_storm.specs.Storm.{IsWoven}

-- of a list and none the list is woven
pub woven_alone : {A : Type 0} (xs : List A) → IsWoven xs [] xs
woven_alone [] = (refl, refl)
woven_alone (x ∷ xs) = inl (xs, refl, woven_alone xs)

-- and nothing else
pub woven_none : {A : Type 0} (ys zs : List A) → IsWoven [] ys zs → zs ≡ ys
woven_none ys [] woven = sym woven.1
woven_none ys (z ∷ zs) (inl woven) = absurd (let h = woven.1 in cc)
woven_none {A} ys (z ∷ zs) (inr woven) = ap (λ (l : List A). z ∷ l) (woven_none woven.0 zs woven.2) ∙ sym woven.1

-- the next element of a list that is itself interleaved
out_next : {A : Type 0} (xs ys vs : List A) (z : A) (us zs : List A) → ((xs ys : List A) → IsWoven xs ys us → (m : List A) × IsWoven ys vs m × IsWoven xs m zs)
    → IsWoven xs ys (z ∷ us) → (m : List A) × IsWoven ys vs m × IsWoven xs m (z ∷ zs)
out_next xs ys vs z us zs out (inl woven) = let rest = out woven.0 ys woven.2 in (rest.0, rest.1, inl (woven.0, woven.1, rest.2))
out_next xs ys vs z us zs out (inr woven) = let rest = out xs woven.0 woven.2 in (z ∷ rest.0, inl (woven.0, woven.1, rest.1), inr (rest.0, refl, rest.2))

-- what is woven of a list that is woven itself is woven of the first part of that and of the rest
pub weaves_out : {A : Type 0} (xs ys us vs zs : List A) → IsWoven xs ys us → IsWoven us vs zs → (m : List A) × IsWoven ys vs m × IsWoven xs m zs
weaves_out {A} xs ys us vs [] one woven =
    let is : IsWoven xs ys [] = subst (λ (l : List A). IsWoven xs ys l) woven.0 one in
    ([], (is.1, woven.1), (is.0, refl))
weaves_out {A} xs ys us vs (z ∷ zs) one (inl woven) =
    out_next xs ys vs z woven.0 zs (λ left right w. weaves_out left right woven.0 vs zs w woven.2) (subst (λ (l : List A). IsWoven xs ys l) woven.1 one)
weaves_out {A} xs ys us vs (z ∷ zs) one (inr woven) =
    let rest = weaves_out xs ys us woven.0 zs one woven.2 in
    (z ∷ rest.0, inr (woven.0, woven.1, rest.1), inr (rest.0, refl, rest.2))

-- the calls under some numbers, or under others, are woven of both
woven_cond : (p q : Bool) (call : Call) (xs ys zs : List Call) → (p ≡ true → q ≡ false) → IsWoven (entries_of xs) (entries_of ys) (entries_of zs)
    → IsWoven (entries_of (cond p (call ∷ xs) xs)) (entries_of (cond q (call ∷ ys) ys)) (entries_of (cond (p || q) (call ∷ zs) zs))
woven_cond true true call xs ys zs apart woven = absurd (let h = apart refl in cc)
woven_cond true false call xs ys zs apart woven = inl (entries_of xs, refl, woven)
woven_cond false true call xs ys zs apart woven = inr (entries_of ys, refl, woven)
woven_cond false false call xs ys zs apart woven = woven

woven_own : (ns ms : List ℕ) (calls : List Call) → ((n : ℕ) → has ns n ≡ true → has ms n ≡ false)
    → IsWoven (entries_of (own_of ns calls)) (entries_of (own_of ms calls)) (entries_of (own_of (ns ++ ms) calls))
woven_own ns ms [] apart = (refl, refl)
woven_own ns ms (call ∷ calls) apart =
    rw (has-append ns ms call.by) (woven_cond (has ns call.by) (has ms call.by) call (own_of ns calls) (own_of ms calls) (own_of (ns ++ ms) calls) (apart call.by) (woven_own ns ms calls apart))

pub calls_are_woven : (a b c : Knowledge) → Joined a b c → IsWoven (entries_of a.own) (entries_of b.own) (entries_of c.own)
calls_are_woven a b c j =
    let all : own_of (a.numbers ++ b.numbers) c.view ≡ c.own = ap (λ (ns : List ℕ). own_of ns c.view) (sym j.numbers) ∙ j.own in
    let woven = woven_own a.numbers b.numbers c.view j.apart in
    rw (j.own_first, j.own_second, all) at woven

-- all calls interleave the calls under some numbers with the others
others_cond : (p : Bool) (call : Call) (xs zs : List Call) → (others : List Entry) × IsWoven (entries_of xs) others (entries_of zs)
    → (others : List Entry) × IsWoven (entries_of (cond p (call ∷ xs) xs)) others (entries_of (call ∷ zs))
others_cond true call xs zs woven = (woven.0, inl (entries_of xs, refl, woven.1))
others_cond false call xs zs woven = (call.entry ∷ woven.0, inr (woven.0, refl, woven.1))

pub own_is_woven : (ns : List ℕ) (calls : List Call) → (others : List Entry) × IsWoven (entries_of (own_of ns calls)) others (entries_of calls)
own_is_woven ns [] = ([], (refl, refl))
own_is_woven ns (call ∷ calls) = others_cond (has ns call.by) call (own_of ns calls) calls (own_is_woven ns calls)

-- a list has as many elements as those that it is woven of
pub length-woven : {A : Type 0} (xs ys zs : List A) → IsWoven xs ys zs → length zs ≡ length xs + length ys
length-woven xs ys [] woven = omega (arith, ap length woven.0, ap length woven.1)
length-woven xs ys (z ∷ zs) (inl woven) = omega (arith, ap length woven.1, length-woven woven.0 ys zs woven.2)
length-woven xs ys (z ∷ zs) (inr woven) = omega (arith, ap length woven.1, length-woven xs woven.0 zs woven.2)
