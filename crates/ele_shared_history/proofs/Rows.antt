-- A row of seats, each with a number of its own.
use Rattle.std.proofs.Common.{◌≡◌, ℕ, true, false, ◌==◌, ◌⊎◌, ⊎_elim, inl, inr, List, [], ◌∷◌, ◌++◌, refl, ◌∙◌, subst, arith}
use Rattle.std.proofs.lemmas.Bool.{cases_Bool}
use Rattle.std.proofs.lemmas.Bool.Decides.{nat_tests}
use Rattle.ele_shared_history.specs.Running.{has}
use Rattle.ele_shared_history.specs.Knowledge.{Knowledge, Object}
use Rattle.ele_shared_history.specs.Dealt.{AreDealt}
use Rattle.ele_shared_history.specs.Seats.{AreAllNew, AreApart, AreNew, IsNew, SplitOff}

has_last : (ns : List ℕ) (m n : ℕ) → has (ns ++ m ∷ []) n ≡ true → (has ns n ≡ true) ⊎ (m ≡ n)
has_last [] m n h = inr (grind (arith, nat_tests))
has_last (x ∷ xs) m n h = ⊎_elim
    (λ (q : (x == n) ≡ true). inl (rw q refl))
    (λ (q : (x == n) ≡ false). ⊎_elim (λ (r : has xs n ≡ true). inl (rw q r)) (λ r. inr r) (has_last xs m n (rw q at h)))
    (cases_Bool (x == n))

not_last : (ns : List ℕ) (m n : ℕ) → has ns n ≡ false → (m ≡ n → ⊥) → has (ns ++ m ∷ []) n ≡ false
not_last ns m n h apart = ⊎_elim (λ (q : has (ns ++ m ∷ []) n ≡ true). ⊎_elim (λ (r : has ns n ≡ true). absurd (cc)) (λ (r : m ≡ n). absurd (apart r)) (has_last ns m n q)) (λ (q : has (ns ++ m ∷ []) n ≡ false). q) (cases_Bool (has (ns ++ m ∷ []) n))

apart_last : (ns : List ℕ) (m : ℕ) → AreApart ns → has ns m ≡ false → AreApart (ns ++ m ∷ [])
apart_last [] m a h = (refl, tt)
apart_last (x ∷ xs) m a h = ⊎_elim
    (λ (q : (x == m) ≡ true). absurd (let p : true ≡ false = rw q at h in cc))
    (λ (q : (x == m) ≡ false). (not_last xs m x a.0 (λ (e : m ≡ x). absurd (grind (arith, nat_tests))), apart_last xs m a.1 (rw q at h)))
    (cases_Bool (x == m))

new_last : (z : Object) (ns : List ℕ) (ks : List Knowledge) (n : ℕ) (k : Knowledge) → AreNew z ns ks → IsNew z n k → AreNew z (ns ++ n ∷ []) (ks ++ k ∷ [])
new_last z [] [] n k a i = (i, tt)
new_last z (m ∷ ms) (x ∷ xs) n k a i = (a.0, new_last z ms xs n k a.1 i)
new_last z [] (x ∷ xs) n k a i = absurd a
new_last z (m ∷ ms) [] n k a i = absurd a

pub deals_more : (z : Object) (ks : List Knowledge) (a b : Knowledge) → AreDealt z ks a → SplitOff a b → AreDealt z (ks ++ a ∷ []) b
deals_more z ks a b (ns, row, apart, next) s =
    let n = next.number in
    let knows = next.itself in
    let all = next.others in
    let other : (m : ℕ) → has a.known m ≡ true → (m ≡ s.number → ⊥) = λ m h e. let p : has a.known s.number ≡ true = subst (λ x. has a.known x ≡ true) e h in cc (p, s.other) in (
      ns ++ n ∷ [],
      new_last z ns ks n a row next.new,
      apart_last ns n apart next.other,
      record {
        number = s.number;
        new = record { of = s.object ∙ next.new.of; numbers = s.numbers; view = s.view ∙ next.new.view; own = s.own };
        other = not_last ns n s.number (⊎_elim (λ (q : has ns s.number ≡ true). absurd (other s.number (all s.number q) refl)) (λ q. q) (cases_Bool (has ns s.number))) (other n knows);
        itself = rw s.known (grind (arith, nat_tests));
        others = λ m h. rw s.known (⊎_elim (λ (q : has ns m ≡ true). let r = all m q in ⊎_elim (λ (t : (s.number == m) ≡ true). rw t refl) (λ (t : (s.number == m) ≡ false). rw t r) (cases_Bool (s.number == m)))
            (λ (q : n ≡ m). let r : has a.known m ≡ true = subst (λ x. has a.known x ≡ true) q knows in ⊎_elim (λ (t : (s.number == m) ≡ true). rw t refl) (λ (t : (s.number == m) ≡ false). rw t r) (cases_Bool (s.number == m))) (has_last ns n m h));
      },
    )

pub all_dealt : (z : Object) (ks : List Knowledge) (a : Knowledge) → AreDealt z ks a → AreAllNew z (ks ++ a ∷ [])
all_dealt z ks a (ns, row, apart, next) = (ns ++ next.number ∷ [], new_last z ns ks next.number a row next.new, apart_last ns next.number apart next.other)
