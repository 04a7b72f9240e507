-- A policy is read as it was written, and no other bytes stand for it.
use Rattle.std.proofs.Common.{◌≡◌, ℕ, zero, suc, ◌≤◌, true, cond, List, [], ◌∷◌, ◌++◌, length, Ok, Err, refl, ap, subst, ◌∙◌, arith}
use Rattle.ele_checkpoint.specs.Reading.{◌>>=◌, mistake}
use Rattle.ele_checkpoint.proofs.Forms.{IsForm, bind_ok, test_ok, ok_is, both}
use Rattle.ele_checkpoint.specs.Number.{number_text}
use Rattle.ele_checkpoint.specs.PartsRead.{number_at, list_at, rung_at, is_safe, safe_at, is_ladder, ladder_at, policy_at}
use Rattle.ele_checkpoint.proofs.Numbers.{number_form}
use Rattle.std.specs.List.{AllByRecursion}
use Rattle.std.proofs.lemmas.Bool.{le-leb, lt-ltb, leb-true, and_parts}
use Rattle.ele_moment.specs.Last.{last_moment}
use Rattle.ele_policy.specs.Interval.{IsInterval}
use Rattle.ele_policy.specs.Floor.{IsFloor}
use Rattle.ele_policy.specs.Ladder.{Rung, IsLadder, is_above, climbs, ground}
use Rattle.ele_policy.specs.Policy.{IsPolicy}
use Rattle.ele_policy.specs.declared.policy.Policy.{Policy}
use Rattle.ele_policy.specs.declared.policy.Policy.TheVariants as policies
use Rattle.ele_checkpoint.specs.declared.fault.Flaw.TheVariants as flaws
use Rattle.ele_checkpoint.specs.Fits.{IsNumber, AreItems}
use Rattle.ele_checkpoint.specs.Lists.{list_text}
use Rattle.ele_checkpoint.specs.Values.{rung_text, policy_text}
use Rattle.ele_checkpoint.proofs.Grouped.{grouped2}
use Rattle.ele_checkpoint.proofs.Lists.{list_form}

abbrev IsRung : Rung → Type 0
IsRung pair = IsNumber pair.0 × IsNumber pair.1

rung_takes : (bytes : List ℕ) (x : Rung) (rest : List ℕ) → rung_at bytes ≡ Ok (x, rest) → bytes ≡ rung_text x ++ rest
unfolding rung_at
rung_takes bytes x rest e =
    let s1 = bind_ok (number_at bytes) (λ v1. number_at v1.1 >>= λ v2. Ok ((v1.0, v2.0), v2.1)) (x, rest) e in
    let s2 = bind_ok (number_at s1.0.1) (λ v2. Ok ((s1.0.0, v2.0), v2.1)) (x, rest) s1.2 in
    let p1 = (number_form).takes bytes s1.0.0 s1.0.1 s1.1 in
    let p2 = (number_form).takes s1.0.1 s2.0.0 s2.0.1 s2.1 in
    let q2 = both bytes (number_text s1.0.0) s1.0.1 (number_text s2.0.0) s2.0.1 p1 p2 in
    subst (λ (y : Rung × List ℕ). bytes ≡ rung_text y.0 ++ y.1) (ok_is ((s1.0.0, s2.0.0), s2.0.1) (x, rest) s2.2) q2

rung_again : (x : Rung) (rest : List ℕ) → IsRung x → rung_at (rung_text x ++ rest) ≡ Ok (x, rest)
unfolding rung_at
rung_again x rest fits =
    let regrouped = grouped2 (number_text x.0) (number_text x.1) rest in
    ap (rung_at) regrouped ∙ rw ((number_form).again x.0 (number_text x.1 ++ rest) fits.0, (number_form).again x.1 rest fits.1) refl

rung_form : IsForm rung_text rung_at IsRung
rung_form = record { takes = rung_takes; again = rung_again }

-- the numbers of Keep Safe, without the byte of the kind
abbrev Safe : Type 0
Safe = ℕ × ℕ

safe_takes : (bytes : List ℕ) (x : Policy) (rest : List ℕ) → safe_at bytes ≡ Ok (x, rest) → 2 ∷ bytes ≡ policy_text x ++ rest
unfolding safe_at
safe_takes bytes x rest e =
    let s1 = bind_ok (number_at bytes) (λ v1. number_at v1.1 >>= λ v2. cond (is_safe v1.0 v2.0) (Ok (policies.Safe v1.0 v2.0, v2.1)) (Err (mistake (length bytes) flaws.Policy))) (x, rest) e in
    let s2 = bind_ok (number_at s1.0.1) (λ v2. cond (is_safe s1.0.0 v2.0) (Ok (policies.Safe s1.0.0 v2.0, v2.1)) (Err (mistake (length bytes) flaws.Policy))) (x, rest) s1.2 in
    let g = test_ok (is_safe s1.0.0 s2.0.0) (mistake (length bytes) flaws.Policy) (policies.Safe s1.0.0 s2.0.0, s2.0.1) (x, rest) s2.2 in
    let p1 = number_form.takes bytes s1.0.0 s1.0.1 s1.1 in
    let p2 = number_form.takes s1.0.1 s2.0.0 s2.0.1 s2.1 in
    let q2 = both bytes (number_text s1.0.0) s1.0.1 (number_text s2.0.0) s2.0.1 p1 p2 in
    subst (λ (y : Policy × List ℕ). 2 ∷ bytes ≡ policy_text y.0 ++ y.1) g.1 (ap (λ (t : List ℕ). 2 ∷ t) q2)

safe_test : (interval floor : ℕ) → IsInterval interval → IsFloor floor → is_safe interval floor ≡ true
safe_test interval floor i f = rw (le-leb 1 interval i.some, le-leb interval last_moment i.fits, le-leb floor 16 f) refl

number_from : (n : ℕ) → n ≤ last_moment → IsNumber n
number_from n le = omega arith

safe_again : (interval floor : ℕ) (rest : List ℕ) → IsInterval interval → IsFloor floor → safe_at (number_text interval ++ number_text floor ++ rest) ≡ Ok (policies.Safe interval floor, rest)
unfolding safe_at
safe_again interval floor rest i f =
    let regrouped = grouped2 (number_text interval) (number_text floor) rest in
    ap safe_at regrouped ∙ rw (number_form.again interval (number_text floor ++ rest) (number_from interval i.fits), number_form.again floor rest (omega (arith, f)), safe_test interval floor i f) refl

ladder_takes : (bytes : List ℕ) (x : Policy) (rest : List ℕ) → ladder_at bytes ≡ Ok (x, rest) → 3 ∷ bytes ≡ policy_text x ++ rest
unfolding ladder_at
ladder_takes bytes x rest e =
    let s1 = bind_ok (list_at rung_at bytes) (λ v1. cond (is_ladder v1.0) (Ok (policies.Landmarks v1.0, v1.1)) (Err (mistake (length bytes) flaws.Policy))) (x, rest) e in
    let g = test_ok (is_ladder s1.0.0) (mistake (length bytes) flaws.Policy) (policies.Landmarks s1.0.0, s1.0.1) (x, rest) s1.2 in
    let p1 = (list_form rung_form).takes bytes s1.0.0 s1.0.1 s1.1 in
    subst (λ (y : Policy × List ℕ). 3 ∷ bytes ≡ policy_text y.0 ++ y.1) g.1 (ap (λ (t : List ℕ). 3 ∷ t) p1)

ladder_test : (rungs : List Rung) → IsLadder rungs → is_ladder rungs ≡ true
ladder_test rungs l = rw (lt-ltb 0 (length rungs) l.some, le-leb (length rungs) 8 l.short, l.climbing) refl

rung_fits : (low high : Rung) → is_above low high ≡ true → IsRung high
rung_fits low high e =
    let a = and_parts _ _ e in
    let b = and_parts _ _ a.0 in
    let c = and_parts _ _ b.0 in
    let d = and_parts _ _ c.0 in
    (number_from high.0 (leb-true _ _ d.1), number_from high.1 (leb-true _ _ b.1))

rungs_fit : (low : Rung) (rungs : List Rung) → climbs low rungs ≡ true → AllByRecursion IsRung rungs
rungs_fit low [] e = tt
rungs_fit low (rung ∷ rungs) e =
    let a = and_parts (is_above low rung) (climbs rung rungs) e in
    (rung_fits low rung a.0, rungs_fit rung rungs a.1)

ladder_again : (rungs : List Rung) (rest : List ℕ) → IsLadder rungs → ladder_at (list_text rung_text rungs ++ rest) ≡ Ok (policies.Landmarks rungs, rest)
unfolding ladder_at
ladder_again rungs rest l =
    let short = l.short in
    let fits : AreItems IsRung rungs = (omega arith, rungs_fit ground rungs l.climbing) in
    rw ((list_form rung_form).again rungs rest fits, ladder_test rungs l) refl

policy_takes : (bytes : List ℕ) (x : Policy) (rest : List ℕ) → policy_at bytes ≡ Ok (x, rest) → bytes ≡ policy_text x ++ rest
unfolding policy_at
policy_takes [] x rest e = absurd cc
policy_takes (zero ∷ bytes) x rest e = subst (λ (y : Policy × List ℕ). 0 ∷ bytes ≡ policy_text y.0 ++ y.1) (ok_is (policies.One, bytes) (x, rest) e) refl
policy_takes (suc zero ∷ bytes) x rest e = subst (λ (y : Policy × List ℕ). 1 ∷ bytes ≡ policy_text y.0 ++ y.1) (ok_is (policies.All, bytes) (x, rest) e) refl
policy_takes (suc (suc zero) ∷ bytes) x rest e = safe_takes bytes x rest e
policy_takes (suc (suc (suc zero)) ∷ bytes) x rest e = ladder_takes bytes x rest e
policy_takes (suc (suc (suc (suc byte))) ∷ bytes) x rest e = absurd cc

policy_again : (x : Policy) (rest : List ℕ) → IsPolicy x → policy_at (policy_text x ++ rest) ≡ Ok (x, rest)
unfolding policy_at
policy_again policies.One rest fits = refl
policy_again policies.All rest fits = refl
policy_again (policies.Safe interval floor) rest fits = safe_again interval floor rest fits.0 fits.1
policy_again (policies.Landmarks rungs) rest fits = ladder_again rungs rest fits

pub policy_form : IsForm policy_text policy_at IsPolicy
policy_form = record { takes = policy_takes; again = policy_again }
