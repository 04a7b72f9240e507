-- Each single value is read as it was written, and no other bytes stand for it.
use Rattle.std.proofs.Common.{◌≡◌, ℕ, zero, suc, ◌<◌, ◌≤◌, ◌^◌, Bool, true, false, cond, ltb, leb, List, [], ◌∷◌, ◌++◌, length, take, drop, Option, Some, None, Ok, Err, refl, sym, ap, subst, ◌∙◌, arith, inl, inr}
use Rattle.std.specs.Prelude.{codes, not, nat_eq}
use Rattle.std.specs.Cmp.Lexicographic.{pointwise, bytes_decides}
use Rattle.std.proofs.lemmas.Bool.{ltb-false, le-ltb, lt-ltb, le-leb, cases_Bool}
use Rattle.std.proofs.lemmas.List.{take_at, drop_at, take-append-drop, length-append, length-take}
use Rattle.ele_moment.specs.Last.{last_moment}
use Rattle.ele_moment.specs.Name.{IsName}
use Rattle.ele_model.specs.declared.rows.Target.{Target}
use Rattle.ele_model.specs.declared.rows.Target.TheVariants as targets
use Rattle.ele_model.specs.declared.rows.Reads.{Reads}
use Rattle.ele_model.specs.declared.rows.Reads.TheVariants as readings
use Rattle.ele_checkpoint.specs.declared.fault.Flaw.TheVariants as flaws
use Rattle.ele_checkpoint.specs.Fits.{IsMoment, IsMaybe, IsTarget, IsReads}
use Rattle.ele_checkpoint.specs.Number.{number_text}
use Rattle.ele_checkpoint.specs.PartsRead.{number_at, string_at, truth_at, moment_at, maybe_at, is_name, name_at, target_at, reads_at}
use Rattle.ele_checkpoint.specs.Reading.{◌>>=◌, mistake}
use Rattle.ele_checkpoint.specs.Values.{string_text, truth_text, maybe_text, target_text, reads_text}
use Rattle.ele_checkpoint.proofs.Forms.{IsForm, bind_ok, test_ok, guard_ok, ok_is, both}
use Rattle.ele_checkpoint.proofs.Grouped.{grouped2}
use Rattle.ele_checkpoint.proofs.Numbers.{number_form}

-- ---- bytes

string_takes : (bytes text rest : List ℕ) → string_at bytes ≡ Ok (text, rest) → bytes ≡ string_text text ++ rest
unfolding string_at
string_takes bytes text rest e =
    let b = bind_ok (number_at bytes) (λ count. cond (ltb (length count.1) count.0) (Err (mistake (length count.1) flaws.Short)) (Ok (take count.0 count.1, drop count.0 count.1))) (text, rest) e in
    let n = b.0 in
    let g = guard_ok (ltb (length n.1) n.0) (mistake (length n.1) flaws.Short) (Ok (take n.0 n.1, drop n.0 n.1)) (text, rest) b.2 in
    let long : n.0 ≤ length n.1 = ltb-false _ _ g.0 in
    let len : length (take n.0 n.1) ≡ n.0 = omega (arith, length-take n.0 n.1) in
    let all = both bytes (number_text n.0) n.1 (take n.0 n.1) (drop n.0 n.1) (number_form.takes bytes n.0 n.1 b.1) (sym (take-append-drop n.0 n.1)) in
    let whole : bytes ≡ string_text (take n.0 n.1) ++ drop n.0 n.1 = subst (λ (k : ℕ). bytes ≡ number_text k ++ take n.0 n.1 ++ drop n.0 n.1) (sym len) all in
    subst (λ (y : List ℕ × List ℕ). bytes ≡ string_text y.0 ++ y.1) (ok_is (take n.0 n.1, drop n.0 n.1) (text, rest) g.1) whole

string_again : (text rest : List ℕ) → length text < 2 ^ 64 → string_at (string_text text ++ rest) ≡ Ok (text, rest)
unfolding string_at
string_again text rest fits =
    let regrouped = grouped2 (number_text (length text)) text rest in
    let long : ltb (length (text ++ rest)) (length text) ≡ false = le-ltb _ _ (omega (arith, length-append text rest)) in
    ap string_at regrouped ∙ rw (number_form.again (length text) (text ++ rest) fits, long, take_at text rest (length text) refl, drop_at text rest (length text) refl) refl

pub string_form : IsForm string_text string_at (λ text. length text < 2 ^ 64)
string_form = record { takes = string_takes; again = string_again }

-- ---- truth values

truth_takes : (bytes : List ℕ) (x : Bool) (rest : List ℕ) → truth_at bytes ≡ Ok (x, rest) → bytes ≡ truth_text x ++ rest
unfolding truth_at
truth_takes [] x rest e = absurd cc
truth_takes (zero ∷ bytes) x rest e = subst (λ (y : Bool × List ℕ). 0 ∷ bytes ≡ truth_text y.0 ++ y.1) (ok_is (false, bytes) (x, rest) e) refl
truth_takes (suc zero ∷ bytes) x rest e = subst (λ (y : Bool × List ℕ). 1 ∷ bytes ≡ truth_text y.0 ++ y.1) (ok_is (true, bytes) (x, rest) e) refl
truth_takes (suc (suc byte) ∷ bytes) x rest e = absurd cc

truth_again : (x : Bool) (rest : List ℕ) → Unit {0} → truth_at (truth_text x ++ rest) ≡ Ok (x, rest)
unfolding truth_at
truth_again false rest fits = refl
truth_again true rest fits = refl

pub truth_form : IsForm truth_text truth_at (λ _. Unit {0})
truth_form = record { takes = truth_takes; again = truth_again }

-- ---- moments

moment_takes : (bytes : List ℕ) (x : ℕ) (rest : List ℕ) → moment_at bytes ≡ Ok (x, rest) → bytes ≡ number_text x ++ rest
unfolding moment_at
moment_takes bytes x rest e =
    let s = bind_ok (number_at bytes) (λ seconds. cond (leb seconds.0 last_moment) (Ok (seconds.0, seconds.1)) (Err (mistake (length bytes) flaws.Moment))) (x, rest) e in
    let g = test_ok (leb s.0.0 last_moment) (mistake (length bytes) flaws.Moment) (s.0.0, s.0.1) (x, rest) s.2 in
    subst (λ (y : ℕ × List ℕ). bytes ≡ number_text y.0 ++ y.1) g.1 (number_form.takes bytes s.0.0 s.0.1 s.1)

number_within : (n : ℕ) → n ≤ last_moment → n < 2 ^ 64
number_within n le = omega arith

moment_again : (x : ℕ) (rest : List ℕ) → IsMoment x → moment_at (number_text x ++ rest) ≡ Ok (x, rest)
unfolding moment_at
moment_again x rest fits = rw (number_form.again x rest (number_within x fits), le-leb x last_moment fits) refl

pub moment_form : IsForm number_text moment_at IsMoment
moment_form = record { takes = moment_takes; again = moment_again }

maybe_takes : (bytes : List ℕ) (x : Option ℕ) (rest : List ℕ) → maybe_at bytes ≡ Ok (x, rest) → bytes ≡ maybe_text x ++ rest
unfolding maybe_at
maybe_takes [] x rest e = absurd cc
maybe_takes (zero ∷ bytes) x rest e = subst (λ (y : Option ℕ × List ℕ). 0 ∷ bytes ≡ maybe_text y.0 ++ y.1) (ok_is (None, bytes) (x, rest) e) refl
maybe_takes (suc zero ∷ bytes) x rest e =
    let s = bind_ok (moment_at bytes) (λ seconds. Ok (Some seconds.0, seconds.1)) (x, rest) e in
    subst (λ (y : Option ℕ × List ℕ). 1 ∷ bytes ≡ maybe_text y.0 ++ y.1) (ok_is (Some s.0.0, s.0.1) (x, rest) s.2) (ap (λ (t : List ℕ). 1 ∷ t) (moment_form.takes bytes s.0.0 s.0.1 s.1))
maybe_takes (suc (suc byte) ∷ bytes) x rest e = absurd cc

maybe_again : (x : Option ℕ) (rest : List ℕ) → IsMaybe x → maybe_at (maybe_text x ++ rest) ≡ Ok (x, rest)
unfolding maybe_at
maybe_again None rest fits = refl
maybe_again (Some seconds) rest fits = rw (moment_form.again seconds rest fits) refl

pub maybe_form : IsForm maybe_text maybe_at IsMaybe
maybe_form = record { takes = maybe_takes; again = maybe_again }

-- ---- names

differs : (xs ys : List ℕ) → (xs ≡ ys → ⊥) → not (pointwise nat_eq xs ys) ≡ true
differs xs ys h =
    elim (cases_Bool (pointwise nat_eq xs ys)) [
      | inl e ↦ absurd (h ((bytes_decides xs ys).0 e))
      | inr e ↦ rw e refl
    ]

pub name_test : (bytes : List ℕ) → IsName bytes → is_name bytes ≡ true
name_test bytes n =
    rw (lt-ltb 0 (length bytes) n.some, le-leb (length bytes) 64 n.short, n.plain, differs bytes (codes ".") n.no_dot, differs bytes (codes "..") n.no_dots) refl

name_takes : (bytes text rest : List ℕ) → name_at bytes ≡ Ok (text, rest) → bytes ≡ string_text text ++ rest
unfolding name_at
name_takes bytes text rest e =
    let s = bind_ok (string_at bytes) (λ name. cond (is_name name.0) (Ok (name.0, name.1)) (Err (mistake (length bytes) flaws.Name))) (text, rest) e in
    let g = test_ok (is_name s.0.0) (mistake (length bytes) flaws.Name) (s.0.0, s.0.1) (text, rest) s.2 in
    subst (λ (y : List ℕ × List ℕ). bytes ≡ string_text y.0 ++ y.1) g.1 (string_form.takes bytes s.0.0 s.0.1 s.1)

name_again : (text rest : List ℕ) → IsName text → name_at (string_text text ++ rest) ≡ Ok (text, rest)
unfolding name_at
name_again text rest fits =
    let short = fits.short in
    rw (string_form.again text rest (omega arith), name_test text fits) refl

pub name_form : IsForm string_text name_at IsName
name_form = record { takes = name_takes; again = name_again }

-- ---- what a name means, and what a handle reads

target_takes : (bytes : List ℕ) (x : Target) (rest : List ℕ) → target_at bytes ≡ Ok (x, rest) → bytes ≡ target_text x ++ rest
unfolding target_at
target_takes [] x rest e = absurd cc
target_takes (zero ∷ bytes) x rest e =
    let s = bind_ok (number_at bytes) (λ id. Ok (targets.File id.0, id.1)) (x, rest) e in
    subst (λ (y : Target × List ℕ). 0 ∷ bytes ≡ target_text y.0 ++ y.1) (ok_is (targets.File s.0.0, s.0.1) (x, rest) s.2) (ap (λ (t : List ℕ). 0 ∷ t) (number_form.takes bytes s.0.0 s.0.1 s.1))
target_takes (suc zero ∷ bytes) x rest e =
    let s = bind_ok (number_at bytes) (λ id. Ok (targets.Directory id.0, id.1)) (x, rest) e in
    subst (λ (y : Target × List ℕ). 1 ∷ bytes ≡ target_text y.0 ++ y.1) (ok_is (targets.Directory s.0.0, s.0.1) (x, rest) s.2) (ap (λ (t : List ℕ). 1 ∷ t) (number_form.takes bytes s.0.0 s.0.1 s.1))
target_takes (suc (suc byte) ∷ bytes) x rest e = absurd cc

target_again : (x : Target) (rest : List ℕ) → IsTarget x → target_at (target_text x ++ rest) ≡ Ok (x, rest)
unfolding target_at
target_again (targets.File id) rest fits = rw (number_form.again id rest fits) refl
target_again (targets.Directory id) rest fits = rw (number_form.again id rest fits) refl

pub target_form : IsForm target_text target_at IsTarget
target_form = record { takes = target_takes; again = target_again }

reads_takes : (bytes : List ℕ) (x : Reads) (rest : List ℕ) → reads_at bytes ≡ Ok (x, rest) → bytes ≡ reads_text x ++ rest
unfolding reads_at
reads_takes [] x rest e = absurd cc
reads_takes (zero ∷ bytes) x rest e =
    let s = bind_ok (number_at bytes) (λ file. Ok (readings.Draft file.0, file.1)) (x, rest) e in
    subst (λ (y : Reads × List ℕ). 0 ∷ bytes ≡ reads_text y.0 ++ y.1) (ok_is (readings.Draft s.0.0, s.0.1) (x, rest) s.2) (ap (λ (t : List ℕ). 0 ∷ t) (number_form.takes bytes s.0.0 s.0.1 s.1))
reads_takes (suc zero ∷ bytes) x rest e =
    let s = bind_ok (number_at bytes) (λ file. number_at file.1 >>= λ version. Ok (readings.Version file.0 version.0, version.1)) (x, rest) e in
    let t = bind_ok (number_at s.0.1) (λ version. Ok (readings.Version s.0.0 version.0, version.1)) (x, rest) s.2 in
    let all = both bytes (number_text s.0.0) s.0.1 (number_text t.0.0) t.0.1 (number_form.takes bytes s.0.0 s.0.1 s.1) (number_form.takes s.0.1 t.0.0 t.0.1 t.1) in
    subst (λ (y : Reads × List ℕ). 1 ∷ bytes ≡ reads_text y.0 ++ y.1) (ok_is (readings.Version s.0.0 t.0.0, t.0.1) (x, rest) t.2) (ap (λ (u : List ℕ). 1 ∷ u) all)
reads_takes (suc (suc byte) ∷ bytes) x rest e = absurd cc

reads_again : (x : Reads) (rest : List ℕ) → IsReads x → reads_at (reads_text x ++ rest) ≡ Ok (x, rest)
unfolding reads_at
reads_again (readings.Draft file) rest fits = rw (number_form.again file rest fits) refl
reads_again (readings.Version file version) rest fits =
    let regrouped = grouped2 (number_text file) (number_text version) rest in
    ap (λ (t : List ℕ). reads_at (1 ∷ t)) regrouped ∙ rw (number_form.again file (number_text version ++ rest) fits.0, number_form.again version rest fits.1) refl

pub reads_form : IsForm reads_text reads_at IsReads
reads_form = record { takes = reads_takes; again = reads_again }
