-- A content beside an earlier one is read as it was written, and no other bytes stand for it.
use Rattle.std.proofs.Common.{◌≡◌, ℕ, zero, suc, ◌+◌, ◌<◌, ◌≤◌, ◌^◌, true, false, cond, eqb, List, [], ◌∷◌, ◌++◌, length, Option, Some, None, Result, Ok, Err, refl, sym, ap, subst, ◌∙◌, arith, inl, inr}
use Rattle.std.specs.Prelude.{slice_get}
use Rattle.std.specs.List.{AllByRecursion}
use Rattle.std.specs.Cmp.Lexicographic.{bytes_decides}
use Rattle.std.proofs.lemmas.Bool.{cases_Bool, eqb-true, and_parts, and_from, eq-eqb}
use Rattle.ele_content.specs.declared.cell.Cell.{Cell}
use Rattle.ele_checkpoint.specs.declared.fault.Flaw.TheVariants as flaws
use Rattle.ele_checkpoint.specs.declared.fault.Mistake.{Mistake}
use Rattle.ele_checkpoint.specs.Cells.{cell_text, is_kept, joined, runs, content_text}
use Rattle.ele_checkpoint.specs.PartsRead.{cell_at, slot_at, slots_at, content_at, number_at, string_at}
use Rattle.ele_checkpoint.specs.Fits.{IsNumber, IsCell, AreItems}
use Rattle.ele_checkpoint.specs.Number.{number_text}
use Rattle.ele_checkpoint.specs.Reading.{◌>>=◌, mistake}
use Rattle.ele_checkpoint.specs.Values.{string_text}
use Rattle.ele_checkpoint.proofs.Forms.{IsForm, bind_ok, test_ok, guard_ok, ok_is, both}
use Rattle.ele_checkpoint.proofs.Grouped.{grouped2}
use Rattle.ele_checkpoint.proofs.Numbers.{number_form}
use Rattle.ele_checkpoint.proofs.Values.{string_form}

cell_takes : (bytes : List ℕ) (x : Cell) (rest : List ℕ) → cell_at bytes ≡ Ok (x, rest) → bytes ≡ cell_text x ++ rest
unfolding cell_at
cell_takes bytes x rest e =
    let s1 = bind_ok (number_at bytes) (λ v1. string_at v1.1 >>= λ v2. Ok (record { writer = v1.0; bytes = v2.0 }, v2.1)) (x, rest) e in
    let s2 = bind_ok (string_at s1.0.1) (λ v2. Ok (record { writer = s1.0.0; bytes = v2.0 }, v2.1)) (x, rest) s1.2 in
    let p1 = (number_form).takes bytes s1.0.0 s1.0.1 s1.1 in
    let p2 = (string_form).takes s1.0.1 s2.0.0 s2.0.1 s2.1 in
    let q2 = both bytes (number_text s1.0.0) s1.0.1 (string_text s2.0.0) s2.0.1 p1 p2 in
    subst (λ (y : Cell × List ℕ). bytes ≡ cell_text y.0 ++ y.1) (ok_is (record { writer = s1.0.0; bytes = s2.0.0 }, s2.0.1) (x, rest) s2.2) q2

cell_again : (x : Cell) (rest : List ℕ) → IsCell x → cell_at (cell_text x ++ rest) ≡ Ok (x, rest)
unfolding cell_at
cell_again x rest fits =
    let regrouped = grouped2 (number_text x.writer) (string_text x.bytes) rest in
    ap (cell_at) regrouped ∙ rw ((number_form).again x.writer (string_text x.bytes ++ rest) fits.writer, (string_form).again x.bytes rest fits.bytes) refl

pub cell_form : IsForm cell_text cell_at IsCell
cell_form = record { takes = cell_takes; again = cell_again }

-- ---- what is kept is the cell

pub kept_is : (earlier c : Cell) → is_kept (Some earlier) c ≡ true → earlier ≡ c
kept_is earlier c e =
    let p = and_parts _ _ e in
    let writers : earlier.writer ≡ c.writer = eqb-true _ _ p.0 in
    let bytes : earlier.bytes ≡ c.bytes = (bytes_decides earlier.bytes c.bytes).0 p.1 in
    ap (λ (q : ℕ × List ℕ). record { writer = q.0; bytes = q.1 }) (cc)

pub keeps_itself : (c : Cell) → is_kept (Some c) c ≡ true
keeps_itself c = and_from _ _ (eq-eqb c.writer c.writer refl) ((bytes_decides c.bytes c.bytes).1 refl)

-- ---- the cells from a slot on

-- what the first of the runs says, and the bytes after that number
pub runs_keep : (base : List Cell) (slot : ℕ) (c : Cell) (cs : List Cell) → is_kept (slice_get base slot) c ≡ true → runs base slot (c ∷ cs) ≡ (suc (runs base (slot + 1) cs).0, (runs base (slot + 1) cs).1)
runs_keep base slot c cs e =
    let next = runs base (slot + 1) cs in
    let one : next.0 + 1 ≡ suc next.0 = omega arith in
    rw e (ap (λ (n : ℕ). (n, next.1)) one)

pub runs_tell : (base : List Cell) (slot : ℕ) (c : Cell) (cs : List Cell) → is_kept (slice_get base slot) c ≡ false → runs base slot (c ∷ cs) ≡ (0, cell_text c ++ joined (runs base (slot + 1) cs))
runs_tell base slot c cs e = rw e refl

-- the cell of a slot and the number after it, as they were read
pub data IsSlot (before : Option Cell) : ℕ → List ℕ → Cell → ℕ → List ℕ → Type 0 where
  from_base : {k : ℕ} {rest : List ℕ} (c : Cell) → before ≡ Some c → IsSlot before (suc k) rest c k rest
  from_bytes : {bytes rest : List ℕ} (c : Cell) (k : ℕ) → is_kept before c ≡ false → bytes ≡ cell_text c ++ (number_text k ++ rest) → IsSlot before 0 bytes c k rest

-- a cell that isn't kept, and the number after it
abbrev told_at : Option Cell → List ℕ → Result ((Cell × ℕ) × List ℕ) Mistake
told_at before bytes = cell_at bytes >>= λ told. number_at told.1 >>= λ after. cond (is_kept before told.0) (Err (mistake (length bytes) flaws.Repeated)) (Ok ((told.0, after.0), after.1))

told_takes : (before : Option Cell) (bytes : List ℕ) (c : Cell) (k : ℕ) (rest : List ℕ) → told_at before bytes ≡ Ok ((c, k), rest) → IsSlot before 0 bytes c k rest
told_takes before bytes c k rest e =
    let s = bind_ok (cell_at bytes) (λ told. number_at told.1 >>= λ after. cond (is_kept before told.0) (Err (mistake (length bytes) flaws.Repeated)) (Ok ((told.0, after.0), after.1))) ((c, k), rest) e in
    let t = bind_ok (number_at s.0.1) (λ after. cond (is_kept before s.0.0) (Err (mistake (length bytes) flaws.Repeated)) (Ok ((s.0.0, after.0), after.1))) ((c, k), rest) s.2 in
    let g = guard_ok (is_kept before s.0.0) (mistake (length bytes) flaws.Repeated) (Ok ((s.0.0, t.0.0), t.0.1)) ((c, k), rest) t.2 in
    let all : bytes ≡ cell_text s.0.0 ++ (number_text t.0.0 ++ t.0.1) = cell_form.takes bytes s.0.0 s.0.1 s.1 ∙ ap (λ (u : List ℕ). cell_text s.0.0 ++ u) (number_form.takes s.0.1 t.0.0 t.0.1 t.1) in
    subst (λ (y : (Cell × ℕ) × List ℕ). IsSlot before 0 bytes (y.0).0 (y.0).1 y.1) (ok_is ((s.0.0, t.0.0), t.0.1) ((c, k), rest) g.1) (from_bytes s.0.0 t.0.0 g.0 all)

slot_takes : (before : Option Cell) (kept : ℕ) (bytes : List ℕ) (c : Cell) (k : ℕ) (rest : List ℕ) → slot_at before kept bytes ≡ Ok ((c, k), rest) → IsSlot before kept bytes c k rest
unfolding slot_at
slot_takes None zero bytes c k rest e = told_takes None bytes c k rest e
slot_takes (Some earlier) zero bytes c k rest e = told_takes (Some earlier) bytes c k rest e
slot_takes None (suc more) bytes c k rest e = absurd cc
slot_takes (Some earlier) (suc more) bytes c k rest e =
    subst (λ (y : (Cell × ℕ) × List ℕ). IsSlot (Some earlier) (suc more) bytes (y.0).0 (y.0).1 y.1) (ok_is ((earlier, more), bytes) ((c, k), rest) e) (from_base earlier refl)

slot_again : (before : Option Cell) (c : Cell) (k : ℕ) (rest : List ℕ) → IsCell c → IsNumber k → is_kept before c ≡ false → slot_at before 0 (cell_text c ++ (number_text k ++ rest)) ≡ Ok ((c, k), rest)
unfolding slot_at
slot_again None c k rest fits small e = rw (cell_form.again c (number_text k ++ rest) fits, number_form.again k rest small) refl
slot_again (Some earlier) c k rest fits small e = rw (cell_form.again c (number_text k ++ rest) fits, number_form.again k rest small, e) refl

slot_kept : (before : Option Cell) (c : Cell) (k : ℕ) (rest : List ℕ) → is_kept before c ≡ true → slot_at before (suc k) rest ≡ Ok ((c, k), rest)
unfolding slot_at
slot_kept None c k rest e = absurd cc
slot_kept (Some earlier) c k rest e = rw (kept_is earlier c e) refl

-- the runs that were read
pub record AreRuns (base : List Cell) (slot n kept : ℕ) (bytes : List ℕ) (cs : List Cell) (rest : List ℕ) : Type 0 where
  pub many : length cs ≡ n
  pub first : (runs base slot cs).0 ≡ kept
  pub spelled : bytes ≡ (runs base slot cs).1 ++ rest

grow : (base : List Cell) (slot n kept : ℕ) (bytes : List ℕ) (c : Cell) (k : ℕ) (after : List ℕ) (cs : List Cell) (rest : List ℕ)
    → IsSlot (slice_get base slot) kept bytes c k after → AreRuns base (slot + 1) n k after cs rest → AreRuns base slot (suc n) kept bytes (c ∷ cs) rest
grow base slot n (suc k') after c k after' cs rest (from_base c' is) r =
    let keeps : is_kept (slice_get base slot) c' ≡ true = rw is (keeps_itself c') in
    record { many = ap suc r.many; first = rw (runs_keep base slot c' cs keeps) (ap suc r.first); spelled = rw (runs_keep base slot c' cs keeps) r.spelled }
grow base slot n zero bytes c k after cs rest (from_bytes c' k' differs spelled) r =
    let tells = runs_tell base slot c' cs differs in
    record {
      many = ap suc r.many;
      first = rw tells refl;
      spelled = rw tells (spelled ∙ ap (λ (u : List ℕ). cell_text c' ++ u) (rw (sym r.first, r.spelled) (sym (grouped2 (number_text (runs base (slot + 1) cs).0) (runs base (slot + 1) cs).1 rest))) ∙ sym (grouped2 (cell_text c') (joined (runs base (slot + 1) cs)) rest));
    }

slots_take : (base : List Cell) (n slot kept : ℕ) (bytes : List ℕ) (cs : List Cell) (rest : List ℕ) → slots_at base n slot kept bytes ≡ Ok (cs, rest) → AreRuns base slot n kept bytes cs rest
unfolding slots_at
slots_take base zero slot kept bytes cs rest e =
    let g = test_ok (eqb kept 0) (mistake (length bytes) flaws.Kept) ([], bytes) (cs, rest) e in
    subst (λ (y : List Cell × List ℕ). AreRuns base slot 0 kept bytes y.0 y.1) g.1 (record { many = refl; first = sym (eqb-true kept 0 g.0); spelled = refl })
slots_take base (suc n) slot kept bytes cs rest e =
    let s = bind_ok (slot_at (slice_get base slot) kept bytes) (λ first. slots_at base n (slot + 1) (first.0).1 first.1 >>= λ others. Ok ((first.0).0 ∷ others.0, others.1)) (cs, rest) e in
    let t = bind_ok (slots_at base n (slot + 1) (s.0.0).1 s.0.1) (λ others. Ok ((s.0.0).0 ∷ others.0, others.1)) (cs, rest) s.2 in
    let is = slot_takes (slice_get base slot) kept bytes (s.0.0).0 (s.0.0).1 s.0.1 s.1 in
    let others = slots_take base n (slot + 1) (s.0.0).1 s.0.1 t.0.0 t.0.1 t.1 in
    subst (λ (y : List Cell × List ℕ). AreRuns base slot (suc n) kept bytes y.0 y.1) (ok_is ((s.0.0).0 ∷ t.0.0, t.0.1) (cs, rest) t.2) (grow base slot n kept bytes (s.0.0).0 (s.0.0).1 s.0.1 t.0.0 t.0.1 is others)

-- no run is longer than the cells
runs_short : (base : List Cell) (slot : ℕ) (cs : List Cell) → (runs base slot cs).0 ≤ length cs
runs_short base slot [] = omega arith
runs_short base slot (c ∷ cs) =
    let others = runs_short base (slot + 1) cs in
    elim (cases_Bool (is_kept (slice_get base slot) c)) [
      | inl e ↦ rw (runs_keep base slot c cs e) (omega arith)
      | inr e ↦ rw (runs_tell base slot c cs e) (omega arith)
    ]

slots_again : (base : List Cell) (slot : ℕ) (cs : List Cell) (rest : List ℕ) → length cs < 2 ^ 64 → AllByRecursion IsCell cs → slots_at base (length cs) slot (runs base slot cs).0 ((runs base slot cs).1 ++ rest) ≡ Ok (cs, rest)
unfolding slots_at
slots_again base slot [] rest few fits = refl
slots_again base slot (c ∷ cs) rest few fits =
    let next = runs base (slot + 1) cs in
    let short = runs_short base (slot + 1) cs in
    let small : next.0 < 2 ^ 64 = omega arith in
    let others = slots_again base (slot + 1) cs rest (omega arith) fits.1 in
    elim (cases_Bool (is_kept (slice_get base slot) c)) [
      | inl e ↦ rw (runs_keep base slot c cs e, slot_kept (slice_get base slot) c next.0 (next.1 ++ rest) e, others) refl
      | inr e ↦
          let regrouped : (cell_text c ++ joined next) ++ rest ≡ cell_text c ++ (number_text next.0 ++ (next.1 ++ rest)) = grouped2 (cell_text c) (joined next) rest ∙ ap (λ (u : List ℕ). cell_text c ++ u) (grouped2 (number_text next.0) next.1 rest) in
          rw (runs_tell base slot c cs e, regrouped, slot_again (slice_get base slot) c next.0 (next.1 ++ rest) fits.0 small e, others) refl
    ]

-- ---- a whole content

content_takes : (base : List Cell) (bytes : List ℕ) (cs : List Cell) (rest : List ℕ) → content_at base bytes ≡ Ok (cs, rest) → bytes ≡ content_text base cs ++ rest
unfolding content_at content_text
content_takes base bytes cs rest e =
    let s = bind_ok (number_at bytes) (λ count. number_at count.1 >>= λ kept. slots_at base count.0 0 kept.0 kept.1) (cs, rest) e in
    let t = bind_ok (number_at s.0.1) (λ kept. slots_at base s.0.0 0 kept.0 kept.1) (cs, rest) s.2 in
    let r = slots_take base s.0.0 0 t.0.0 t.0.1 cs rest t.2 in
    let front = both bytes (number_text s.0.0) s.0.1 (number_text t.0.0) t.0.1 (number_form.takes bytes s.0.0 s.0.1 s.1) (number_form.takes s.0.1 t.0.0 t.0.1 t.1) in
    let all = both bytes (number_text s.0.0 ++ number_text t.0.0) t.0.1 (runs base 0 cs).1 rest front r.spelled in
    let lengths : bytes ≡ number_text (length cs) ++ number_text (runs base 0 cs).0 ++ (runs base 0 cs).1 ++ rest = rw (r.many, r.first) all in
    lengths ∙ ap (λ (u : List ℕ). u ++ rest) (grouped2 (number_text (length cs)) (number_text (runs base 0 cs).0) (runs base 0 cs).1)

content_again : (base : List Cell) (cs : List Cell) (rest : List ℕ) → AreItems IsCell cs → content_at base (content_text base cs ++ rest) ≡ Ok (cs, rest)
unfolding content_at content_text
content_again base cs rest fits =
    let few = fits.0 in
    let short = runs_short base 0 cs in
    let small : (runs base 0 cs).0 < 2 ^ 64 = omega arith in
    let regrouped = grouped2 (number_text (length cs)) (joined (runs base 0 cs)) rest ∙ ap (λ (u : List ℕ). number_text (length cs) ++ u) (grouped2 (number_text (runs base 0 cs).0) (runs base 0 cs).1 rest) in
    ap (content_at base) regrouped ∙ rw (number_form.again (length cs) (number_text (runs base 0 cs).0 ++ ((runs base 0 cs).1 ++ rest)) few, number_form.again (runs base 0 cs).0 ((runs base 0 cs).1 ++ rest) small, slots_again base 0 cs rest few fits.1) refl

pub content_form : (base : List Cell) → IsForm (content_text base) (content_at base) (AreItems IsCell)
content_form base = record { takes = content_takes base; again = content_again base }
