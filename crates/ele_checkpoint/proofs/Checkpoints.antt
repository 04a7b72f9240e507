-- A checkpoint is its head, the world, and the seal of both.
use Rattle.std.proofs.Common.{◌≡◌, ℕ, ◌+◌, ◌-◌, ◌≤◌, eqb, cond, List, [], ◌++◌, length, take, drop, Result, Ok, Err, refl, sym, ap, subst, ◌∙◌, append_assoc, arith}
use Rattle.std.specs.Prelude.{IfOk}
use Rattle.std.specs.Int.{w32, w64, to_be_bytes}
use Rattle.std.proofs.lemmas.Bool.{eqb-true}
use Rattle.std.proofs.lemmas.List.{append-nil, append_cancel_left, nil_from_length, take_at, take-append-drop, length-append, length-take}
use Rattle.ele_model.specs.declared.flat.Flat.{Flat}
use Rattle.ele_checkpoint.specs.declared.fault.Flaw.TheVariants as flaws
use Rattle.ele_checkpoint.specs.declared.fault.Mistake.{Mistake}
use Rattle.ele_checkpoint.specs.declared.fault.ReadError.{ReadError}
use Rattle.ele_checkpoint.specs.declared.fault.ReadError.TheVariants as errors
use Rattle.ele_checkpoint.specs.declared.fault.Stop.{Stop}
use Rattle.ele_checkpoint.specs.declared.fault.Stop.TheVariants as stop
use Rattle.ele_checkpoint.specs.Checkpoint.{IsRead, checkpoint, head, measured, sealed}
use Rattle.ele_checkpoint.specs.PartsRead.{IsGiven, IsTold, all_at, whole_at}
use Rattle.ele_checkpoint.specs.Fits.{IsFlat}
use Rattle.ele_checkpoint.specs.Reading.{Gives, mistake}
use Rattle.ele_checkpoint.specs.Sum.{sum}
use Rattle.ele_checkpoint.specs.Whole.{whole_text}
use Rattle.ele_checkpoint.proofs.Forms.{bind_ok, test_ok, ok_is}
use Rattle.ele_checkpoint.proofs.Onward.{whole_onward}
use Rattle.ele_checkpoint.proofs.Worlds.{whole_form}

-- ---- the seal

-- bytes that end by their length and sum are sealed
pub sealed_is : (bytes body end size check : List ℕ) → 12 ≤ length bytes → body ≡ take (length bytes - 12) bytes → end ≡ drop (length bytes - 12) bytes → size ≡ take 8 end → check ≡ drop 8 end
    → size ≡ to_be_bytes w64 (length bytes) → check ≡ to_be_bytes w32 (sum (take (length bytes - 4) bytes)) → bytes ≡ sealed body
sealed_is bytes body end size check long front back first last same_size same_check =
    let split : bytes ≡ body ++ end = sym (rw (front, back) (take-append-drop (length bytes - 12) bytes)) in
    let ends : end ≡ size ++ check = sym (rw (first, last) (take-append-drop 8 end)) in
    let parts : bytes ≡ (body ++ size) ++ check = split ∙ ap (λ (t : List ℕ). body ++ t) ends ∙ sym (append_assoc body size check) in
    let short : length body ≡ length bytes - 12 = ap length front ∙ omega (arith, length-take (length bytes - 12) bytes) in
    let whole : length body + 12 ≡ length bytes = omega arith in
    let eight : length size ≡ 8 = ap length same_size ∙ refl in
    let both : length (body ++ size) ≡ length bytes - 4 = omega (arith, length-append body size) in
    let summed : take (length bytes - 4) bytes ≡ body ++ size = ap (take (length bytes - 4)) parts ∙ take_at (body ++ size) check (length bytes - 4) both in
    let is_size : size ≡ to_be_bytes w64 (length body + 12) = same_size ∙ ap (to_be_bytes w64) (sym whole) in
    let is_check : check ≡ to_be_bytes w32 (sum (body ++ size)) = same_check ∙ ap (λ (t : List ℕ). to_be_bytes w32 (sum t)) summed in
    parts ∙ ap (λ (t : List ℕ). (body ++ size) ++ t) is_check ∙ ap (λ (t : List ℕ). (body ++ t) ++ to_be_bytes w32 (sum (body ++ t))) is_size

sealed_parts : (body : List ℕ) → sealed body ≡ body ++ (to_be_bytes w64 (length body + 12) ++ to_be_bytes w32 (sum (measured body)))
sealed_parts body = append_assoc body (to_be_bytes w64 (length body + 12)) (to_be_bytes w32 (sum (measured body)))

sealed_length : (body : List ℕ) → length (sealed body) ≡ length body + 12
sealed_length body =
    ap length (sealed_parts body) ∙ length-append body (to_be_bytes w64 (length body + 12) ++ to_be_bytes w32 (sum (measured body)))

-- what was sealed is known
pub sealed_once : (a b : List ℕ) → sealed a ≡ sealed b → a ≡ b
sealed_once a b e =
    let lengths : length a ≡ length b = omega (arith, sealed_length a, sealed_length b, ap length e) in
    let ends = λ (c : List ℕ). to_be_bytes w64 (length c + 12) ++ to_be_bytes w32 (sum (measured c)) in
    sym (take_at a (ends a) (length b) lengths) ∙ ap (take (length b)) (sym (sealed_parts a) ∙ e ∙ sealed_parts b) ∙ take_at b (ends b) (length b) refl

pub sealed_begins : (bytes rest : List ℕ) → bytes ≡ sealed (head ++ rest) → (others : List ℕ) × (bytes ≡ head ++ others)
sealed_begins bytes rest e =
    let end : List ℕ = to_be_bytes w64 (length (head ++ rest) + 12) ++ to_be_bytes w32 (sum (measured (head ++ rest))) in
    (rest ++ end, e ∙ sealed_parts (head ++ rest) ∙ append_assoc head rest end)

-- ---- the world between head and seal

all_takes : (bytes : List ℕ) (flat : Flat) → all_at bytes ≡ Ok flat → bytes ≡ whole_text flat
unfolding all_at
all_takes bytes flat e =
    let s = bind_ok (whole_at bytes) (λ found. cond (eqb (length found.1) 0) (Ok found.0) (Err (mistake (length found.1) flaws.Trailing))) flat e in
    let g = test_ok (eqb (length s.0.1) 0) (mistake (length s.0.1) flaws.Trailing) s.0.0 flat s.2 in
    let nothing : s.0.1 ≡ [] = nil_from_length s.0.1 (eqb-true _ _ g.0) in
    whole_form.takes bytes s.0.0 s.0.1 s.1 ∙ ap (λ (t : List ℕ). whole_text s.0.0 ++ t) nothing ∙ append-nil (whole_text s.0.0) ∙ ap whole_text g.1

all_again : (flat : Flat) → IsFlat flat → all_at (whole_text flat) ≡ Ok flat
unfolding all_at
all_again flat fits =
    let found : whole_at (whole_text flat) ≡ Ok (flat, []) = ap whole_at (sym (append-nil (whole_text flat))) ∙ whole_form.again flat [] fits in
    rw found refl

-- a world that was read, and what another one begins with
all_alone : (rest : List ℕ) (found flat : Flat) (after more : List ℕ) → all_at rest ≡ Ok found → IsFlat flat → rest ++ after ≡ whole_text flat ++ more → found ≡ flat
unfolding all_at
all_alone rest found flat after more e fits same =
    let s = bind_ok (whole_at rest) (λ read. cond (eqb (length read.1) 0) (Ok read.0) (Err (mistake (length read.1) flaws.Trailing))) found e in
    let g = test_ok (eqb (length s.0.1) 0) (mistake (length s.0.1) flaws.Trailing) s.0.0 found s.2 in
    let nothing : s.0.1 ≡ [] = nil_from_length s.0.1 (eqb-true _ _ g.0) in
    let ends : whole_at rest ≡ Ok (found, []) = s.1 ∙ ap (λ (t : List ℕ). Ok (s.0.0, t)) nothing ∙ ap (λ (f : Flat). Ok (f, [])) g.1 in
    let both = ok_is (found, after) (flat, more) (sym (whole_onward rest found after ends) ∙ ap whole_at same ∙ whole_form.again flat more fits) in
    ap (λ (p : Flat × List ℕ). p.0) both

given_is : (flat : Flat) (r : Result Flat Stop) → Gives (λ (x : Flat). x) r (Ok flat) → IsGiven flat r
given_is flat (Ok read) h = sym (ok_is flat read h)
given_is flat (Err stop.Memory) h = tt
given_is flat (Err (stop.At m)) h = absurd cc

pub inside_found : (r : Result Flat Stop) (body rest : List ℕ) → body ≡ head ++ rest → Gives (λ (x : Flat). x) r (all_at rest) → IfOk r (λ flat. body ≡ head ++ whole_text flat)
inside_found (Ok flat) body rest is given = is ∙ ap (λ (t : List ℕ). head ++ t) (all_takes rest flat given)
inside_found (Err e) body rest is given = tt

pub inside_only : (r : Result Flat Stop) (body rest : List ℕ) → body ≡ head ++ rest → Gives (λ (x : Flat). x) r (all_at rest) → (flat : Flat) → IsFlat flat → body ≡ head ++ whole_text flat → IsGiven flat r
inside_only r body rest is given flat fits e =
    let same : rest ≡ whole_text flat = append_cancel_left head rest (whole_text flat) (sym is ∙ e) in
    given_is flat r (subst (λ (f : Result Flat Mistake). Gives (λ (x : Flat). x) r f) (ap all_at same ∙ all_again flat fits) given)

pub inside_none : (e : Stop) (body : List ℕ) → ((rest : List ℕ) → body ≡ head ++ rest → ⊥) → (flat : Flat) → IsFlat flat → body ≡ head ++ whole_text flat → IsGiven flat (Err e)
inside_none stop.Memory body none flat fits e = tt
inside_none (stop.At m) body none flat fits e = none (whole_text flat) e

pub inside_alone : (r : Result Flat Stop) (body rest : List ℕ) → body ≡ head ++ rest → Gives (λ (x : Flat). x) r (all_at rest)
    → IfOk r (λ found. (flat : Flat) (after more : List ℕ) → IsFlat flat → body ++ after ≡ (head ++ whole_text flat) ++ more → found ≡ flat)
inside_alone (Ok found) body rest is given = λ flat after more fits e.
    let parts : head ++ (rest ++ after) ≡ head ++ (whole_text flat ++ more) = sym (append_assoc head rest after) ∙ ap (λ (t : List ℕ). t ++ after) (sym is) ∙ e ∙ append_assoc head (whole_text flat) more in
    all_alone rest found flat after more given fits (append_cancel_left head (rest ++ after) (whole_text flat ++ more) parts)
inside_alone (Err e) body rest is given = tt

-- ---- the whole

-- what begins as sealed bytes begins as those before the seal
pub read_alone : (bytes body : List ℕ) (found flat : Flat) (after more : List ℕ) → bytes ≡ sealed body → ((flat : Flat) (after more : List ℕ) → IsFlat flat → body ++ after ≡ (head ++ whole_text flat) ++ more → found ≡ flat)
    → IsFlat flat → bytes ++ after ≡ checkpoint flat ++ more → found ≡ flat
read_alone bytes body found flat after more is inside fits e =
    let ends = λ (c : List ℕ). to_be_bytes w64 (length c + 12) ++ to_be_bytes w32 (sum (measured c)) in
    let own = head ++ whole_text flat in
    let parts = λ (c x : List ℕ). ap (λ (t : List ℕ). t ++ x) (sealed_parts c) ∙ append_assoc c (ends c) x in
    inside flat (ends body ++ after) (ends own ++ more) fits (sym (parts body after) ∙ ap (λ (t : List ℕ). t ++ after) (sym is) ∙ e ∙ parts own more)

pub read_none : (r : ReadError) (bytes : List ℕ) → ((rest : List ℕ) → bytes ≡ sealed (head ++ rest) → ⊥) → (flat : Flat) → IsFlat flat → bytes ≡ checkpoint flat → IsRead flat (Err r)
read_none errors.NoMemory bytes none flat fits e = tt
read_none (errors.Fault f) bytes none flat fits e = none (whole_text flat) e

pub read_told : (flat : Flat) (s : Stop) (r : ReadError) → IsTold s r → IsGiven flat (Err s) → IsRead flat (Err r)
read_told flat stop.Memory errors.NoMemory told given = tt
read_told flat stop.Memory (errors.Fault f) told given = told
read_told flat (stop.At m) r told given = absurd given

-- each world has its own bytes
pub one_world : (a b : Flat) → IsFlat a → IsFlat b → checkpoint a ≡ checkpoint b → a ≡ b
one_world a b fits fits' e =
    let same : whole_text a ≡ whole_text b = append_cancel_left head (whole_text a) (whole_text b) (sealed_once (head ++ whole_text a) (head ++ whole_text b) e) in
    ok_is a b (sym (all_again a fits) ∙ ap all_at same ∙ all_again b fits')

-- nor does one begin with another's
pub one_front : (a b : Flat) (more : List ℕ) → IsFlat a → IsFlat b → checkpoint a ++ more ≡ checkpoint b → a ≡ b
one_front a b more fits fits' e =
    let text : (checkpoint a ++ more) ++ [] ≡ checkpoint b ++ [] = ap (λ (t : List ℕ). t ++ []) e in
    let whole = append_assoc (checkpoint a) more [] in
    read_alone (checkpoint a) (head ++ whole_text a) a b (more ++ []) [] refl
    (λ flat after rest fits'' same.
    let parts : head ++ (whole_text a ++ after) ≡ head ++ (whole_text flat ++ rest) = sym (append_assoc head (whole_text a) after) ∙ same ∙ append_assoc head (whole_text flat) rest in
    all_alone (whole_text a) a flat after rest (all_again a fits) fits'' (append_cancel_left head (whole_text a ++ after) (whole_text flat ++ rest) parts))
    fits' (sym whole ∙ text)
