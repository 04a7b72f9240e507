-- Lists of bytes that differ at one place, taken apart. A check finds the difference.
use Rattle.std.proofs.Common.{◌≡◌, ℕ, zero, suc, ◌+◌, ◌-◌, ◌<◌, ◌≤◌, ◌^◌, List, [], ◌∷◌, ◌++◌, length, take, drop, get_or, refl, sym, ap, subst, ◌∙◌, append_assoc, arith, inl, inr}
use Rattle.std.specs.Int.{w32, from_be_bytes, to_be_bytes}
use Rattle.std.proofs.lemmas.Bool.{cases_lt}
use Rattle.std.proofs.lemmas.List.{append-nil, append_cancel_left, take_at, drop_at, length-append}
use Rattle.std.proofs.lemmas.Nat.{from_be_bytes-to_be_bytes_4}
use Rattle.ele_checkpoint.specs.Sum.{AreBytes, sum}
use Rattle.ele_checkpoint.proofs.Noticed.{bytes_of, one_byte, sum_small}
use Rattle.ele_journal.specs.Changed.{IsChangedAt}
use Rattle.ele_journal.specs.Changes.{check_of, linked}
use Rattle.ele_journal.proofs.Changes.{four, longer}

-- ---- bytes

pub bytes_and : (a b : List ℕ) → AreBytes a → AreBytes b → AreBytes (a ++ b)
bytes_and [] b are are' = are'
bytes_and (byte ∷ a) b are are' = (are.0, bytes_and a b are.1 are')

pub all_bytes : (bytes : List ℕ) → ((i : ℕ) → get_or bytes i 0 < 256) → AreBytes bytes
all_bytes [] small = tt
all_bytes (byte ∷ bytes) small = (small 0, all_bytes bytes (λ i. small (suc i)))

pub check_bytes : (bytes : List ℕ) → AreBytes (check_of bytes)
unfolding check_of
check_bytes bytes = (omega arith, (omega arith, (omega arith, (omega arith, tt))))

-- ---- one place

pub record Differs (place : ℕ) (xs ys : List ℕ) : Type 0 where
  pub front : List ℕ
  pub back : List ℕ
  pub was : ℕ
  pub is : ℕ
  pub first : xs ≡ front ++ was ∷ back
  pub second : ys ≡ front ++ is ∷ back
  pub at : length front ≡ place
  pub bytes : AreBytes (front ++ was ∷ is ∷ back)
  pub other : was ≡ is → ⊥

pub differs : (place : ℕ) (xs ys : List ℕ) → IsChangedAt place xs ys → AreBytes ys → Differs place xs ys
differs place xs ys c are =
    let parts = bytes_of c.front (c.is ∷ c.back) (subst AreBytes c.after are) in
    record { front = c.front; back = c.back; was = c.was; is = c.is; first = c.before; second = c.after; at = c.at; bytes = bytes_and c.front (c.was ∷ c.is ∷ c.back) parts.0 (c.byte, parts.1); other = c.other }

pub not_same : (place : ℕ) (xs ys : List ℕ) → Differs place xs ys → xs ≡ ys → ⊥
not_same place xs ys d e =
    let tails = append_cancel_left d.front (d.was ∷ d.back) (d.is ∷ d.back) (sym d.first ∙ e ∙ d.second) in
    d.other (cc)

pub differs_length : (place : ℕ) (xs ys : List ℕ) → Differs place xs ys → length ys ≡ length xs
differs_length place xs ys d =
    omega (arith, ap length d.first, ap length d.second, length-append d.front (d.was ∷ d.back), length-append d.front (d.is ∷ d.back))

-- the place lies in the first part, or in the second
pub data Split (place : ℕ) (a b ys : List ℕ) : Type 0 where
  in_first : (a' : List ℕ) → ys ≡ a' ++ b → place < length a → Differs place a a' → Split place a b ys
  in_second : (b' : List ℕ) → ys ≡ a ++ b' → length a ≤ place → Differs (place - length a) b b' → Split place a b ys

first_part : (place : ℕ) (a b ys : List ℕ) → Differs place (a ++ b) ys → place < length a → Split place a b ys
first_part place a b ys d lt =
    let upto = d.front ++ d.was ∷ [] in
    let long : length upto ≡ suc place = omega (arith, length-append d.front (d.was ∷ []), d.at) in
    let whole : a ++ b ≡ upto ++ d.back = d.first ∙ sym (append_assoc d.front (d.was ∷ []) d.back) in
    let mid = drop (length upto) a in
    let parts : a ≡ upto ++ mid = longer a b upto d.back whole (omega arith) in
    let rest : mid ++ b ≡ d.back = append_cancel_left upto (mid ++ b) d.back (sym (append_assoc upto mid b) ∙ ap (λ (t : List ℕ). t ++ b) (sym parts) ∙ whole) in
    let own = bytes_of d.front (d.was ∷ d.is ∷ d.back) d.bytes in
    let mids = bytes_of mid b (subst AreBytes (sym rest) own.1.1.1) in
    in_first (d.front ++ d.is ∷ mid)
    (d.second ∙ ap (λ (t : List ℕ). d.front ++ d.is ∷ t) (sym rest) ∙ sym (append_assoc d.front (d.is ∷ mid) b))
    lt
    (record {
      front = d.front;
      back = mid;
      was = d.was;
      is = d.is;
      first = parts ∙ append_assoc d.front (d.was ∷ []) mid;
      second = refl;
      at = d.at;
      bytes = bytes_and d.front (d.was ∷ d.is ∷ mid) own.0 (own.1.0, (own.1.1.0, mids.0));
      other = d.other;
    })

second_part : (place : ℕ) (a b ys : List ℕ) → Differs place (a ++ b) ys → length a ≤ place → Split place a b ys
second_part place a b ys d le =
    let mid = drop (length a) d.front in
    let parts : d.front ≡ a ++ mid = longer d.front (d.was ∷ d.back) a b (sym d.first) (omega (arith, d.at)) in
    let rest : b ≡ mid ++ d.was ∷ d.back = append_cancel_left a b (mid ++ d.was ∷ d.back) (d.first ∙ ap (λ (t : List ℕ). t ++ d.was ∷ d.back) parts ∙ append_assoc a mid (d.was ∷ d.back)) in
    let own = bytes_of d.front (d.was ∷ d.is ∷ d.back) d.bytes in
    let mids = bytes_of a mid (subst AreBytes parts own.0) in
    in_second (mid ++ d.is ∷ d.back)
    (d.second ∙ ap (λ (t : List ℕ). t ++ d.is ∷ d.back) parts ∙ append_assoc a mid (d.is ∷ d.back))
    le
    (record {
      front = mid;
      back = d.back;
      was = d.was;
      is = d.is;
      first = rest;
      second = refl;
      at = omega (arith, ap length parts, length-append a mid, d.at);
      bytes = bytes_and mid (d.was ∷ d.is ∷ d.back) mids.1 own.1;
      other = d.other;
    })

pub split : (place : ℕ) (a b ys : List ℕ) → Differs place (a ++ b) ys → Split place a b ys
split place a b ys d = elim (cases_lt place (length a)) [ inl lt ↦ first_part place a b ys d lt | inr le ↦ second_part place a b ys d le ]

-- ---- checks

one_sum : (a b : List ℕ) → AreBytes a → AreBytes b → check_of a ≡ check_of b → sum a ≡ sum b
unfolding check_of
one_sum a b are are' e = sym (from_be_bytes-to_be_bytes_4 (sum a) (sum_small a are)) ∙ ap (from_be_bytes w32) e ∙ from_be_bytes-to_be_bytes_4 (sum b) (sum_small b are')

-- what is covered by one check isn't changed in one byte
one_check : (place : ℕ) (before body body' : List ℕ) → AreBytes before → Differs place body body' → check_of (before ++ body) ≡ check_of (before ++ body') → ⊥
one_check place before body body' are d e =
    let own = bytes_of d.front (d.was ∷ d.is ∷ d.back) d.bytes in
    let fronts = bytes_and before d.front are own.0 in
    let regroup = λ (x : ℕ). append_assoc before d.front (x ∷ d.back) in
    let a : before ++ body ≡ (before ++ d.front) ++ d.was ∷ d.back = ap (λ (t : List ℕ). before ++ t) d.first ∙ sym (regroup d.was) in
    let b : before ++ body' ≡ (before ++ d.front) ++ d.is ∷ d.back = ap (λ (t : List ℕ). before ++ t) d.second ∙ sym (regroup d.is) in
    let sums : sum ((before ++ d.front) ++ d.was ∷ d.back) ≡ sum ((before ++ d.front) ++ d.is ∷ d.back) =
    one_sum ((before ++ d.front) ++ d.was ∷ d.back) ((before ++ d.front) ++ d.is ∷ d.back)
    (bytes_and (before ++ d.front) (d.was ∷ d.back) fronts (own.1.0, own.1.1.1))
    (bytes_and (before ++ d.front) (d.is ∷ d.back) fronts own.1.1)
    (ap check_of (sym a) ∙ e ∙ ap check_of b) in
    d.other (one_byte (before ++ d.front) d.back d.was d.is (bytes_and (before ++ d.front) (d.was ∷ d.is ∷ d.back) fronts own.1) sums)

-- bytes of one length, with their checks, don't differ at one place
pub checked : (place : ℕ) (before body other ys : List ℕ) → AreBytes before → length other ≡ length body → Differs place (linked before body) ys → ys ≡ linked before other → ⊥
checked place before body other ys are long d is =
    let check = check_of (before ++ body) in
    let check' = check_of (before ++ other) in
    elim (split place body check ys d) [
      | in_first body' e lt d' ↦
          let long' : length body' ≡ length other = differs_length place body body' d' ∙ sym long in
          let both : body' ++ check ≡ other ++ check' = sym e ∙ is in
          let same : body' ≡ other = sym (take_at body' check (length other) long') ∙ ap (take (length other)) both ∙ take_at other check' (length other) refl in
          let checks : check ≡ check' = sym (drop_at body' check (length other) long') ∙ ap (drop (length other)) both ∙ drop_at other check' (length other) refl in
          one_check place before body body' are d' (checks ∙ ap (λ (t : List ℕ). check_of (before ++ t)) (sym same))
      | in_second last e le d' ↦
          let both : body ++ last ≡ other ++ check' = sym e ∙ is in
          let same : body ≡ other = sym (take_at body last (length body) refl) ∙ ap (take (length body)) both ∙ take_at other check' (length body) long in
          let lasts : last ≡ check' = sym (drop_at body last (length body) refl) ∙ ap (drop (length body)) both ∙ drop_at other check' (length body) long in
          not_same (place - length body) check last d' (ap (λ (t : List ℕ). check_of (before ++ t)) same ∙ sym lasts)
    ]
