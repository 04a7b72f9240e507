-- The rule at the start, and what it says at the end.
use Rattle.std.proofs.Common.{◌≡◌, ℕ, zero, suc, ◌+◌, ◌*◌, ◌%◌, false, inl, ⊎_elim, List, [], ◌∷◌, map, refl, sym, ap, ◌∙◌, subst, arith, append-nil, IfOk, Some, Result, Ok, Err}
use Rattle.std.proofs.lemmas.Bool.Decides.{nat_tests}
use mathlib.Core.Option.{some, some-injective, some-ne-none}
use lib.ListN.{get_elem?}
use Rattle.atomic_table.specs.Table.{opening, Final, Seen}
use Rattle.ele_history.specs.Past.{Past, count_of}
use Rattle.ele_shared_history.specs.declared.ledger.View.{View}
use Rattle.ele_shared_history.specs.Rule.{Kind, first_view, history_after, events_after, Fits, Free, Taken, Kept}
use Rattle.ele_shared_history.specs.Closing.{Closes}
use Rattle.ele_shared_history.specs.Knowledge.{Knowledge}
use Rattle.ele_shared_history.specs.Told.{knowledge}
use Rattle.atomic_table.specs.Seated.{TableId}

first_fits : (o : Past) → Fits o 1 (λ n. n) [] 0 (first_view o)
first_fits o = record {
  opening = refl;
  seen = ([], refl);
  told = ([], refl);
  own = refl;
  own_seen = refl;
  left = record { own = refl; within = λ n h. absurd (cc) };
  right = record { own = refl; within = λ n h. absurd (cc) };
  apart = λ n h. absurd (cc);
  numbers = λ n h. let e : 0 ≡ n = grind (arith, nat_tests) in (sym e, omega arith);
  known = λ n h. let e : 0 ≡ n = grind (arith, nat_tests) in omega arith;
  fresh = λ h. absurd (cc);
}

one_seat : (F : ℕ → View → Type 0) (w : View) → F 0 w → (j : ℕ) (u : View) → get_elem? (w ∷ []) j ≡ some u → F j u
one_seat F w f zero u at = subst (λ z. F 0 z) (some-injective w u at) f
one_seat F w f (suc j) u at = absurd (some-ne-none u (sym at))

pub opens : (o : Past) (n : ℕ) (xs : List Kind) → n ≡ count_of o → xs ≡ Some o ∷ [] → Kept o (opening (2 * n ∷ []) xs (first_view o))
opens o n xs e is = record {
  log = [];
  owner = λ n. n;
  legal = tt;
  each = one_seat (λ j u. u.spent ≡ false → Fits o 1 (λ n. n) [] j u) (first_view o) (λ _. first_fits o);
  later = λ n h. (refl, refl);
  turn = inl record {
    word = let q : 2 * n ≡ 2 * events_after o [] = omega arith in ap (λ (x : ℕ). x ∷ []) q;
    home = ap (λ (z : List Kind). map some z) is ∙ ap (λ (es : List _). some (Some record o { entries = es }) ∷ []) (sym (append-nil o.entries));
    none_holds = one_seat (λ _ u. u.holds ≡ false) (first_view o) refl;
  };
}

-- at an even word the history is at home
pub closes : (o : Past) (z : TableId) (id : ℕ) (v : View) (ws : List ℕ) (xs : List Kind) (w : ℕ) (slot : Kind) → v.opening ≡ o → v.spent ≡ false → Final (Seen (Kept o) id v) ws xs → get_elem? ws 0 ≡ some w → get_elem? xs 0 ≡ some slot → w % 2 ≡ 0
    → (history : Past) × (slot ≡ Some history) × Closes o (knowledge z v) history
closes o z id v ws xs w slot op live (s, (k, at), words, long, there) found out even =
    let f = k.each id v at live in
    let free : Free o k.log s = ⊎_elim (λ (f : Free o k.log s). f)
    (λ (t : Taken o k.log s). let e : w ≡ 2 * events_after o k.log + 1 = some-injective w (2 * events_after o k.log + 1) (sym found ∙ ap (λ (l : List ℕ). get_elem? l 0) (sym words ∙ t.word)) in absurd (omega arith)) k.turn in
    let home : get_elem? xs 0 ≡ some (Some (history_after o k.log)) = there 0 (Some (history_after o k.log)) (ap (λ (l : List (mathlib.Core.Option.Option Kind)). get_elem? l 0) free.home) in (
      history_after o k.log,
      some-injective slot (Some (history_after o k.log)) (sym out ∙ home),
      record { log = k.log; after = refl; legal = k.legal; view = f.seen; own = f.own },
    )

pub closes_with : {S : Type 0} (o : Past) (k : Knowledge) (w : ℕ) (slot : Kind) (res : Result Past S) → (w % 2 ≡ 0 → (history : Past) × (slot ≡ Some history) × Closes o k history)
    → IfOk res (λ history. (w % 2 ≡ 0) × (slot ≡ Some history)) → IfOk res (λ history. Closes o k history)
closes_with o k w slot (Ok history) find is =
    let found = find is.0 in
    let same : found.0 ≡ history = cc in
    subst (λ (h : Past). Closes o k h) same found.2
closes_with o k w slot (Err stop) find is = tt
