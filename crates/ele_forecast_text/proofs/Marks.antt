-- One more number is marked.
use Rattle.std.proofs.Common.{◌≡◌, ◌≢◌, ℕ, ◌+◌, ◌<◌, ◌==◌, Bool, true, false, List, length, take, set, get_or, refl, sym, ap, ◌∙◌, arith}
use Rattle.std.specs.Prelude.{◌||◌}
use Rattle.std.specs.List.{list_any}
use Rattle.std.proofs.lemmas.Bool.{eq-eqb, eqb-true}
use Rattle.std.proofs.lemmas.List.{get_or-set_other, get_or-set_same, length-set}
use Rattle.std.proofs.lemmas.List.Folds.{list_any_more}
use Rattle.ele_forecast_text.specs.Marked.{IsMarked}

or_true : (b : Bool) → (b || true) ≡ true
or_true true = refl
or_true false = refl

or_false : (b : Bool) → (b || false) ≡ b
or_false true = refl
or_false false = refl

more : (numbers : List ℕ) (marks : List Bool) (i x number : ℕ) (b : Bool) → i < length numbers → x ≡ get_or numbers i x → (x == number) ≡ b → number < length marks
    → get_or marks number false ≡ list_any (λ other. other == number) (take i numbers) → get_or (set marks x true) number false ≡ list_any (λ other. other == number) (take (i + 1) numbers)
more numbers marks i x number true lt is same fits before =
    let e = eqb-true x number same in
    let any : list_any (λ other. other == number) (take (i + 1) numbers) ≡ true =
    list_any_more (λ (other : ℕ). other == number) numbers i x lt
    ∙ ap (λ (y : ℕ). list_any (λ other. other == number) (take i numbers) || (y == number)) (sym is)
    ∙ ap (λ (c : Bool). list_any (λ other. other == number) (take i numbers) || c) same ∙ or_true _ in
    ap (λ (y : ℕ). get_or (set marks y true) number false) e ∙ get_or-set_same marks number true false fits ∙ sym any
more numbers marks i x number false lt is same fits before =
    let other : number ≢ x = λ e. absurd (let t = eq-eqb x number (sym e) in cc) in
    let any : list_any (λ other. other == number) (take (i + 1) numbers) ≡ list_any (λ other. other == number) (take i numbers) =
    list_any_more (λ (other : ℕ). other == number) numbers i x lt
    ∙ ap (λ (y : ℕ). list_any (λ other. other == number) (take i numbers) || (y == number)) (sym is)
    ∙ ap (λ (c : Bool). list_any (λ other. other == number) (take i numbers) || c) same ∙ or_false _ in
    get_or-set_other marks x number true false other ∙ before ∙ sym any

pub marked_more : (numbers : List ℕ) (marks : List Bool) (i x : ℕ) → i < length numbers → x ≡ get_or numbers i x → IsMarked (take i numbers) marks → IsMarked (take (i + 1) numbers) (set marks x true)
marked_more numbers marks i x lt is marked = λ number fits.
    let short : number < length marks = omega (arith, fits, length-set marks x true) in
    more numbers marks i x number (x == number) lt is refl short (marked number short)
