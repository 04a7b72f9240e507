-- A line has at most one meaning.
use Rattle.ele_script.proofs.Basics.{◌≡◌, ℕ, Bool, List, inl, inr, Ok, Err, Result}
use Rattle.ele_script.proofs.Prelude.{OneMeaning, Line, LineFault, Asks}
use Rattle.ele_script.proofs.Laws.{only_read, one_fault, one_spelling, spelled_faultless}
use Rattle.ele_script.specs.LineMeaning.{OneLineMeaning}

same_ok : (a b : Line) → ◌≡◌ {A = Result Line LineFault} (Ok a) (Ok b) → a ≡ b
same_ok a b h = cc

no_err : (a : Line) (fault : LineFault) → ◌≡◌ {A = Result Line LineFault} (Ok a) (Err fault) → ⊥
no_err a fault h = cc

module _ (law : OneMeaning) where
  one_line : (explains : Bool) (line : List ℕ) (a b : Line) → Asks explains line a → Asks explains line b → a ≡ b
  one_line explains line a b first second =
      elim (only_read law line (Ok a) first tt b second) [ inl same ↦ same_ok a b same | inr none ↦ absurd (no_err a _ none) ]

  pub one_line_meaning : OneLineMeaning
  one_line_meaning = record { one_spelling = one_spelling law; one_line = one_line; one_fault = λ explains line a b. one_fault law line a b; faultless = λ explains line asked fault. spelled_faultless law line asked fault }
