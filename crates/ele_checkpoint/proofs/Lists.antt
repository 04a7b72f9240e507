-- A list is read as it was written, and no other bytes stand for it.
use Rattle.std.proofs.Common.{◌≡◌, ℕ, List, ◌++◌, length, Result, Ok, refl, sym, ap, subst, ◌∙◌}
use Rattle.std.specs.List.{flat_map}
use Rattle.ele_checkpoint.specs.declared.fault.Mistake.{Mistake}
use Rattle.ele_checkpoint.specs.Fits.{AreItems}
use Rattle.ele_checkpoint.specs.Lists.{list_text}
use Rattle.ele_checkpoint.specs.PartsRead.{list_at, items_at, number_at}
use Rattle.ele_checkpoint.specs.Number.{number_text}
use Rattle.ele_checkpoint.proofs.Forms.{IsForm, bind_ok, both, items_take, items_again}
use Rattle.ele_checkpoint.proofs.Grouped.{grouped2}
use Rattle.ele_checkpoint.proofs.Numbers.{number_form}

module _ {X : Type 0} {text : X → List ℕ} {at : List ℕ → Result (X × List ℕ) Mistake} {Fits : X → Type 0} (form : IsForm text at Fits) where
  takes : (bytes : List ℕ) (xs : List X) (rest : List ℕ) → list_at at bytes ≡ Ok (xs, rest) → bytes ≡ list_text text xs ++ rest
  unfolding list_at
  takes bytes xs rest e =
      let a = bind_ok (number_at bytes) (λ count. items_at at count.0 count.1) (xs, rest) e in
      let items = items_take form a.0.0 a.0.1 xs rest a.2 in
      let all = both bytes (number_text a.0.0) a.0.1 (flat_map text xs) rest (number_form.takes bytes a.0.0 a.0.1 a.1) items.0 in
      subst (λ (n : ℕ). bytes ≡ number_text n ++ flat_map text xs ++ rest) (sym items.1) all

  again : (xs : List X) (rest : List ℕ) → AreItems Fits xs → list_at at (list_text text xs ++ rest) ≡ Ok (xs, rest)
  unfolding list_at
  again xs rest fits =
      let regrouped = grouped2 (number_text (length xs)) (flat_map text xs) rest in
      ap (list_at at) regrouped ∙ rw (number_form.again (length xs) (flat_map text xs ++ rest) fits.0, items_again form xs rest fits.1) refl

  pub list_form : IsForm (list_text text) (list_at at) (AreItems Fits)
  list_form = record { takes = takes; again = again }
