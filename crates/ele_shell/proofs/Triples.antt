-- The rows of names that are given as triples.
use Rattle.std.proofs.Common.{◌≡◌, ℕ, Bool, List, [], ◌∷◌, map, Result, Ok, Err, refl, sym, ap, ◌∙◌}
use Rattle.std.specs.Prelude.{◌↔◌, IfOk, IsTrue}
use Rattle.ele_model.specs.declared.rows.DeletedName.{DeletedName}
use Rattle.ele_model.specs.declared.rows.Target.{Target}
use Rattle.ele_model.specs.Restorable.{row_of, triple_of}

triples_back : (names : List (ℕ × List ℕ × Target)) → map triple_of (map row_of names) ≡ names
triples_back [] = refl
triples_back (given ∷ names) = ap (λ (rest : List (ℕ × List ℕ × Target)). given ∷ rest) (triples_back names)

rows_back : (rows : List DeletedName) → map row_of (map triple_of rows) ≡ rows
rows_back [] = refl
rows_back (row ∷ rows) = ap (λ (rest : List DeletedName). row ∷ rest) (rows_back rows)

-- the rows of the names are compared, and so are the names
pub audited : {E : Type 0} (D U : Type 0) (names : List (ℕ × List ℕ × Target)) (given rows : List DeletedName) (r : Result Bool E) → given ≡ map row_of names → IfOk r (λ equal. IsTrue equal ↔ (D × (given ≡ rows) × U))
    → IfOk r (λ equal. IsTrue equal ↔ (D × (names ≡ map triple_of rows) × U))
audited D U names given rows (Ok equal) is all = (
  λ yes. let of = all.0 yes in (of.0, sym (triples_back names) ∙ ap (map triple_of) (sym is ∙ of.1), of.2),
  λ of. all.1 (of.0, is ∙ ap (map row_of) of.1 ∙ rows_back rows, of.2),
)
audited D U names given rows (Err refused) is all = tt
