-- A chain that goes on.
use Rattle.ele_chain.proofs.Basics.{List, [], ap, append_assoc, refl, sym, ℕ, ◌++◌, ◌∙◌, ◌∷◌, ◌≡◌}
use Rattle.ele_chain.specs.Chain.{chained, hash_line, last_hash}

pub goes_on : (above : List ℕ) (rows more : List (List ℕ)) → chained above (rows ++ more) ≡ chained above rows ++ chained (last_hash above rows) more
goes_on above [] more = refl
goes_on above (row ∷ rows) more =
    let line = hash_line (above ++ row) in
    ap (λ (text : List ℕ). row ++ (line ++ text)) (goes_on line rows more)
    ∙ (ap (λ (text : List ℕ). row ++ text) (sym (append_assoc line (chained line rows) (chained (last_hash line rows) more)))
    ∙ sym (append_assoc row (line ++ chained line rows) (chained (last_hash line rows) more)))

pub last_goes_on : (above : List ℕ) (rows : List (List ℕ)) (row : List ℕ) → last_hash above (rows ++ row ∷ []) ≡ hash_line (last_hash above rows ++ row)
last_goes_on above [] row = refl
last_goes_on above (r ∷ rows) row = last_goes_on (hash_line (above ++ r)) rows row
