-- Of two beginnings of one list one begins with the other.
use Rattle.std.proofs.Common.{◌≡◌, List, [], ◌∷◌, ◌++◌, inl, inr, refl, ap, sym, subst, ◌∙◌, arith}
use Rattle.ele_shared_history.specs.Running.{AgreeBy, StartsWith}

agree_cons : {A : Type 0} (x : A) (xs ys : List A) → AgreeBy xs ys → AgreeBy (x ∷ xs) (x ∷ ys)
agree_cons x xs ys (inl (rest, is)) = inl (rest, ap (λ z. x ∷ z) is)
agree_cons x xs ys (inr (rest, is)) = inr (rest, ap (λ z. x ∷ z) is)

fronts : {A : Type 0} (xs ys more rest : List A) → xs ++ more ≡ ys ++ rest → AgreeBy xs ys
fronts [] ys more rest same = inr (ys, refl)
fronts (x ∷ xs) [] more rest same = inl (x ∷ xs, refl)
fronts (x ∷ xs) (y ∷ ys) more rest same =
    let head : x ≡ y = grind (arith, same) in
    let tail : xs ++ more ≡ ys ++ rest = grind (arith, same) in
    subst (λ z. AgreeBy (x ∷ xs) (z ∷ ys)) head (agree_cons x xs ys (fronts xs ys more rest tail))

pub agree : {A : Type 0} (all xs ys : List A) → StartsWith all xs → StartsWith all ys → AgreeBy xs ys
agree all xs ys first second = fronts xs ys first.0 second.0 (sym first.1 ∙ second.1)
