-- Two lists side by side, and the numbers of kept versions.
use Rattle.std.proofs.Common.{◌≡◌, ℕ, ◌+◌, ◌<◌, List, [], ◌∷◌, ◌++◌, length, take, drop, get_or, slice_get, Option, Some, sym, ap, subst, ◌∙◌, append_assoc}
use Rattle.std.proofs.lemmas.List.{drop_more, take_more}
use Rattle.std.proofs.lemmas.Option.{get_or_from_slice_get}
use Rattle.std.proofs.lemmas.Slice.Zip.{all_zipped_more}
use Rattle.std.specs.List.{AllZip}
use Rattle.ele_rule_parts.specs.declared.reason.Reason.{Reason}
use Rattle.ele_rule_forecast.specs.Judged.{number_if, numbers_from}

-- one more of two lists side by side
pub zip_more : {A B : Type 0} (R : A → B → Type 0) (xs : List A) (i : ℕ) (x : A) (ys : List B) (y : B) → i < length xs → x ≡ get_or xs i x → AllZip R (take i xs) ys → R x y → AllZip R (take (i + 1) xs) (ys ++ y ∷ [])
zip_more {A} {B} R xs i x ys y lt is far made =
    subst (λ (zs : List A). AllZip R zs (ys ++ y ∷ [])) (sym (take_more xs i x lt ∙ ap (λ (z : A). take i xs ++ z ∷ []) (sym is))) (all_zipped_more R (take i xs) ys x y far made)

-- the numbers of the versions so far and of the others
pub numbers_more : (reasons : List (Option Reason)) (place : ℕ) (reason : Option Reason) (old new all : List ℕ) → place < length reasons → slice_get reasons place ≡ Some reason
    → old ++ numbers_from (place + 1) (drop place reasons) ≡ all → new ≡ old ++ number_if (place + 1) reason → new ++ numbers_from (place + 1 + 1) (drop (place + 1) reasons) ≡ all
numbers_more reasons place reason old new all lt there far made =
    let is : reason ≡ get_or reasons place reason = sym (get_or_from_slice_get reasons place reason reason there) in
    let rest = numbers_from (place + 1 + 1) (drop (place + 1) reasons) in
    ap (λ (ns : List ℕ). ns ++ rest) made
    ∙ append_assoc old (number_if (place + 1) reason) rest
    ∙ ap (λ (other : Option Reason). old ++ (number_if (place + 1) other ++ rest)) is
    ∙ ap (λ (others : List (Option Reason)). old ++ numbers_from (place + 1) others) (sym (drop_more reasons place reason lt))
    ∙ far
