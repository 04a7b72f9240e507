-- The rows of a suggestion, one after another.
use Rattle.std.proofs.Common.{◌≡◌, ℕ, ◌+◌, ◌<◌, ◌≤◌, Bool, Option, List, ◌++◌, length, drop, get_or, sym, ap, ◌∙◌}
use Rattle.std.proofs.lemmas.List.{at_drop_all, drop_more}
use Rattle.ele_output.specs.Outlet.{Outlet, Puts}
use Rattle.ele_output.proofs.Known.{HasPut, put_all, put_more}
use Rattle.ele_suggest.specs.SuggestedText.{is_best, rows_from}
use Rattle.ele_suggest.specs.declared.weighed.Weighed.{Weighed}

-- at a policy, its row is next
row_here : (row : Bool → Weighed → List ℕ) (best : Option ℕ) (xs : List Weighed) (i : ℕ) (x : Weighed) → i < length xs → x ≡ get_or xs i x
    → rows_from row best i (drop i xs) ≡ row (is_best best i) x ++ rows_from row best (i + 1) (drop (i + 1) xs)
row_here row best xs i x lt is =
    ap (λ (ys : List Weighed). rows_from row best i ys) (drop_more xs i x lt)
    ∙ ap (λ (y : Weighed). row (is_best best i) y ++ rows_from row best (i + 1) (drop (i + 1) xs)) (sym is)

-- at a policy, its row is put, and the others are left
pub row_more : {a b c : Outlet} {whole : List ℕ} (row : Bool → Weighed → List ℕ) (best : Option ℕ) (xs : List Weighed) (i : ℕ) (x : Weighed) → i < length xs → x ≡ get_or xs i x
    → HasPut a b whole (rows_from row best i (drop i xs)) → Puts b c (row (is_best best i) x) → HasPut a c whole (rows_from row best (i + 1) (drop (i + 1) xs))
row_more row best xs i x lt is has puts = put_more has (row_here row best xs i x lt is) puts

-- at the end of the policies, all rows are put
pub rows_done : {a b : Outlet} {whole : List ℕ} (row : Bool → Weighed → List ℕ) (best : Option ℕ) (xs : List Weighed) (i : ℕ) → length xs ≤ i
    → HasPut a b whole (rows_from row best i (drop i xs)) → Puts a b whole
rows_done row best xs i le has = put_all has (at_drop_all (λ (ys : List Weighed). rows_from row best i ys) xs i le)
