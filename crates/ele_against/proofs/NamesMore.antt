-- Names and versions, one after another.
use Rattle.std.proofs.Common.{◌≡◌, ℕ, zero, suc, ◌||◌, cond, ◌+◌, ◌<◌, ◌++◌, Bool, true, false, List, [], ◌∷◌, length, drop, get_or, refl, sym, ap, ◌∙◌, append_assoc, arith}
use Rattle.std.specs.Prelude.{bytes_eq, filter}
use Rattle.std.specs.List.{flat_map}
use Rattle.std.proofs.lemmas.Bool.Decides.{nat_tests}
use Rattle.std.proofs.lemmas.List.{drop_more}
use Rattle.ele_output.specs.Outlet.{Outlet, Puts}
use Rattle.ele_output.proofs.Known.{HasPut}
use Rattle.ele_output.proofs.Lists.{list_more}
use Rattle.ele_forecast_text.specs.Labels.{name_of}
use Rattle.ele_forecast_text.specs.declared.label.Label.{Label}
use Rattle.ele_against.specs.Compared.{chosen_of, is_among, is_wanted, line_if, unknown_from}
use Rattle.ele_against.specs.Names.{chosen_in, has}
use Rattle.ele_against.specs.declared.names.Names.{Names}

-- bytes are equal either way round
eq_turned : (xs ys : List ℕ) → bytes_eq xs ys ≡ bytes_eq ys xs
eq_turned [] [] = refl
eq_turned [] (y ∷ ys) = refl
eq_turned (x ∷ xs) [] = refl
eq_turned (x ∷ xs) (y ∷ ys) = grind (arith, nat_tests, eq_turned xs ys)

either : (a o : Bool) → cond a true o ≡ (a || o)
either true o = refl
either false o = refl

-- a name more is there
pub has_more : (added text : List ℕ) (old new : Bool) → new ≡ cond (bytes_eq added text) true old → new ≡ (bytes_eq text added || old)
has_more added text old new is = is ∙ either (bytes_eq added text) old ∙ ap (λ (b : Bool). b || old) (eq_turned added text)

defaults : (xs : List ℕ) (i : ℕ) (d e : ℕ) → i < length xs → get_or xs i d ≡ get_or xs i e
defaults [] i d e lt = absurd (omega (arith, lt))
defaults (x ∷ xs) zero d e lt = refl
defaults (x ∷ xs) (suc i) d e lt = defaults xs i d e (omega (arith, lt))

-- at a number, its text is put, and the others are left
pub number_more : {a b c : Outlet} {whole : List ℕ} (line : ℕ → List ℕ) (xs : List ℕ) (i d : ℕ) → i < length xs → HasPut a b whole (flat_map line (drop i xs)) → Puts b c (line (get_or xs i d)) → HasPut a c whole (flat_map line (drop (i + 1) xs))
number_more line xs i d lt has puts = list_more line xs i (get_or xs i d) lt (defaults xs i d (get_or xs i d) lt) has puts

-- the same versions are chosen by names that are those of the labels
pub chosen_same : (named : Bool) (names : Names) (others labels : List Label) (numbers : List ℕ) → ((text : List ℕ) → has names text ≡ is_among others text)
    → chosen_in named names labels numbers ≡ chosen_of named others labels numbers
chosen_same named names others labels [] same = refl
chosen_same named names others labels (n ∷ numbers) same = grind (arith, same (name_of labels n), chosen_same named names others labels numbers same)

-- the lines so far and of the others
pub unknown_more : (labels others : List Label) (place : ℕ) (other : Label) (known : Bool) (old new all : List ℕ) → place < length others → other ≡ get_or others place other
    → known ≡ is_among labels other.text.items → old ++ unknown_from labels (place + 1) (drop place others) ≡ all → new ≡ old ++ line_if known (place + 1)
    → new ++ unknown_from labels (place + 1 + 1) (drop (place + 1) others) ≡ all
unknown_more labels others place other known old new all lt is is_known far made =
    let rest = unknown_from labels (place + 1 + 1) (drop (place + 1) others) in
    rw (made, is_known)
    (append_assoc old (line_if (is_among labels other.text.items) (place + 1)) rest
    ∙ ap (λ (o : Label). old ++ unknown_from labels (place + 1) (o ∷ drop (place + 1) others)) is
    ∙ ap (λ (os : List Label). old ++ unknown_from labels (place + 1) os) (sym (drop_more others place other lt))
    ∙ far)
