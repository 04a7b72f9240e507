-- The lines of another text, one after another.
use Rattle.std.proofs.Common.{◌≡◌, ◌∙◌, ℕ, ◌==◌, true, List, [], ◌∷◌, ◌++◌, length, ap, append_assoc, sym, arith}
use Rattle.std.proofs.lemmas.Bool.Decides.{nat_tests}
use Rattle.std.proofs.lemmas.List.{append-nil}
use Rattle.ele_outlook.specs.Input.{lines_of}

-- no bytes are no line
pub none_last : (texts : List (List ℕ)) (rest : List ℕ) → (length rest == 0) ≡ true → texts ≡ texts ++ lines_of rest
none_last texts [] e = sym (append-nil texts)
none_last texts (byte ∷ rest) e = absurd (grind (arith, nat_tests))

-- one more line
pub more_lines : (all texts new : List (List ℕ)) (rest line behind : List ℕ) → all ≡ texts ++ lines_of rest → lines_of rest ≡ line ∷ lines_of behind → new ≡ texts ++ line ∷ [] → all ≡ new ++ lines_of behind
more_lines all texts new rest line behind far cut is =
    far ∙ ap (λ (lines : List (List ℕ)). texts ++ lines) cut ∙ sym (append_assoc texts (line ∷ []) (lines_of behind))
    ∙ ap (λ (lines : List (List ℕ)). lines ++ lines_of behind) (sym is)
