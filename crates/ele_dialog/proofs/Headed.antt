-- A heading above rows.
use Rattle.ele_dialog.proofs.Basics.{Bool, List, None, Some, [], ap, arith, drop, false, length, ne_eqb, refl, take, true, ℕ, ◌+◌, ◌++◌, ◌==◌, ◌∙◌, ◌∷◌, ◌≡◌}
use Rattle.ele_dialog.proofs.Lines.{first_cut, first_none, never}
use Rattle.ele_dialog.specs.Heading.{headed, heading_above}
use Rattle.ele_runs.specs.Lines.{IsUnbroken}
use Rattle.memchr.specs.Find.{IsFirstByte, is_byte}

headed_line : (heading line rows : List ℕ) → IsUnbroken line → headed heading (line ++ 10 ∷ rows) ≡ line ++ 10 ∷ (heading_above heading rows ++ rows)
headed_line heading [] rows whole = refl
headed_line heading (b ∷ bs) rows whole =
    let other : (b == 10) ≡ false = ne_eqb b 10 whole.0 in
    rw other (ap (λ (t : List ℕ). b ∷ t) (headed_line heading bs rows whole.1))

headed_none : (heading line : List ℕ) → IsUnbroken line → headed heading line ≡ line
headed_none heading [] whole = refl
headed_none heading (b ∷ bs) whole =
    let other : (b == 10) ≡ false = ne_eqb b 10 whole.0 in
    rw other (ap (λ (t : List ℕ). b ∷ t) (headed_none heading bs whole.1))

-- behind the first line
pub headed_at : (heading text : List ℕ) (at : ℕ) → IsFirstByte (is_byte 10) text (Some at)
    → headed heading text ≡ take at text ++ 10 ∷ (heading_above heading (drop (at + 1) text) ++ drop (at + 1) text)
headed_at heading text at first =
    ap (headed heading) (first_cut 10 text at first) ∙ headed_line heading (take at text) (drop (at + 1) text) (first_none 10 text at first)

-- a text without a line feed
pub headed_never : (heading text : List ℕ) → IsFirstByte (is_byte 10) text None → headed heading text ≡ text
headed_never heading text none = headed_none heading text (never 10 text none)

none_above : (rows : List ℕ) → heading_above [] rows ++ rows ≡ rows
none_above [] = refl
none_above (b ∷ bs) = refl

nothing_then : (b : ℕ) (bs : List ℕ) (is : Bool) → (b == 10) ≡ is → headed [] bs ≡ bs → headed [] (b ∷ bs) ≡ b ∷ bs
nothing_then b bs true e more = rw e (ap (λ (t : List ℕ). b ∷ t) (none_above bs))
nothing_then b bs false e more = rw e (ap (λ (t : List ℕ). b ∷ t) more)

-- no heading
pub headed_nothing : (text : List ℕ) → headed [] text ≡ text
headed_nothing [] = refl
headed_nothing (b ∷ bs) = nothing_then b bs (b == 10) refl (headed_nothing bs)

pub unheaded : (heading text : List ℕ) → (length heading == 0) ≡ true → headed heading text ≡ text
unheaded [] text none = headed_nothing text
unheaded (b ∷ bs) text none = absurd (grind arith)
