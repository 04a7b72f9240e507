-- What a suggested policy is to keep, and words that say nothing of it.
use Rattle.std.proofs.Common.{◌≡◌, ◌∙◌, ◌&&◌, ℕ, List, [], ◌∷◌, Bool, nat_lt, Option, Some, None, ap, sym, refl, true, false}
use Rattle.std.proofs.lemmas.Bool.{false≢true}
use Rattle.std.proofs.lemmas.Option.{none-some}
use Rattle.std.specs.List.{AllZip}
use Rattle.ele_moment.specs.Number.{SpellsNumber}
use Rattle.ele_suggest.specs.Asked.{rise_from}
use Rattle.ele_suggest.specs.Words.{SpellsSpan, SpellsSpans}
use Rattle.ele_suggest.specs.declared.grain.Span.{Span}
use Rattle.ele_tool_words.proofs.Lengths.{one_length}
use Rattle.ele_invocation.specs.Forecasts.{AreSpans, IsBound}

-- words spell ages that rise, or that don't
same_rise : (words : List (List ℕ)) (a b : List Span) (age : ℕ) → AllZip SpellsSpan words a → AllZip SpellsSpan words b → rise_from age a ≡ rise_from age b
same_rise [] [] [] age p q = refl
same_rise [] [] (y ∷ b) age p q = absurd q
same_rise [] (x ∷ a) b age p q = absurd p
same_rise (w ∷ words) [] b age p q = absurd p
same_rise (w ∷ words) (x ∷ a) [] age p q = absurd q
same_rise (w ∷ words) (x ∷ a) (y ∷ b) age p q =
    let same : x.age ≡ y.age = one_length _ x.age y.age p.0.age q.0.age in
    ap (λ (n : ℕ). nat_lt age n && rise_from n a) same ∙ ap (λ (r : Bool). nat_lt age y.age && r) (same_rise words a b y.age p.1 q.1)

-- a word whose ages don't rise
pub no_rise : (word : List ℕ) (spans : List Span) → SpellsSpans word spans → rise_from 0 spans ≡ false → (others : List Span) → ¬ AreSpans (Some word) others
no_rise word spans read falls others is = false≢true (sym falls ∙ same_rise _ spans others 0 read.each is.0.each ∙ is.1)

-- a word that spells no spans
pub no_spans : (word : List ℕ) → ((spans : List Span) → SpellsSpans word spans → ⊥) → (spans : List Span) → ¬ AreSpans (Some word) spans
no_spans word none spans is = none spans is.0

-- a word that spells no number
pub no_bound : (word : List ℕ) → ((n : ℕ) → SpellsNumber word n → ◌≡◌ {A = Option ℕ} None (Some n)) → (most : Option ℕ) → ¬ IsBound (Some word) most
no_bound word only None is = is
no_bound word only (Some n) is = none-some n (only n is)
