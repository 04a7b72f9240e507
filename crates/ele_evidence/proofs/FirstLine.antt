-- The first line of bytes, and the event that it asks for.
use Rattle.ele_evidence.proofs.Basics.{Bool, List, None, Some, [], ap, append_cancel_left, arith, codes, drop, false, get_or, inl, inr, length, length-append, refl, subst, sym, take, true, ℕ, ◌++◌, ◌+◌, ◌<◌, ◌∙◌, ◌∷◌, ◌≡◌, ◌≤◌}
use Rattle.ele_evidence.specs.Checked.{AsksFirst}
use Rattle.ele_evidence.specs.Verdict.{AsksRow}
use Rattle.ele_lists.proofs.Taken.{cut-at}
use Rattle.ele_model.specs.declared.event.Event.{Event}
use Rattle.ele_script.specs.Spells.{AsksEvent}
use Rattle.ele_script.specs.Words.{is_plain, is_worded}
use Rattle.memchr.specs.Find.{IsFirstByte, is_byte}
use Rattle.std.proofs.lemmas.Bool.{cases_lt, eq-eqb, eqb-true, false≢true}
use Rattle.std.proofs.lemmas.List.{get_or_append_left, take_at}
use Rattle.std.proofs.lemmas.List.Sums.{AllPass-from_list_all}
use Rattle.std.specs.Prelude.{◌&&◌}

front : (a b : Bool) → (a && b) ≡ true → a ≡ true
front true b e = refl
front false b e = e

-- a line of words has no line feed
no_feed : (line : List ℕ) (k : ℕ) → is_worded line ≡ true → k < length line → get_or line k 0 ≡ 10 → ⊥
no_feed line k worded lt e =
    false≢true (subst (λ (b : ℕ). is_plain b ≡ true) e (AllPass-from_list_all is_plain line (front _ _ worded) k 0 lt))

-- the line feed after a line
feed_at : (line behind : List ℕ) → get_or (line ++ 10 ∷ behind) (length line) 0 ≡ 10
feed_at [] behind = refl
feed_at (b ∷ line) behind = feed_at line behind

there : (line behind : List ℕ) → length line < length (line ++ 10 ∷ behind)
there line behind = omega (arith, length-append line (10 ∷ behind))

is_feed : (line behind : List ℕ) → is_byte 10 (get_or (line ++ 10 ∷ behind) (length line) 0) ≡ true
is_feed line behind = eq-eqb (get_or (line ++ 10 ∷ behind) (length line) 0) 10 (feed_at line behind)

some_feed : (line behind : List ℕ) → IsFirstByte (is_byte 10) (line ++ 10 ∷ behind) None → ⊥
some_feed line behind none = none (length line) (omega arith) (there line behind) (is_feed line behind)

-- the first line feed is the one after the line
first_feed : (line behind : List ℕ) (at : ℕ) → is_worded line ≡ true → IsFirstByte (is_byte 10) (line ++ 10 ∷ behind) (Some at) → at ≡ length line
first_feed line behind at worded first =
    elim (cases_lt at (length line)) [
      | inl lt ↦ absurd (no_feed line at worded lt (sym (get_or_append_left line (10 ∷ behind) 0 at lt) ∙ eqb-true (get_or (line ++ 10 ∷ behind) at 0) 10 first.1))
      | inr le ↦ not_later le
    ] where
      not_later : length line ≤ at → at ≡ length line
      not_later le =
          elim (cases_lt (length line) at) [
            | inl lt ↦ absurd (first.0.before (length line) (omega arith) lt (is_feed line behind))
            | inr ge ↦ omega (arith, le, ge)
          ]

-- bytes that begin with such a line ask for its event
pub asks_first : (text : List ℕ) (at : ℕ) (event : Event) → IsFirstByte (is_byte 10) text (Some at) → AsksEvent (take at text) event → AsksFirst text event
asks_first text at event first asks = record {
  line = take at text;
  behind = drop (at + 1) text;
  asks = asks;
  parts = cut-at text at 10 0 first.0.high (eqb-true (get_or text at 0) 10 first.1);
}

-- and no other line does
pub asked_line : (text : List ℕ) (at : ℕ) (event : Event) → IsFirstByte (is_byte 10) text (Some at) → AsksFirst text event → AsksEvent (take at text) event
asked_line text at event first asked =
    let found = subst (λ (t : List ℕ). IsFirstByte (is_byte 10) t (Some at)) asked.parts first in
    let at_is = first_feed asked.line asked.behind at asked.asks.spells.worded found in
    subst (λ (line : List ℕ). AsksEvent line event) (sym (ap (take at) asked.parts ∙ take_at asked.line (10 ∷ asked.behind) at (sym at_is))) asked.asks

pub asked_none : (text : List ℕ) (event : Event) → IsFirstByte (is_byte 10) text None → AsksFirst text event → ⊥
asked_none text event none asked = some_feed asked.line asked.behind (subst (λ (t : List ℕ). IsFirstByte (is_byte 10) t None) asked.parts none)

-- and behind `- `
pub asks_row : (rest text : List ℕ) (event : Event) → rest ≡ codes "- " ++ text → AsksFirst text event → AsksRow rest event
asks_row rest text event begins asked = record {
  line = asked.line;
  behind = asked.behind;
  asks = asked.asks;
  parts = begins ∙ ap (λ (more : List ℕ). codes "- " ++ more) asked.parts;
}

pub asked_row : (rest text : List ℕ) (event : Event) → rest ≡ codes "- " ++ text → AsksRow rest event → AsksFirst text event
asked_row rest text event begins asked = record {
  line = asked.line;
  behind = asked.behind;
  asks = asked.asks;
  parts = append_cancel_left (codes "- ") text (asked.line ++ 10 ∷ asked.behind) (sym begins ∙ asked.parts);
}
