-- Dates that are added word after word, and lines with them.
use Rattle.std.proofs.lemmas.Grind.{flat_map-append}
use Rattle.std.specs.List.{AllZip, flat_map, slice_split}
use Rattle.ele_dialog.proofs.Basics.{Bool, Err, List, None, Ok, Option, Result, Some, [], ap, append-nil, append_assoc, arith, false, length, refl, subst, sym, true, ℕ, ◌++◌, ◌==◌, ◌∙◌, ◌∷◌, ◌≡◌}
use Rattle.ele_dialog.specs.Dates.{AreDates, IsDatedLine, IsDatedText, IsDatesText, IsShown, before_dates, between_dates, dated_words, joined, parts_of}
use Rattle.ele_dialog.specs.Places.{columns_behind}
use Rattle.ele_dialog.specs.declared.places.Places.{Places}
use Rattle.ele_dialog.specs.Walk.{AddsDates, AddsWords, front_after}
use Rattle.ele_moment.specs.Spelled.{SpellsMoment, SpellsTimestamp}

-- ---- texts in a row

front_same : (next : List ℕ) (texts : List (List ℕ)) → front_after next next texts ≡ next
front_same next [] = refl
front_same next (text ∷ texts) = refl

front_then : (first next : List ℕ) (texts others : List (List ℕ)) → front_after first next (texts ++ others) ≡ front_after (front_after first next texts) next others
front_then first next [] others = refl
front_then first next (text ∷ texts) others = sym (front_same next others)

joined_then : (first next : List ℕ) (texts others : List (List ℕ)) → joined first next (texts ++ others) ≡ joined first next texts ++ joined (front_after first next texts) next others
joined_then first next [] others = refl
joined_then first next (text ∷ texts) others =
    let more = joined_then next next texts others ∙ ap (λ (f : List ℕ). joined next next texts ++ joined f next others) (front_same next texts) in
    ap (λ (t : List ℕ). first ++ (text ++ t)) more
    ∙ (ap (λ (t : List ℕ). first ++ t) (sym (append_assoc text (joined next next texts) (joined next next others)))
    ∙ sym (append_assoc first (text ++ joined next next texts) (joined next next others)))

-- one more text behind the others
pub joined_more : (first next front : List ℕ) (texts : List (List ℕ)) (text : List ℕ) → front ≡ front_after first next texts
    → joined first next texts ++ (front ++ text) ≡ joined first next (texts ++ text ∷ [])
joined_more first next front texts text is =
    ap (λ (f : List ℕ). joined first next texts ++ (f ++ text)) is
    ∙ (ap (λ (t : List ℕ). joined first next texts ++ (front_after first next texts ++ t)) (sym (append-nil text))
    ∙ sym (joined_then first next texts (text ∷ [])))

pub front_more : (first next : List ℕ) (texts : List (List ℕ)) (text : List ℕ) → next ≡ front_after first next (texts ++ text ∷ [])
front_more first next [] text = refl
front_more first next (t ∷ texts) text = refl

-- ---- dates

dates_then : (words more dates others : List (List ℕ)) → AreDates words dates → AreDates more others → AreDates (words ++ more) (dates ++ others)
dates_then [] more dates others none are = rw none are
dates_then (word ∷ words) more dates others (first, rest, is, by, parts) are = (
  first,
  rest ++ others,
  is,
  dates_then words more rest others by are,
  ap (λ (t : List (List ℕ)). t ++ others) parts ∙ append_assoc first rest others,
)

pub add_no_dates : (front text : List ℕ) → AddsDates front [] front text text
add_no_dates front text = record { dates = []; are = refl; behind_is = refl; adds = sym (append-nil text) }

pub add_dates_then : {front mid behind a b c : List ℕ} {words more : List (List ℕ)} → AddsDates front words mid a b → AddsDates mid more behind b c → AddsDates front (words ++ more) behind a c
add_dates_then {front} {mid} {behind} {a} {b} {c} {words} {more} one two =
    let first = joined front between_dates one.dates in
    let parts = ap (λ (f : List ℕ). first ++ joined f between_dates two.dates) one.behind_is ∙ sym (joined_then front between_dates one.dates two.dates) in
    record {
      dates = one.dates ++ two.dates;
      are = dates_then words more one.dates two.dates one.are two.are;
      behind_is = two.behind_is ∙ (ap (λ (f : List ℕ). front_after f between_dates two.dates) one.behind_is ∙ sym (front_then front between_dates one.dates two.dates));
      adds =
          two.adds
          ∙ (ap (λ (t : List ℕ). t ++ joined mid between_dates two.dates) one.adds
          ∙ (append_assoc a first (joined mid between_dates two.dates) ∙ ap (λ (t : List ℕ). a ++ t) parts));
    }

-- the date of a part
pub add_one_date : (front part date : List ℕ) (moment : ℕ) (a b c : List ℕ) → SpellsMoment part moment → SpellsTimestamp date moment → b ≡ a ++ front → c ≡ b ++ date
    → AddsDates front (part ∷ []) between_dates a c
add_one_date front part date moment a b c spells stamp before is = record {
  dates = date ∷ [];
  are = (date ∷ [], [], (moment, spells, stamp), refl, refl);
  behind_is = refl;
  adds = is ∙ (ap (λ (t : List ℕ). t ++ date) before ∙ (append_assoc a front date ∙ ap (λ (t : List ℕ). a ++ (front ++ t)) (sym (append-nil date))));
}

-- a result is one of both
pub ok_or_err : {A E : Type 0} (r : Result A E) (x : A) (e : E) → r ≡ Err e → r ≡ Ok x → ⊥
ok_or_err (Ok y) x e is same = absurd cc
ok_or_err (Err y) x e is same = absurd cc

-- a part that is no moment
pub add_none_date : (front part text : List ℕ) → ((moment : ℕ) → SpellsMoment part moment → ⊥) → AddsDates front (part ∷ []) front text text
add_none_date front part text none =
    record { dates = []; are = ([], [], none, refl, refl); behind_is = refl; adds = sym (append-nil text) }

-- ---- words

none_left : (columns : List Bool) → dated_words columns [] ≡ []
none_left [] = refl
none_left (c ∷ cs) = refl

pub add_no_words : (columns : List Bool) (front text : List ℕ) → AddsWords columns front [] columns front text text
add_no_words columns front text = record { found = []; walked = λ others. refl; adds = add_no_dates front text }

pub add_words_then : {columns left later : List Bool} {front mid behind a b c : List ℕ} {words more : List (List ℕ)}
    → AddsWords columns front words left mid a b → AddsWords left mid more later behind b c → AddsWords columns front (words ++ more) later behind a c
add_words_then {columns} {left} {later} {front} {mid} {behind} {a} {b} {c} {words} {more} one two = record {
  found = one.found ++ two.found;
  walked = λ others.
      ap (dated_words columns) (append_assoc words more others)
      ∙ (one.walked (more ++ others)
      ∙ (ap (λ (t : List (List ℕ)). one.found ++ t) (two.walked others) ∙ sym (append_assoc one.found two.found (dated_words later others))));
  adds = subst (λ (parts : List (List ℕ)). AddsDates front parts behind a c) (sym (flat_map-append parts_of one.found two.found)) (add_dates_then one.adds two.adds);
}

-- a word that is a moment, or has several
pub add_moment_word : (columns left : List Bool) (front behind word a b : List ℕ) → columns ≡ true ∷ left → AddsDates front (parts_of word) behind a b
    → AddsWords columns front (word ∷ []) left behind a b
add_moment_word columns left front behind word a b is adds = rw is (record {
  found = word ∷ [];
  walked = λ others. refl;
  adds = subst (λ (parts : List (List ℕ)). AddsDates front parts behind a b) (sym (append-nil (parts_of word))) adds;
})

pub no_columns : (columns : List Bool) → length columns ≡ 0 → columns ≡ []
no_columns [] none = refl
no_columns (c ∷ cs) none = absurd (omega (arith, none))

-- another word of a column
pub add_other_word : (columns left : List Bool) (front word a : List ℕ) → columns ≡ false ∷ left → AddsWords columns front (word ∷ []) left front a a
add_other_word columns left front word a is = rw is (record { found = []; walked = λ others. refl; adds = add_no_dates front a })

-- a word behind the columns
pub add_loose_word : (columns left : List Bool) (front word a : List ℕ) → columns ≡ [] → left ≡ columns_behind word → AddsWords columns front (word ∷ []) left front a a
add_loose_word columns left front word a none is = rw (none, is) (record { found = []; walked = λ others. refl; adds = add_no_dates front a })

-- all words of a line
pub dates_text_of : (columns left : List Bool) (line behind old new : List ℕ) → AddsWords columns before_dates (slice_split (λ byte. byte == 32) line) left behind old new
    → (text : List ℕ) × IsDatesText columns line text × (new ≡ old ++ text)
dates_text_of columns left line behind old new all =
    let words = slice_split (λ byte. byte == 32) line in
    let found : all.found ≡ dated_words columns words =
    sym (ap (dated_words columns) (sym (append-nil words)) ∙ (all.walked [] ∙ (ap (λ (t : List (List ℕ)). all.found ++ t) (none_left left) ∙ append-nil all.found))) in (
      joined before_dates between_dates all.adds.dates,
      (all.adds.dates, subst (λ (ws : List (List ℕ)). AreDates (flat_map parts_of ws) all.adds.dates) found all.adds.are, refl),
      all.adds.adds,
    )

-- ---- lines

pub zip_push : {A B : Type 0} (R : A → B → Type 0) (xs : List A) (ys : List B) (x : A) (y : B) → AllZip R xs ys → R x y → AllZip R (xs ++ x ∷ []) (ys ++ y ∷ [])
zip_push R [] [] x y all r = (r, tt)
zip_push R [] (b ∷ ys) x y all r = absurd all
zip_push R (a ∷ xs) [] x y all r = absurd all
zip_push R (a ∷ xs) (b ∷ ys) x y all r = (all.0, zip_push R xs ys x y all.1 r)

-- the lines so far, with their dates
pub record LinesSoFar (places : Places) (lines : List (List ℕ)) (front text : List ℕ) : Type 0 where
  pub shown : List (List ℕ)
  pub each : AllZip (IsDatedLine places) lines shown
  pub front_is : front ≡ front_after [] (10 ∷ []) shown
  pub text_is : text ≡ joined [] (10 ∷ []) shown

pub no_lines : (places : Places) (text : List ℕ) → text ≡ [] → LinesSoFar places [] [] text
no_lines places text is = record { shown = []; each = tt; front_is = refl; text_is = is }

pub lines_more : (places : Places) (lines : List (List ℕ)) (front line a b c : List ℕ)
    → LinesSoFar places lines front a → b ≡ a ++ front → (text : List ℕ) × IsDatedLine places line text × (c ≡ b ++ text) → LinesSoFar places (lines ++ line ∷ []) (10 ∷ []) c
lines_more places lines front line a b c so before (text, is, adds) = record {
  shown = so.shown ++ text ∷ [];
  each = zip_push (IsDatedLine places) lines so.shown line text so.each is;
  front_is = front_more [] (10 ∷ []) so.shown text;
  text_is =
      adds
      ∙ (ap (λ (t : List ℕ). t ++ text) (before ∙ ap (λ (t : List ℕ). t ++ front) so.text_is)
      ∙ (append_assoc (joined [] (10 ∷ []) so.shown) front text ∙ joined_more [] (10 ∷ []) front so.shown text so.front_is));
}

-- ---- what is shown

pub shown_dated : (places : Option Places) (here : Places) (text shown : List ℕ) → places ≡ Some here → IsDatedText here text shown → IsShown places text shown
shown_dated places here text shown is dated = rw is dated

pub shown_plain : (places : Option Places) (text : List ℕ) → places ≡ None → IsShown places text text
shown_plain places text is = rw is refl
