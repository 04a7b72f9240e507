-- The lines of an input, and what they say.
use Rattle.std.proofs.Common.{◌≡◌, ◌≢◌, ℕ, zero, suc, ◌+◌, ◌<◌, ◌≤◌, ◌==◌, Bool, true, false, List, [], ◌∷◌, ◌++◌, length, take, drop, get_or, Option, Some, None, Err, refl, sym, ap, subst, ◌∙◌, arith, append_assoc}
use Rattle.std.proofs.lemmas.Bool.{ne_eqb, eq-eqb, eqb-true}
use Rattle.std.proofs.lemmas.List.{append-nil, length-append, length-take-le, map-append}
use Rattle.std.proofs.lemmas.List.Elements.{All-nil, All-cons}
use Rattle.std.proofs.lemmas.List.Splits.{length-slice_split, slice_split_at, slice_split_none}
use Rattle.std.proofs.KnownBytes.{Consumes-trans}
use Rattle.std.specs.Io.KnownBytes.{Consumes}
use Rattle.std.specs.List.{All, AllZip, slice_split}
use Rattle.memchr.specs.Find.{IsFirstByte, is_byte}
use Rattle.ele_lists.specs.Lists.{AllLater}
use Rattle.ele_lists.proofs.Taken.{cut-at}
use Rattle.ele_outlook.specs.Input.{IsBad, SpellsLine, closings_of, label_of, labels_of, lines_of, size_word, size_words_of, without_empty_last}
use Rattle.ele_outlook.specs.Reading.{AreRead, FailsToAdd, HaveRead, IsWithLine, ReadsLines}
use Rattle.ele_outlook.specs.Told.{AreDetails}
use Rattle.ele_rule_parts.specs.declared.row.Row.{Row}
use Rattle.ele_outlook.specs.declared.input.ReadLines.{ReadLines}
use Rattle.ele_outlook.proofs.Detailed.{details_more, no_words}
use Rattle.ele_outlook.specs.declared.options.LineForm.{LineForm}
use Rattle.ele_outlook.specs.declared.fault.ForecastFault.{ForecastFault}
use Rattle.ele_outlook.specs.declared.fault.ForecastFault.TheVariants.{ReadFault, BadInput, TooLong, WriteFault, NoMemory}

abbrev is_feed : ℕ → Bool
is_feed byte = byte == 10

abbrev IsPlain : List ℕ → Type 0
IsPlain line = All (λ byte. is_feed byte ≡ false) line

-- bytes without a first line feed have none
plain_all : (xs : List ℕ) → IsFirstByte (is_byte 10) xs None → IsPlain xs
plain_all [] h = All-nil (λ byte. is_feed byte ≡ false)
plain_all (x ∷ xs) h =
    All-cons (λ byte. is_feed byte ≡ false) x xs (ne_eqb x 10 (λ e. h 0 (omega arith) (omega arith) (eq-eqb x 10 e)))
    (plain_all xs (λ k low high is. h (suc k) (omega arith) (omega (arith, high)) is))

-- the bytes before the first line feed have none
plain_before : (xs : List ℕ) (n : ℕ) → ((k : ℕ) → k < n → (get_or xs k 0 == 10) ≡ true → ⊥) → IsPlain (take n xs)
plain_before xs zero h = All-nil (λ byte. is_feed byte ≡ false)
plain_before [] (suc n) h = All-nil (λ byte. is_feed byte ≡ false)
plain_before (x ∷ xs) (suc n) h =
    All-cons (λ byte. is_feed byte ≡ false) x (take n xs) (ne_eqb x 10 (λ e. h 0 (omega arith) (eq-eqb x 10 e))) (plain_before xs n (λ k lt is. h (suc k) (omega (arith, lt)) is))

parts_more : (line : List ℕ) (parts : List (List ℕ)) → 0 < length parts → without_empty_last (line ∷ parts) ≡ line ∷ without_empty_last parts
parts_more line [] some = absurd (omega (arith, some))
parts_more [] (next ∷ parts) some = refl
parts_more (byte ∷ line) (next ∷ parts) some = refl

-- the line before the first line feed, and those after it
pub first_line : (rest : List ℕ) (at : ℕ) → IsFirstByte (is_byte 10) rest (Some at) → lines_of rest ≡ take at rest ∷ lines_of (drop (at + 1) rest)
first_line rest at h =
    let line = take at rest in
    let more = drop (at + 1) rest in
    ap lines_of (cut-at rest at 10 0 h.0.high (eqb-true (get_or rest at 0) 10 h.1))
    ∙ ap without_empty_last (slice_split_at is_feed line 10 more (plain_before rest at (λ k lt is. h.0.before k (omega arith) lt is)) refl)
    ∙ parts_more line (slice_split is_feed more) (omega (arith, length-slice_split is_feed more))

-- bytes without a line feed are one line
pub only_line : (rest : List ℕ) → IsFirstByte (is_byte 10) rest None → 0 < length rest → lines_of rest ≡ rest ∷ []
only_line [] h some = absurd (omega (arith, some))
only_line (byte ∷ bytes) h some = ap without_empty_last (slice_split_none is_feed (byte ∷ bytes) (plain_all (byte ∷ bytes) h))

zip_push : (form : LineForm) (words : List (List ℕ)) (rows : List Row) (word : List ℕ) (row : Row) → AllZip (SpellsLine form) words rows → SpellsLine form word row → AllZip (SpellsLine form) (words ++ word ∷ []) (rows ++ row ∷ [])
zip_push form [] [] word row all is = (is, tt)
zip_push form (w ∷ words) (r ∷ rows) word row all is = (all.0, zip_push form words rows word row all.1 is)
zip_push form words rows word row all is = grind arith

zip_length : (form : LineForm) (words : List (List ℕ)) (rows : List Row) → AllZip (SpellsLine form) words rows → length words ≡ length (closings_of rows)
zip_length form [] [] all = refl
zip_length form (w ∷ words) (r ∷ rows) all = ap suc (zip_length form words rows all.1)
zip_length form words rows all = grind arith

-- no line was read yet
pub read_none : {form : LineForm} {input : List ℕ} {read : ReadLines} → read.rows.items ≡ [] → read.closings ≡ [] → AreDetails form.columns [] [] read.details → HaveRead form input input read
read_none {form} {input} {read} no_rows none details =
    record {
      done = [];
      lines = refl;
      spelled = subst (λ (rows : List Row). AllZip (SpellsLine form) [] rows) (sym no_rows) tt;
      closings = none ∙ ap closings_of (sym no_rows);
      detailed = record {
        columns_are = details.columns_are;
        labels_are = details.labels_are ∙ sym (no_words form.columns.labels (label_of form));
        sizes_are = details.sizes_are ∙ sym (no_words form.columns.sizes (size_word form));
      };
    }

-- one more line
pub read_more : {form : LineForm} {input rest : List ℕ} {old new : ReadLines} (line behind : List ℕ) → HaveRead form input rest old → lines_of rest ≡ line ∷ lines_of behind
    → IsWithLine form line old new → HaveRead form input behind new
read_more {form} {input} {rest} {old} {new} line behind far cut is =
    record {
      done = far.done ++ line ∷ [];
      lines = far.lines ∙ ap (λ (ls : List (List ℕ)). far.done ++ ls) cut ∙ sym (append_assoc far.done (line ∷ []) (lines_of behind));
      spelled = rw is.rows (zip_push form far.done old.rows.items line is.row far.spelled is.spells);
      closings = is.closings ∙ ap (λ (cs : List ℕ). cs ++ is.row.moment ∷ []) far.closings ∙ sym (map-append (λ (row : Row). row.moment) old.rows.items (is.row ∷ [])) ∙ ap closings_of (sym is.rows);
      detailed = details_more form far.done line is.size is.label old.details new.details is.fields is.added far.detailed;
    }

-- all lines
pub read_all : {form : LineForm} {input rest : List ℕ} {read : ReadLines} → HaveRead form input rest read → lines_of rest ≡ [] → AllLater ◌≤◌ read.closings
    → AreRead form input read
read_all {form} {input} {rest} {read} far none rise =
    let all : lines_of input ≡ far.done = far.lines ∙ ap (λ (ls : List (List ℕ)). far.done ++ ls) none ∙ append-nil far.done in
    record {
      spell = record {
        spelled = subst (λ (ls : List (List ℕ)). AllZip (SpellsLine form) ls read.rows.items) (sym all) far.spelled;
        rise = subst (λ (cs : List ℕ). AllLater ◌≤◌ cs) far.closings rise;
      };
      closings = far.closings;
      detailed = subst (λ (ls : List (List ℕ)). AreDetails form.columns (labels_of form ls) (size_words_of form ls) read.details) (sym all) far.detailed;
    }

-- an input with a line isn't empty
pub not_empty : (input : List ℕ) (before : List (List ℕ)) (line : List ℕ) (behind : List (List ℕ)) → lines_of input ≡ before ++ line ∷ behind → input ≢ []
not_empty [] [] line behind e = λ is. absurd cc
not_empty [] (first ∷ before) line behind e = λ is. absurd cc
not_empty (byte ∷ bytes) before line behind e = λ is. absurd cc

-- the next line is bad, or there is no memory for it
pub read_bad : {form : LineForm} {input rest : List ℕ} {read : ReadLines} (line : List ℕ) (behind : List (List ℕ)) (fault : ForecastFault) → HaveRead form input rest read → lines_of rest ≡ line ∷ behind
    → FailsToAdd form line read.closings fault → ReadsLines form input (Err fault)
read_bad {form} {input = input} {read = read} line behind (BadInput number why) far cut bad =
    record {
      before = far.done;
      line = line;
      behind = behind;
      rows = read.rows.items;
      lines = far.lines ∙ ap (λ (ls : List (List ℕ)). far.done ++ ls) cut;
      number_is = bad.0 ∙ ap (λ (n : ℕ). n + 1) (ap length far.closings ∙ sym (zip_length form far.done read.rows.items far.spelled));
      spell = record { spelled = far.spelled; rise = subst (λ (cs : List ℕ). AllLater ◌≤◌ cs) far.closings bad.1 };
      bad = subst (λ (cs : List ℕ). IsBad form cs line why) far.closings bad.2;
    }
read_bad {input = input} line behind NoMemory far cut bad = not_empty input far.done line behind (far.lines ∙ ap (λ (ls : List (List ℕ)). far.done ++ ls) cut)
read_bad line behind ReadFault far cut bad = absurd bad
read_bad line behind TooLong far cut bad = absurd bad
read_bad line behind WriteFault far cut bad = absurd bad

-- some bytes more were given
pub more_given : (input mid rest : Option (List ℕ)) (xs piece : List ℕ) (count : ℕ) → 0 < count → count ≤ length piece → Consumes input mid xs → Consumes mid rest (take count piece)
    → (given : List ℕ) × (given ≢ []) × Consumes input rest given
more_given input mid rest xs piece count some fits far more =
    let n = length-append xs (take count piece) in
    let m = length-take-le count piece fits in
    (xs ++ take count piece, λ e. let none : length (xs ++ take count piece) ≡ 0 = ap length e in omega (arith, some, n, m, none), Consumes-trans input mid rest xs (take count piece) far more)
