-- The labels and sizes of lines.
use Rattle.std.proofs.Common.{◌≡◌, ℕ, Bool, true, false, not, List, [], ◌∷◌, ◌++◌, Option, Some, None, Result, Ok, Err, refl, sym, ap, ◌∙◌}
use Rattle.std.proofs.lemmas.List.{append-nil, map-append}
use Rattle.std.specs.Prelude.{decimal}
use Rattle.ele_moment.specs.Number.{SpellsNumber}
use Rattle.ele_forecast_text.specs.Details.{words_if}
use Rattle.ele_forecast_text.specs.declared.details.Columns.{Columns}
use Rattle.ele_forecast_text.specs.declared.details.Details.{Details}
use Rattle.ele_outlook.specs.Input.{Asked, HasSize, SpellsLine, label_of, labels_of, size_word, size_words_of, words_of}
use Rattle.ele_outlook.specs.Reading.{AddsDetails, AddsFields, AddsLine, AreAdded, AreFields, IsSize}
use Rattle.ele_outlook.specs.Told.{AreDetails}
use Rattle.ele_rule_parts.specs.declared.row.Row.{Row}
use Rattle.ele_outlook.specs.declared.input.ReadLines.{ReadLines}
use Rattle.ele_outlook.specs.declared.options.LineForm.{LineForm}
use Rattle.ele_outlook.specs.declared.fault.ForecastFault.{ForecastFault}
use Rattle.ele_outlook.specs.declared.fault.ForecastFault.TheVariants.{ReadFault, BadInput, TooLong, WriteFault, NoMemory}

-- no line has a word
pub no_words : (has : Bool) (word : List ℕ → List ℕ) → words_of has word [] ≡ []
no_words false word = refl
no_words true word = refl

-- the words of one more line
words_more : (has : Bool) (word : List ℕ → List ℕ) (lines : List (List ℕ)) (line : List ℕ) → words_of has word (lines ++ line ∷ []) ≡ words_of has word lines ++ words_of has word (line ∷ [])
words_more false word lines line = refl
words_more true word lines line = map-append word lines (line ∷ [])

-- a word of a line, if lines have it
words_one : (has : Bool) (word : List ℕ → List ℕ) (line text : List ℕ) → text ≡ word line → words_if has (text ∷ []) ≡ words_of has word (line ∷ [])
words_one false word line text is = refl
words_one true word line text is = ap (λ (w : List ℕ). w ∷ []) is

-- the details of one more line
pub details_more : (form : LineForm) (lines : List (List ℕ)) (line : List ℕ) (size : ℕ) (label : List ℕ) (old new : Details) → AreFields form line size label → AreAdded size label old new
    → AreDetails form.columns (labels_of form lines) (size_words_of form lines) old → AreDetails form.columns (labels_of form (lines ++ line ∷ [])) (size_words_of form (lines ++ line ∷ [])) new
details_more form lines line size label old new fields added far =
    let labels : words_if old.columns.labels (label ∷ []) ≡ labels_of form (line ∷ []) =
    ap (λ (columns : Columns). words_if columns.labels (label ∷ [])) far.columns_are ∙ words_one form.columns.labels (label_of form) line label fields.label_is in
    let sizes : words_if old.columns.sizes (decimal size ∷ []) ≡ size_words_of form (line ∷ []) =
    ap (λ (columns : Columns). words_if columns.sizes (decimal size ∷ [])) far.columns_are ∙ sym fields.word in
    record {
      columns_are = added.columns ∙ far.columns_are;
      labels_are = added.labels ∙ ap (λ (texts : List (List ℕ)). texts ++ words_if old.columns.labels (label ∷ [])) far.labels_are
          ∙ ap (λ (more : List (List ℕ)). labels_of form lines ++ more) labels ∙ sym (words_more form.columns.labels (label_of form) lines line);
      sizes_are = added.sizes ∙ ap (λ (words : List (List ℕ)). words ++ words_if old.columns.sizes (decimal size ∷ [])) far.sizes_are
          ∙ ap (λ (more : List (List ℕ)). size_words_of form lines ++ more) sizes ∙ sym (words_more form.columns.sizes (size_word form) lines line);
    }

-- a word that lines don't have isn't added
pub word_none : (has : Bool) (words : List (List ℕ)) (word : List ℕ) → not has ≡ true → words ≡ words ++ words_if has (word ∷ [])
word_none false words word e = sym (append-nil words)
word_none true words word e = absurd cc

-- one that they have is
pub word_some : (has : Bool) (old new : List (List ℕ)) (word : List ℕ) → not has ≡ false → new ≡ old ++ word ∷ [] → new ≡ old ++ words_if has (word ∷ [])
word_some false old new word e is = absurd cc
word_some true old new word e is = is

-- nothing is asked
asked_none : (has : Bool) (P : Type 0) → not has ≡ true → Asked has P
asked_none false P e = tt
asked_none true P e = absurd cc

asked_some : (has : Bool) (P : Type 0) → P → Asked has P
asked_some false P p = tt
asked_some true P p = p

no_word : (has : Bool) (word : List ℕ → List ℕ) (line text : List ℕ) → not has ≡ true → words_of has word (line ∷ []) ≡ words_if has (text ∷ [])
no_word false word line text e = refl
no_word true word line text e = absurd cc

-- a line has no size, if lines have none
pub size_none : (form : LineForm) (line : List ℕ) → not form.columns.sizes ≡ true → IsSize form line 0
size_none form line none = record { has = asked_none form.columns.sizes _ none; word = no_word form.columns.sizes (size_word form) line (decimal 0) none }

-- the size that the word of a line spells
pub size_some : (form : LineForm) (line : List ℕ) (size : ℕ) → SpellsNumber (size_word form line) size → IsSize form line size
size_some form line size is =
    record { has = asked_some form.columns.sizes _ (size, is); word = sym (words_one form.columns.sizes (size_word form) line (decimal size) (sym is.digits)) }

-- a word that spells no number is no size
lacks : (has : Bool) (word : List ℕ) → not has ≡ false → ((n : ℕ) → SpellsNumber word n → ◌≡◌ {A = Option ℕ} None (Some n)) → ¬ Asked has ((n : ℕ) × SpellsNumber word n)
lacks false word e only = absurd cc
lacks true word e only = λ is. let no = only is.0 is.1 in absurd cc

-- a line lacks its size, if its word spells none
pub size_lacks : (form : LineForm) (line : List ℕ) → not form.columns.sizes ≡ false → ((n : ℕ) → SpellsNumber (size_word form line) n → ◌≡◌ {A = Option ℕ} None (Some n)) → ¬ HasSize form line
size_lacks form line some only = lacks form.columns.sizes (size_word form line) some only

-- what a line says was added, or memory was refused
pub line_added : {A : Type 0} (form : LineForm) (line : List ℕ) (row : Row) (size : ℕ) (label : List ℕ) (old : ReadLines) (closings : List ℕ) (new : ReadLines) (r : Result A ForecastFault) → SpellsLine form line row
    → closings ≡ old.closings ++ row.moment ∷ [] → AreFields form line size label → AddsFields row size label (record old { closings = closings }) new r → AddsLine form line old new r
line_added form line row size label old closings new (Ok x) spells more fields added =
    record { row = row; spells = spells; rows = added.rows; closings = added.closings ∙ more; size = size; label = label; fields = fields; added = added.added }
line_added form line row size label old closings new (Err NoMemory) spells more fields added = tt
line_added form line row size label old closings new (Err (BadInput number why)) spells more fields added = absurd added
line_added form line row size label old closings new (Err ReadFault) spells more fields added = absurd added
line_added form line row size label old closings new (Err TooLong) spells more fields added = absurd added
line_added form line row size label old closings new (Err WriteFault) spells more fields added = absurd added

-- a row, a label and a size were added, or memory was refused
pub fields_added : {A : Type 0} (row : Row) (size : ℕ) (label : List ℕ) (old new : ReadLines) (r : Result A ForecastFault) → new.rows.items ≡ old.rows.items ++ row ∷ [] → new.closings ≡ old.closings
    → AddsDetails size label old.details new.details r → AddsFields row size label old new r
fields_added row size label old new (Ok x) rows closings added = record { rows = rows; closings = closings; added = added }
fields_added row size label old new (Err NoMemory) rows closings added = tt
fields_added row size label old new (Err (BadInput number why)) rows closings added = absurd added
fields_added row size label old new (Err ReadFault) rows closings added = absurd added
fields_added row size label old new (Err TooLong) rows closings added = absurd added
fields_added row size label old new (Err WriteFault) rows closings added = absurd added
