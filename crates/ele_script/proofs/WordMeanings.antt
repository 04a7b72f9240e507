-- The words after a command: their values, or their first fault.
use Rattle.ele_script.proofs.Basics.{◌≡◌, ℕ, List, [], ◌∷◌, length, codes, refl, arith, ◌⊎◌, inl, inr, Result, Ok, Err, decode_of, option_map, ap, dec_lt}
use Rattle.ele_script.proofs.Prelude.{LineFault, BadMoment, Syntax, WordKind, NumberWord, HandleWord, VersionWord, MomentWord, EndWord, NameWord, PathWord, TaggedWord, TimedWord, SourceWord, BytesWord, PolicyWord, Value, Moment, Name, Path, Timed, Bytes, SpellsNumber, SpellsBytes}
use Rattle.ele_script.proofs.Prelude.{fault_of_path, SpellsValues, IsOfKind, IsWordFault, IsFirstWordFault}
use Rattle.ele_printer.specs.declared.fault.LineFault.TheVariants.{BadName}
use Rattle.ele_moment.specs.Name.{IsName}
use Rattle.ele_path.specs.FirstFault.{is_name}
use Rattle.ele_path.proofs.NameBytes.{is_name-decides}
use Rattle.ele_script.specs.Value.{Number, Handle, Version, End, Tagged, Source, Policy}
use Rattle.ele_script.proofs.Decided.{dec_same, told}
use Rattle.ele_script.proofs.Laws.{value_kinds}
use Rattle.ele_script.proofs.Moments.{dec_moment, dec_number}
use Rattle.ele_script.proofs.PathMeanings.{path_meaning, tagged_meaning, timed_meaning, source_meaning}
use Rattle.ele_script.proofs.PolicyMeanings.{policy_meaning}
use Rattle.ele_script.proofs.Values.{moment_of}

-- a word of a kind has a value of it
number_of : (word : List ℕ) → IsOfKind NumberWord word → (n : ℕ) × SpellsNumber word n
number_of word (Number n, k, is) = (n, is)
number_of word (value, k, is) = absurd cc

name_of : (word : List ℕ) → IsOfKind NameWord word → IsName word
name_of word (Name name, k, is) = is.1
name_of word (value, k, is) = absurd cc

bytes_of : (word : List ℕ) → IsOfKind BytesWord word → (bytes : List ℕ) × SpellsBytes word bytes
bytes_of word (Bytes bytes, k, is) = (bytes, is)
bytes_of word (value, k, is) = absurd cc

dec_ok : {A E : Type 0} (r : Result A E) → Dec ((x : A) × (r ≡ Ok x))
dec_ok (Ok x) = yes (x, refl)
dec_ok (Err e) = no (λ h. let is = h.1 in cc)

dec_bytes : (word : List ℕ) → Dec ((bytes : List ℕ) × SpellsBytes word bytes)
dec_bytes word = elim (dec_same word (codes "-")) [
  | yes dash ↦ yes ([], inl (dash, refl))
  | no other ↦ elim (dec_lt 0 (length word)) [
    | no none ↦ no (λ h. elim h.1 [ inl dash ↦ other dash.0 | inr digits ↦ none digits.0 ])
    | yes some ↦ elim (dec_ok (decode_of word)) [
      | yes bytes ↦ yes (bytes.0, inr (some, bytes.1))
      | no none ↦ no (λ h. elim h.1 [ inl dash ↦ other dash.0 | inr digits ↦ none (h.0, digits.1) ])
    ]
  ]
]

abbrev WordMeaning : WordKind → List ℕ → Type 0
WordMeaning kind word = IsOfKind kind word ⊎ ((fault : LineFault) × IsWordFault kind word fault)

word_meaning : (kind : WordKind) (word : List ℕ) → WordMeaning kind word
word_meaning NumberWord word = elim (dec_number word) [ yes n ↦ inl (Number n.0, refl, n.1) | no none ↦ inr (Syntax, (refl, λ is. none (number_of word is))) ]
word_meaning HandleWord word = elim (dec_number word) [ yes n ↦ inl (Handle n.0, refl, n.1) | no none ↦ inr (Syntax, (refl, λ is. none (number_of word is))) ]
word_meaning VersionWord word = elim (dec_number word) [ yes n ↦ inl (Version n.0, refl, n.1) | no none ↦ inr (Syntax, (refl, λ is. none (number_of word is))) ]
word_meaning MomentWord word = elim (dec_moment word) [ yes m ↦ inl (Moment m.0, refl, m.1) | no none ↦ inr (BadMoment, (refl, λ is. none (moment_of word is))) ]
word_meaning EndWord word = elim (dec_moment word) [ yes m ↦ inl (End m.0, refl, m.1) | no none ↦ inr (BadMoment, (refl, λ is. none (moment_of word is))) ]
word_meaning NameWord word = elim (told (is_name word) (is_name-decides word)) [ yes is ↦ inl (Name word, refl, (refl, is)) | no none ↦ inr (BadName, (refl, λ is. none (name_of word is))) ]
word_meaning PathWord word = elim (path_meaning word) [ inl names ↦ inl (Path names.0, refl, names.1) | inr bad ↦ inr (fault_of_path bad.0, ap (option_map fault_of_path) bad.1) ]
word_meaning TaggedWord word = elim (tagged_meaning word) [ inl value ↦ inl (Tagged value.0, refl, value.1) | inr bad ↦ inr bad ]
word_meaning TimedWord word = elim (timed_meaning word) [ inl value ↦ inl (Timed value.0, refl, value.1) | inr bad ↦ inr bad ]
word_meaning SourceWord word = elim (source_meaning word) [ inl source ↦ inl (Source source.0, refl, source.1) | inr bad ↦ inr bad ]
word_meaning BytesWord word = elim (dec_bytes word) [ yes bytes ↦ inl (Bytes bytes.0, refl, bytes.1) | no none ↦ inr (Syntax, (refl, λ is. none (bytes_of word is))) ]
word_meaning PolicyWord word = elim (policy_meaning word) [ inl policy ↦ inl (Policy policy.0, refl, policy.1) | inr bad ↦ inr bad ]

abbrev pub WordsMeaning : List WordKind → List (List ℕ) → Type 0
WordsMeaning kinds words = ((values : List Value) × (value_kinds values ≡ kinds) × SpellsValues words values) ⊎ ((fault : LineFault) × IsFirstWordFault kinds words fault)

word_more : (kind : WordKind) (kinds : List WordKind) (word : List ℕ) (words : List (List ℕ)) → WordMeaning kind word → WordsMeaning kinds words → WordsMeaning (kind ∷ kinds) (word ∷ words)
word_more kind kinds word words (inr bad) more = inr (bad.0, inl bad.1)
word_more kind kinds word words (inl is) (inr bad) = inr (bad.0, inr (is, bad.1))
word_more kind kinds word words (inl is) (inl more) = inl (is.0 ∷ more.0, cc (is.1, more.1), (is.2, more.2))

-- as many words as kinds have values of these, or a first fault
pub words_meaning : (kinds : List WordKind) (words : List (List ℕ)) → length words ≡ length kinds → WordsMeaning kinds words
words_meaning [] [] same = inl ([], refl, tt)
words_meaning (kind ∷ kinds) (word ∷ words) same =
    word_more kind kinds word words (word_meaning kind word) (words_meaning kinds words (omega (arith, same)))
words_meaning kinds words same = absurd (omega (arith, same))
