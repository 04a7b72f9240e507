-- What a word spells.
use Rattle.ele_path.proofs.Basics.{◌≡◌, eqb, ℕ, ◌-◌, ◌≤◌, get_or, take, drop, List, [], ◌∷◌, ◌++◌, length, refl, sym, ap, ◌∙◌, arith, nat_tests, ◌⊎◌, inl, inr, Some, None, slice_get, All, append-nil, take_all, All-head, length-slice_split}
use Rattle.ele_path.proofs.Words.{IsName, PathFault, NoMemory, IsPath, SpellsPath, path_text, pieces_of, piece_faults, piece_faults_from, path_fault}
use Rattle.ele_path.proofs.Pieces.{names_pass, pieces_of_text, text_of_pieces}

-- pieces that are a path are what the word spells
pub spelled : (text : List ℕ) (names : List (List ℕ)) → IsPath names → names ≡ pieces_of text → SpellsPath (47 ∷ text) names
spelled text names is are = record {
  is = is;
  form = inr (rw are (omega (arith, length-slice_split (λ byte. eqb byte 47) text)), sym (ap path_text are ∙ text_of_pieces text));
}

-- the same of a word that begins with a slash
pub spelled_behind : (word : List ℕ) (names : List (List ℕ)) → 2 ≤ length word → get_or word 0 0 ≡ 47 → IsPath names → names ≡ pieces_of (take (length word - 1) (drop 1 word)) → SpellsPath word names
spelled_behind word names long slash is are = grind (arith, nat_tests, take_all, spelled (take (length word - 1) (drop 1 word)) names is are)

-- a word that spells a path is a slash alone, or a slash and a text whose pieces are the names
data IsCut (word : List ℕ) (names : List (List ℕ)) : Type 0 where
  alone : word ≡ 47 ∷ [] → names ≡ [] → IsCut word names
  cut : (byte : ℕ) (text : List ℕ) → word ≡ 47 ∷ byte ∷ text → names ≡ pieces_of (byte ∷ text) → IsCut word names

cut_behind : (word name : List ℕ) (names : List (List ℕ)) → All IsName (name ∷ names) → word ≡ path_text (name ∷ names) → IsCut word (name ∷ names)
cut_behind word [] names are is = absurd (omega (arith, (All-head IsName [] names are).some))
cut_behind word (byte ∷ bytes) names are is = cut byte (bytes ++ path_text names) is (sym (pieces_of_text (byte ∷ bytes) names are))

cut_of : (word : List ℕ) (names : List (List ℕ)) → SpellsPath word names → IsCut word names
cut_of word [] h = elim h.form [ inl root ↦ alone root.0 refl | inr more ↦ absurd (omega (arith, more.0)) ]
cut_of word (name ∷ names) h =
    elim h.form [ inl root ↦ absurd (cc (root.1)) | inr more ↦ cut_behind word name names h.is.named more.1 ]

-- the names that a word spells, if it spells any
names_in : List ℕ → List (List ℕ)
names_in [] = []
names_in (slash ∷ []) = []
names_in (slash ∷ byte ∷ text) = pieces_of (byte ∷ text)

names_are : (word : List ℕ) (names : List (List ℕ)) → IsCut word names → names ≡ names_in word
unfolding names_in
names_are word names (alone word_is names_is) = names_is ∙ ap names_in (sym word_is)
names_are word names (cut byte text word_is names_is) = names_is ∙ ap names_in (sym word_is)

-- a word spells one path
pub one_path : (word : List ℕ) (a b : List (List ℕ)) → SpellsPath word a → SpellsPath word b → a ≡ b
one_path word a b ha hb = names_are word a (cut_of word a ha) ∙ sym (names_are word b (cut_of word b hb))

faultless : (word : List ℕ) (names : List (List ℕ)) → IsPath names → IsCut word names → path_fault word ≡ None
faultless word names is (alone word_is names_is) = ap path_fault word_is
faultless word names is (cut byte text word_is names_is) =
    let pass = names_pass 0 names [] (omega (arith, is.short)) is.named in
    ap path_fault word_is ∙ ap (λ (pieces : List (List ℕ)). slice_get (piece_faults_from 0 pieces) 0) (sym names_is ∙ sym (append-nil names)) ∙ ap (λ faults. slice_get faults 0) pass

-- a word that spells a path has no fault
pub spelled_faultless : (word : List ℕ) (names : List (List ℕ)) → SpellsPath word names → path_fault word ≡ None
spelled_faultless word names h = faultless word names h.is (cut_of word names h)

-- so what refuses it is want of memory
pub no_other_fault : (word : List ℕ) (names : List (List ℕ)) (fault : PathFault) → SpellsPath word names → (fault ≡ NoMemory) ⊎ (path_fault word ≡ Some fault) → fault ≡ NoMemory
no_other_fault word names fault h (inl memory) = memory
no_other_fault word names fault h (inr bad) = let none = spelled_faultless word names h in absurd (cc (none, bad))

pub no_fault_behind : (word : List ℕ) (names : List (List ℕ)) (fault : PathFault) → 2 ≤ length word → get_or word 0 0 ≡ 47 → SpellsPath word names → (fault ≡ NoMemory) ⊎ (slice_get (piece_faults (pieces_of (take (length word - 1) (drop 1 word)))) 0 ≡ Some fault) → fault ≡ NoMemory
no_fault_behind [] names fault long slash h bad = absurd (omega arith)
no_fault_behind (first ∷ []) names fault long slash h bad = absurd (omega arith)
no_fault_behind (first ∷ byte ∷ text) names fault long slash h (inl memory) = memory
no_fault_behind (first ∷ byte ∷ text) names fault long slash h (inr bad) =
    let whole : take (length (first ∷ byte ∷ text) - 1) (byte ∷ text) ≡ byte ∷ text = take_all _ (byte ∷ text) (omega arith) in
    let same : path_fault (first ∷ byte ∷ text) ≡ slice_get (piece_faults (pieces_of (byte ∷ text))) 0 = ap (λ (first : ℕ). path_fault (first ∷ byte ∷ text)) slash in
    no_other_fault (first ∷ byte ∷ text) names fault h (inr (same ∙ ap (λ (text : List ℕ). slice_get (piece_faults (pieces_of text)) 0) (sym whole) ∙ bad))
