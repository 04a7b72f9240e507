-- Which words spell a path.
use Rattle.std.specs.Prelude.{◌≡◌, ℕ, ◌<◌, ◌≤◌, ◌==◌, List, [], ◌∷◌, length, All, codes, drop, ◌⊎◌}
use Rattle.std.specs.List.{flat_map, slice_split}
use Rattle.ele_moment.specs.Name.{IsName}

-- at most 32 names
pub record IsPath (names : List (List ℕ)) : Type 0 where
  pub short : length names ≤ 32
  pub named : All IsName names

-- the names, each with a slash before it
abbrev pub path_text : List (List ℕ) → List ℕ
path_text names = flat_map (λ name. 47 ∷ name) names

-- the word is a slash alone, for the root, or the names, each with a slash before it
pub record SpellsPath (word : List ℕ) (names : List (List ℕ)) : Type 0 where
  pub is : IsPath names
  pub form : ((word ≡ codes "/") × (names ≡ [])) ⊎ ((0 < length names) × (word ≡ path_text names))

-- the pieces between the slashes of a text
abbrev pub pieces_of : List ℕ → List (List ℕ)
pieces_of text = slice_split (λ byte. byte == 47) text

-- the names of a text: the pieces after the first slash
abbrev pub names_of : List ℕ → List (List ℕ)
names_of text = drop 1 (pieces_of text)

-- the text is names, each with a slash before it
pub record IsNamesText (text : List ℕ) : Type 0 where
  pub named : All IsName (names_of text)
  pub form : text ≡ path_text (names_of text)

-- the text of a path: of at most 32 names
pub record IsPathText (text : List ℕ) : Type 0 where
  pub is : IsPath (names_of text)
  pub form : text ≡ path_text (names_of text)
