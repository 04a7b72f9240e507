-- The text of paths and tags.
use Rattle.std.specs.Prelude.{ℕ, List, [], ◌∷◌, ◌++◌, Option, codes}
use Rattle.std.specs.Fmt.{decimal}
use Rattle.ele_path.specs.Path.{path_text}
use Rattle.ele_path.specs.PathAt.{tag_at}
use Rattle.ele_path.specs.declared.tagged.Tag.{Tag}
use Rattle.ele_path.specs.declared.tagged.Tag.TheVariants.{Now, At, Number}

-- the word of a path: a slash for the root, or the names, each with a slash before it
abbrev pub path_word : List (List ℕ) → List ℕ
path_word [] = codes "/"
path_word (name ∷ names) = path_text (name ∷ names)

-- the text of a tag, after a path: nothing for now, `@` (64) and the seconds of a moment, or `#` (35) and the number of a version
abbrev pub tag_text : Tag → List ℕ
tag_text Now = []
tag_text (At moment) = 64 ∷ decimal moment
tag_text (Number number) = 35 ∷ decimal number

-- the word of a path with a tag
abbrev pub tagged_word : List (List ℕ) → Tag → List ℕ
tagged_word names tag = path_word names ++ tag_text tag

-- the word of a path at a moment, or now
abbrev pub path_at_word : List (List ℕ) → Option ℕ → List ℕ
path_at_word names moment = tagged_word names (tag_at moment)
