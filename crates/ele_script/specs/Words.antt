-- The words of a line, and how long it may be.
use Rattle.std.specs.Prelude.{ℕ, ◌==◌, ◌&&◌, not, nat_le, nat_lt, Bool, List, length}
use Rattle.std.specs.List.{slice_split, list_all}

-- the maximum number of bytes of a line, without its line feed
abbrev pub longest_line : ℕ
longest_line = 8192

-- what is between the spaces of a line
abbrev pub words_of : List ℕ → List (List ℕ)
words_of line = slice_split (λ byte. byte == 32) line

-- from the space to the tilde
abbrev pub is_plain : ℕ → Bool
is_plain byte = nat_le 32 byte && nat_le byte 126

-- plain bytes, with one space between each two words, and none at either end
abbrev pub is_worded : List ℕ → Bool
is_worded line = list_all is_plain line && list_all (λ word. nat_lt 0 (length word)) (words_of line)

-- a byte that no word may have
abbrev pub ends_word : ℕ → Bool
ends_word byte = not (nat_lt 32 byte && nat_le byte 126)
