-- The bytes of a line, word after word.
use Rattle.std.specs.Prelude.{Ok}
use Rattle.ele_printer.proofs.Basics.{nat_tests, arith, ◌≡◌, ℕ, List, [], ◌∷◌, ◌++◌, length, map, get_or, refl, ap, append_assoc, codes, length-append, ◌<◌, decimal, append-nil, join_with_byte}
use Rattle.ele_printer.proofs.Prelude.{line_text, kind_words, usage_line, usage_lines, group_line}
use Rattle.ele_commands.proofs.Words.{some_word}
use Rattle.ele_commands.specs.Pieces.{pieces_or_dash}
use Rattle.ele_model.specs.FateText.{fate_words, level_words, mark_word, until_words}
use Rattle.ele_model.specs.declared.fate.Fate.{Fate}
use Rattle.ele_model.specs.declared.fate.Fate.TheVariants.{Current, Due, Kept, Marked, Open}
use Rattle.ele_policy.specs.CauseText.{cause_words}
use Rattle.ele_printer.specs.Why.{why_text}
use Rattle.ele_commands.specs.Command.{command_words}
use Rattle.ele_commands.specs.EventText.{event_words, value_word}
use Rattle.ele_printer.specs.HistoryText.{entry_line}
use Rattle.ele_commands.specs.Parts.{parts_of}
use Rattle.ele_model.specs.declared.entry.Entry.{Entry}
use Rattle.ele_usage.specs.declared.usage.Usage.{Usage}
use Rattle.ele_model.specs.declared.rows.GroupRow.{GroupRow}
use Rattle.ele_model.specs.declared.rows.MarkRow.{MarkRow}

-- the line of a dash and words
dash_line : (words : List (List ℕ)) → 0 < length words → line_text (codes "-" ∷ words) ≡ codes "- " ++ line_text words
dash_line [] some = absurd (omega (arith, some))
dash_line (word ∷ words) some = refl

-- the line of an entry is a dash, a space and the line of its event
pub entry_parts : (entry : Entry) → entry_line entry ≡ codes "- " ++ line_text (event_words entry.event)
entry_parts entry =
    let parts = parts_of entry.event in
    dash_line (event_words entry.event) (omega (arith, some_word parts.0, length-append (command_words parts.0) (map value_word parts.1)))

-- what follows a word of a line
abbrev pub behind_word : List (List ℕ) → List ℕ
behind_word [] = 10 ∷ []
behind_word (word ∷ words) = (32 ∷ word) ++ behind_word words

pub line_is : (first : List ℕ) (words : List (List ℕ)) → line_text (first ∷ words) ≡ first ++ behind_word words
line_is first [] = refl
line_is first (word ∷ words) = grind (arith, nat_tests, append_assoc, line_is word words)

-- the line of a group in its parts
pub group_parts : (row : GroupRow) → group_line row
    ≡ join_with_byte 32 (codes "-" ∷ row.name ∷ codes "members" ∷ []) ++ ((32 ∷ pieces_or_dash decimal row.members) ++ (codes " marks" ++ ((32 ∷ pieces_or_dash mark_word row.marks) ++ 10 ∷ [])))
group_parts row = grind (arith, nat_tests, line_is, append_assoc)

-- a line is its words but the last, and then the last
pub last_word : (first last : List ℕ) (words : List (List ℕ)) → line_text (first ∷ words ++ last ∷ []) ≡ join_with_byte 32 (first ∷ words) ++ ((32 ∷ last) ++ 10 ∷ [])
last_word first last [] = append_assoc first (32 ∷ last) (10 ∷ [])
last_word first last (word ∷ words) = grind (arith, nat_tests, append_assoc, last_word word last words)

-- the end of the line of a version that a mark holds, in its parts
pub marked_parts : (group : List ℕ) (mark : MarkRow) → 32 ∷ line_text (codes "marked" ∷ group ∷ mark_word mark ∷ []) ≡ join_with_byte 32 (codes " marked" ∷ group ∷ []) ++ ((32 ∷ mark_word mark) ++ 10 ∷ [])
marked_parts group mark = last_word (codes " marked") (mark_word mark) (group ∷ [])

-- a word, and the line of the others
pub line_then : (first word : List ℕ) (words : List (List ℕ)) → line_text (first ∷ word ∷ words) ≡ first ++ 32 ∷ line_text (word ∷ words)
line_then first word words = append_assoc first (32 ∷ join_with_byte 32 (word ∷ words)) (10 ∷ [])

-- a fate has a first word
pub fate_first : (fate : Fate) → (word : List ℕ) × (words : List (List ℕ)) × (fate_words fate ≡ word ∷ words)
fate_first Current = (codes "current", [], refl)
fate_first Open = (codes "open", [], refl)
fate_first (Marked group mark) = (codes "marked", group ∷ mark_word mark ∷ [], refl)
fate_first (Kept until level) = (codes "kept", until_words until ++ level_words level, refl)
fate_first (Due since cause) = (codes "due", decimal since ∷ cause_words cause, refl)

-- the line of a fate in its parts
pub why_parts : (fate : Fate) → why_text (Ok fate) ≡ codes "ok why" ++ (32 ∷ line_text (fate_words fate))
why_parts fate = let first = fate_first fate in rw first.2 (line_then (codes "ok why") first.0 first.1)

-- the lines of usage in their parts
pub usages_are : (us : List Usage) (d : Usage) → length us ≡ 4 → usage_lines kind_words us ≡ usage_line (codes "one") (get_or us 0 d) ++ (usage_line (codes "all") (get_or us 1 d) ++ (usage_line (codes "safe") (get_or us 2 d) ++ usage_line (codes "landmarks") (get_or us 3 d)))
usages_are (a ∷ b ∷ c ∷ e ∷ []) d four =
    ap (λ (rest : List ℕ). usage_line (codes "one") a ++ (usage_line (codes "all") b ++ (usage_line (codes "safe") c ++ rest))) (append-nil (usage_line (codes "landmarks") e))
usages_are us d four = grind arith
