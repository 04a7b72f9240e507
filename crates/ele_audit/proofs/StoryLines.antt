-- The bytes of the lines of a story, part after part.
use Rattle.ele_audit.proofs.Basics.{arith, nat_tests, ◌≡◌, ℕ, List, [], ◌∷◌, ◌++◌, append_assoc, codes, decimal, join_with_byte, refl, sym, ap, ◌∙◌, Option, Some, None}
use Rattle.ele_audit.specs.AuditText.{path_or_dash}
use Rattle.ele_name_paths.specs.LivePath.{names_in}
use Rattle.ele_audit.specs.HoldText.{hold_words, spaced}
use Rattle.ele_audit.specs.StoryText.{fate_or_dash, info_words, name_story_line, removed_words, version_story_line}
use Rattle.ele_audit.specs.declared.story_row.NameStory.{NameStory}
use Rattle.ele_audit.specs.declared.story_row.VersionStory.{VersionStory}
use Rattle.ele_model.specs.declared.rows.MarkRow.{MarkRow}
use Rattle.ele_model.specs.FateText.{mark_word}
use Rattle.ele_model.specs.declared.fate.Fate.{Fate}
use Rattle.ele_output.specs.Line.{line_text}
use Rattle.ele_printer.proofs.Lines.{behind_word, fate_first, line_is}
use Rattle.ele_printer.specs.Printed.{end_word}

-- words of a line before others
pub behind_append : (xs ys : List (List ℕ)) → behind_word (xs ++ ys) ≡ spaced xs ++ behind_word ys
behind_append [] ys = refl
behind_append (x ∷ []) ys = refl
behind_append (x ∷ next ∷ xs) ys =
    ap (λ (rest : List ℕ). (32 ∷ x) ++ rest) (behind_append (next ∷ xs) ys) ∙ sym (append_assoc (32 ∷ x) (spaced (next ∷ xs)) (behind_word ys))

-- the last words of a line are one of their own
pub behind_line : (word : List ℕ) (words : List (List ℕ)) → behind_word (word ∷ words) ≡ 32 ∷ line_text (word ∷ words)
behind_line word words = ap (λ (rest : List ℕ). 32 ∷ rest) (sym (line_is word words))

fate_or_dash_first : (fate : Option Fate) → (word : List ℕ) × (words : List (List ℕ)) × (fate_or_dash fate ≡ word ∷ words)
fate_or_dash_first None = (codes "-", [], refl)
fate_or_dash_first (Some fate) = fate_first fate

pub behind_fate : (fate : Option Fate) → behind_word (fate_or_dash fate) ≡ 32 ∷ line_text (fate_or_dash fate)
behind_fate fate = let first = fate_or_dash_first fate in rw first.2 (behind_line first.0 first.1)

-- the words of a mark in their parts
pub held_parts : (group : List ℕ) (mark : MarkRow) → spaced (codes "held" ∷ group ∷ mark_word mark ∷ []) ≡ join_with_byte 32 (codes " held" ∷ group ∷ []) ++ (32 ∷ mark_word mark)
held_parts group mark = three (codes " held") group (32 ∷ mark_word mark) where
  three : (a b c : List ℕ) → a ++ ((32 ∷ b) ++ c) ≡ join_with_byte 32 (a ∷ b ∷ []) ++ c
  three a b c = sym (append_assoc a (32 ∷ b) c)

pub version_story_parts : (row : VersionStory) → version_story_line row
    ≡ (codes "- version " ++ decimal row.number) ++ (spaced (info_words row.info) ++ (spaced (removed_words row.removed) ++ (spaced (hold_words row.hold) ++ (32 ∷ line_text (fate_or_dash row.fate)))))
version_story_parts row =
    let info = info_words row.info in
    let removed = removed_words row.removed in
    let hold = hold_words row.hold in
    let fate = fate_or_dash row.fate in
    line_is (codes "- version") (decimal row.number ∷ info ++ (removed ++ (hold ++ fate)))
    ∙ ap (λ (rest : List ℕ). codes "- version" ++ ((32 ∷ decimal row.number) ++ rest))
    (behind_append info (removed ++ (hold ++ fate)) ∙ ap (λ (rest : List ℕ). spaced info ++ rest) (behind_append removed (hold ++ fate) ∙ ap (λ (rest : List ℕ). spaced removed ++ rest) (behind_append hold fate ∙ ap (λ (rest : List ℕ). spaced hold ++ rest) (behind_fate row.fate))))
    ∙ sym (append_assoc (codes "- version ") (decimal row.number) (spaced info ++ (spaced removed ++ (spaced hold ++ (32 ∷ line_text fate)))))

pub name_story_parts : (name : NameStory) → name_story_line name
    ≡ (codes "- name " ++ decimal name.birth) ++ ((32 ∷ end_word name.death) ++ ((32 ∷ path_or_dash (names_in name.path)) ++ 10 ∷ []))
name_story_parts name = four (codes "- name") (decimal name.birth) (end_word name.death) (path_or_dash (names_in name.path)) where
  four : (a b c d : List ℕ) → line_text (a ∷ b ∷ c ∷ d ∷ []) ≡ (a ++ (32 ∷ b)) ++ ((32 ∷ c) ++ ((32 ∷ d) ++ 10 ∷ []))
  four a b c d = grind (arith, nat_tests, line_is, append_assoc)
