-- The bytes of the lines of removed versions, and of those that will be due, part after part.
use Rattle.ele_removals.proofs.Basics.{arith, nat_tests, ◌≡◌, ℕ, List, [], ◌∷◌, ◌++◌, append_assoc, codes, decimal, refl, ap, ◌∙◌}
use Rattle.ele_audit.proofs.StoryLines.{behind_append, behind_fate}
use Rattle.ele_audit.specs.AuditText.{path_or_dash}
use Rattle.ele_audit.specs.HoldText.{hold_words, spaced}
use Rattle.ele_audit.specs.StoryText.{fate_or_dash}
use Rattle.ele_output.specs.Line.{line_text}
use Rattle.ele_printer.proofs.Lines.{behind_word, line_is}
use Rattle.ele_printer.specs.Printed.{end_word}
use Rattle.ele_removals.specs.ExpiringText.{expiry_line}
use Rattle.ele_removals.specs.RemovalText.{name_death, name_path, removal_line}
use Rattle.ele_removals.specs.declared.expiry.Expiry.{Expiry}
use Rattle.ele_removals.specs.declared.removal.Removal.{Removal}

-- six words, and what follows them
six : (a b c d e f : List ℕ) (words : List (List ℕ)) (rest : List ℕ) → behind_word words ≡ rest
    → line_text (a ∷ b ∷ c ∷ d ∷ e ∷ f ∷ words) ≡ a ++ ((32 ∷ b) ++ ((32 ∷ c) ++ ((32 ∷ d) ++ (((32 ∷ e) ++ (32 ∷ f)) ++ rest))))
six a b c d e f words rest is = grind (arith, nat_tests, line_is, append_assoc, is)

pub removal_parts : (row : Removal) → removal_line row
    ≡ codes "-" ++ ((32 ∷ end_word row.version.removed) ++ ((32 ∷ decimal row.file) ++ ((32 ∷ decimal row.version.number) ++ (((32 ∷ path_or_dash (name_path row.name)) ++ (32 ∷ end_word (name_death row.name))) ++ (spaced (hold_words row.version.hold) ++ (32 ∷ line_text (fate_or_dash row.version.fate)))))))
removal_parts row =
    six (codes "-") (end_word row.version.removed) (decimal row.file) (decimal row.version.number) (path_or_dash (name_path row.name)) (end_word (name_death row.name)) (hold_words row.version.hold ++ fate_or_dash row.version.fate)
    (spaced (hold_words row.version.hold) ++ (32 ∷ line_text (fate_or_dash row.version.fate)))
    (behind_append (hold_words row.version.hold) (fate_or_dash row.version.fate) ∙ ap (λ (rest : List ℕ). spaced (hold_words row.version.hold) ++ rest) (behind_fate row.version.fate))

-- the line of a version that will be due
pub expiry_parts : (row : Expiry) → expiry_line row
    ≡ codes "-" ++ ((32 ∷ decimal row.key.ripe) ++ ((32 ∷ decimal row.key.file) ++ ((32 ∷ decimal row.key.number) ++ (((32 ∷ path_or_dash (name_path row.name)) ++ (32 ∷ end_word (name_death row.name))) ++ codes "\n"))))
expiry_parts row =
    six (codes "-") (decimal row.key.ripe) (decimal row.key.file) (decimal row.key.number) (path_or_dash (name_path row.name)) (end_word (name_death row.name)) [] (codes "\n") refl
