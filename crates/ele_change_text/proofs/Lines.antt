-- The bytes of the line of a change, part after part.
use Rattle.ele_change_text.proofs.Basics.{arith, nat_tests, ◌≡◌, ℕ, List, [], ◌∷◌, ◌++◌, append_assoc, codes, decimal}
use Rattle.ele_audit.specs.AuditText.{path_or_dash}
use Rattle.ele_name_paths.specs.LivePath.{names_in}
use Rattle.ele_change_text.specs.ChangeText.{change_line, kind_word, target_number, target_word}
use Rattle.ele_change_paths.specs.declared.row.PathChange.{PathChange}
use Rattle.ele_output.specs.Line.{line_text}
use Rattle.ele_printer.proofs.Lines.{line_is}
use Rattle.ele_printer.specs.Printed.{end_word}

pub change_parts : (row : PathChange) → change_line row
    ≡ (codes "- " ++ kind_word row.change.kind) ++ ((32 ∷ target_word row.change.target ++ (32 ∷ decimal (target_number row.change.target))) ++ ((32 ∷ end_word row.change.before) ++ ((32 ∷ end_word row.change.after) ++ ((32 ∷ path_or_dash (names_in row.from)) ++ ((32 ∷ path_or_dash (names_in row.to)) ++ 10 ∷ [])))))
change_parts row =
    eight (codes "-") (kind_word row.change.kind) (target_word row.change.target) (decimal (target_number row.change.target)) (end_word row.change.before) (end_word row.change.after) (path_or_dash (names_in row.from)) (path_or_dash (names_in row.to)) where
      eight : (a b c d e f g h : List ℕ) → line_text (a ∷ b ∷ c ∷ d ∷ e ∷ f ∷ g ∷ h ∷ []) ≡ (a ++ (32 ∷ b)) ++ ((32 ∷ c ++ (32 ∷ d)) ++ ((32 ∷ e) ++ ((32 ∷ f) ++ ((32 ∷ g) ++ ((32 ∷ h) ++ 10 ∷ [])))))
      eight a b c d e f g h = grind (arith, nat_tests, line_is, append_assoc)
