-- The bytes of the lines of an audit, part after part.
use Rattle.ele_audit.proofs.Basics.{arith, nat_tests, ◌≡◌, ℕ, List, [], ◌∷◌, ◌++◌, append_assoc, codes, decimal, refl, sym, ap, ◌∙◌, Option, Some, None}
use Rattle.ele_audit.specs.AuditText.{gone_words, handle_line, path_or_dash, read_word, removed_line, why_gone_text, why_held_text}
use Rattle.ele_audit.proofs.StoryLines.{behind_append, behind_line}
use Rattle.ele_audit.specs.HoldText.{hold_words, spaced}
use Rattle.ele_holds.specs.declared.hold.Hold.{Hold}
use Rattle.ele_name_paths.specs.LivePath.{names_in}
use Rattle.ele_audit.specs.Open.{file_of}
use Rattle.ele_audit.specs.declared.row.OpenHandle.{OpenHandle}
use Rattle.ele_audit.specs.declared.row.Removed.{Removed}
use Rattle.ele_model.specs.FateText.{fate_words}
use Rattle.ele_model.specs.declared.fate.Fate.{Fate}
use Rattle.ele_output.specs.Line.{line_text}
use Rattle.ele_printer.proofs.Lines.{behind_word, fate_first, line_is}
use Rattle.ele_printer.specs.Printed.{end_word}

-- the line of a handle in its parts
pub handle_parts : (handle : OpenHandle) → handle_line handle
    ≡ (codes "- " ++ decimal handle.row.number) ++ ((32 ∷ decimal (file_of handle.row.reads)) ++ ((32 ∷ read_word handle.row.reads) ++ ((32 ∷ end_word handle.since) ++ ((32 ∷ path_or_dash (names_in handle.path)) ++ 10 ∷ []))))
handle_parts handle = six (codes "-") (decimal handle.row.number) (decimal (file_of handle.row.reads)) (read_word handle.row.reads) (end_word handle.since) (path_or_dash (names_in handle.path)) where
  six : (a b c d e f : List ℕ) → line_text (a ∷ b ∷ c ∷ d ∷ e ∷ f ∷ []) ≡ (a ++ (32 ∷ b)) ++ ((32 ∷ c) ++ ((32 ∷ d) ++ ((32 ∷ e) ++ ((32 ∷ f) ++ 10 ∷ []))))
  six a b c d e f = grind (arith, nat_tests, line_is, append_assoc)

-- parts in a row, as they are put
grouped : (a b c d rest : List ℕ) → a ++ (b ++ (c ++ (d ++ rest))) ≡ ((a ++ (b ++ c)) ++ d) ++ rest
grouped a b c d rest =
    sym (append_assoc (a ++ (b ++ c)) d rest ∙ append_assoc a (b ++ c) (d ++ rest) ∙ ap (λ (end : List ℕ). a ++ end) (append_assoc b c (d ++ rest)))

-- five words, and what follows them
five : (a b c d e : List ℕ) (words : List (List ℕ)) (rest : List ℕ) → behind_word words ≡ rest → line_text (a ∷ b ∷ c ∷ d ∷ e ∷ words) ≡ ((a ++ ((32 ∷ b) ++ (32 ∷ c))) ++ (32 ∷ d)) ++ ((32 ∷ e) ++ rest)
five a b c d e words rest is =
    line_is a (b ∷ c ∷ d ∷ e ∷ words)
    ∙ ap (λ (end : List ℕ). a ++ ((32 ∷ b) ++ ((32 ∷ c) ++ ((32 ∷ d) ++ ((32 ∷ e) ++ end))))) is
    ∙ grouped a (32 ∷ b) (32 ∷ c) (32 ∷ d) ((32 ∷ e) ++ rest)

-- there is always a first word of what became of a version
gone_first : (ripe : ℕ) (fate : Option Fate) → (word : List ℕ) × (words : List (List ℕ)) × (gone_words ripe fate ≡ word ∷ words)
gone_first ripe None = (codes "due", decimal ripe ∷ [], refl)
gone_first ripe (Some fate) = fate_first fate

behind_gone : (ripe : ℕ) (fate : Option Fate) → behind_word (gone_words ripe fate) ≡ 32 ∷ line_text (gone_words ripe fate)
behind_gone ripe fate = let first = gone_first ripe fate in rw first.2 (behind_line first.0 first.1)

-- the mark that held a version, and what became of it
behind_hold : (hold : Option Hold) (ripe : ℕ) (fate : Option Fate) → behind_word (hold_words hold ++ gone_words ripe fate) ≡ spaced (hold_words hold) ++ (32 ∷ line_text (gone_words ripe fate))
behind_hold hold ripe fate =
    behind_append (hold_words hold) (gone_words ripe fate) ∙ ap (λ (rest : List ℕ). spaced (hold_words hold) ++ rest) (behind_gone ripe fate)

pub removed_parts : (row : Removed) → removed_line row
    ≡ ((codes "-" ++ ((32 ∷ decimal row.at) ++ (32 ∷ decimal row.key.file))) ++ (32 ∷ decimal row.key.number)) ++ ((32 ∷ path_or_dash (names_in row.path)) ++ (spaced (hold_words row.hold) ++ (32 ∷ line_text (gone_words row.key.ripe row.fate))))
removed_parts row =
    five (codes "-") (decimal row.at) (decimal row.key.file) (decimal row.key.number) (path_or_dash (names_in row.path)) (hold_words row.hold ++ gone_words row.key.ripe row.fate)
    (spaced (hold_words row.hold) ++ (32 ∷ line_text (gone_words row.key.ripe row.fate))) (behind_hold row.hold row.key.ripe row.fate)

pub why_gone_parts : (row : Removed) → why_gone_text row
    ≡ (codes "ok why removed " ++ decimal row.at) ++ (spaced (hold_words row.hold) ++ (32 ∷ line_text (gone_words row.key.ripe row.fate)))
why_gone_parts row =
    line_is (codes "ok why removed") (decimal row.at ∷ hold_words row.hold ++ gone_words row.key.ripe row.fate)
    ∙ ap (λ (rest : List ℕ). codes "ok why removed" ++ ((32 ∷ decimal row.at) ++ rest)) (behind_hold row.hold row.key.ripe row.fate)
    ∙ sym (append_assoc (codes "ok why removed ") (decimal row.at) (spaced (hold_words row.hold) ++ (32 ∷ line_text (gone_words row.key.ripe row.fate))))

-- the last words of a fate
behind_fate : (fate : Fate) → behind_word (fate_words fate) ≡ 32 ∷ line_text (fate_words fate)
behind_fate fate = let first = fate_first fate in rw first.2 (behind_line first.0 first.1)

pub why_held_parts : (fate : Fate) (hold : Hold) → why_held_text fate hold ≡ codes "ok why" ++ (spaced (hold_words (Some hold)) ++ (32 ∷ line_text (fate_words fate)))
why_held_parts fate hold =
    line_is (codes "ok why") (hold_words (Some hold) ++ fate_words fate)
    ∙ ap (λ (rest : List ℕ). codes "ok why" ++ rest) (behind_append (hold_words (Some hold)) (fate_words fate) ∙ ap (λ (rest : List ℕ). spaced (hold_words (Some hold)) ++ rest) (behind_fate fate))
