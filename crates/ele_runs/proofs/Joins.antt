-- Lines and their blocks, and then more of them.
use Rattle.ele_runs.proofs.Basics.{◌≡◌, ℕ, List, [], ◌∷◌, ◌++◌, sym, ap, ◌∙◌, append_assoc, flat_map-append, AllByRecursion}
use Rattle.ele_runs.proofs.Words.{IsUnbroken, AreLines, whole_line, whole_lines, AreBlocks, AreTold, RunState, Past}
use Rattle.ele_lists.proofs.Alls.{all-append}

-- these lines come before those of the rest
pub lines_before : (input rest : List ℕ) (before after : List (List ℕ)) (last : List ℕ)
    → input ≡ whole_lines before ++ rest → AllByRecursion IsUnbroken before → AreLines rest after last → AreLines input (before ++ after) last
lines_before input rest before after last e whole h =
    record {
      parts = e ∙ ap (λ (xs : List ℕ). whole_lines before ++ xs) h.parts ∙ sym (append_assoc (whole_lines before) (whole_lines after) last)
          ∙ ap (λ (xs : List ℕ). xs ++ last) (sym (flat_map-append whole_line before after));
      whole = all-append IsUnbroken before after whole h.whole;
      cut = h.cut;
    }

-- blocks of lines, and then those of more
pub blocks_append : (s t u : Past) (a b : List (List ℕ)) (text more : List ℕ) → AreBlocks s a text t → AreBlocks t b more u → AreBlocks s (a ++ b) (text ++ more) u
blocks_append s t u [] b text more h g = rw (h.0, ← h.1) g
blocks_append s t u (line ∷ a) b text more (own, rest, mid, is, after, e) g =
    (own, rest ++ more, mid, is, blocks_append mid t u a b rest more after g, ap (λ (x : List ℕ). x ++ more) e ∙ append_assoc own rest more)

-- the text for lines, and then for more
pub told_append : (s t u : RunState) (a b : List (List ℕ)) (text more : List ℕ) → AreTold s a text t → AreTold t b more u → AreTold s (a ++ b) (text ++ more) u
told_append s t u [] b text more h g = rw (h.0, ← h.1) g
told_append s t u (line ∷ a) b text more (own, rest, mid, is, after, e) g =
    (own, rest ++ more, mid, is, told_append mid t u a b rest more after g, ap (λ (x : List ℕ). x ++ more) e ∙ append_assoc own rest more)
