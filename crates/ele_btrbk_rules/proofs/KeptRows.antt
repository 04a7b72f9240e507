-- What is kept of the rows so far, and of the others.
use Rattle.std.proofs.Common.{◌≡◌, ℕ, ◌+◌, ◌<◌, ◌≤◌, ◌++◌, Bool, List, [], ◌∷◌, length, drop, get_or, Option, sym, ap, ◌∙◌, append_assoc}
use Rattle.std.proofs.lemmas.List.{append-nil, drop_all, drop_more}
use Rattle.ele_rule_parts.specs.declared.part.Part.{Part}
use Rattle.ele_rule_parts.specs.declared.reason.Reason.{Reason}
use Rattle.ele_rule_parts.specs.declared.row.Row.{Row}
use Rattle.ele_btrbk_rules.specs.declared.begins.Begins.{Begins}
use Rattle.ele_btrbk_rules.specs.declared.begun.Begun.{Begun}
use Rattle.ele_btrbk_rules.specs.Begun.{begun_after, depth, depths_from, none_begun}
use Rattle.ele_btrbk_rules.specs.Schedule.{is_last, kept_by, kept_from}
use Rattle.ele_btrbk_rules.specs.Firsts.{depths_of}
use Rattle.ele_btrbk_rules.specs.Numbers.{begins_of}
use Rattle.ele_btrbk_rules.specs.Why.{why}
use Rattle.ele_btrbk_rules.proofs.Depths.{depths_are}

-- one row more is judged
pub kept_more : (begins : Begins) (parts : List Part) (now : Row) (rows : List Row) (at : ℕ) (row : Row) (begun after : Begun) (deep : ℕ) (newest : Bool) (old new all : List (Option Reason))
    → at < length rows → row ≡ get_or rows at row → deep ≡ depth begins begun row → newest ≡ is_last (drop (at + 1) rows)
    → new ≡ old ++ why begins parts now deep newest row ∷ [] → after ≡ begun_after begins begun deep row
    → old ++ kept_from begins parts now (drop at rows) (depths_from begins begun (drop at rows)) ≡ all
    → new ++ kept_from begins parts now (drop (at + 1) rows) (depths_from begins after (drop (at + 1) rows)) ≡ all
kept_more begins parts now rows at row begun after deep newest old new all lt is is_deep is_newest made begun_is far =
    let newer = drop (at + 1) rows in
    let there : drop at rows ≡ row ∷ newer = drop_more rows at row lt ∙ ap (λ (r : Row). r ∷ newer) (sym is) in
    let rest = kept_from begins parts now newer (depths_from begins (begun_after begins begun (depth begins begun row) row) newer) in
    rw (made, begun_is, is_deep, is_newest)
    (append_assoc old (why begins parts now (depth begins begun row) (is_last newer) row ∷ []) rest
    ∙ ap (λ (rs : List Row). old ++ kept_from begins parts now rs (depths_from begins begun rs)) (sym there)
    ∙ far)

-- after all of them
kept_end : (begins : Begins) (parts : List Part) (now : Row) (rows : List Row) (at : ℕ) (begun : Begun) (old all : List (Option Reason)) → length rows ≤ at
    → old ++ kept_from begins parts now (drop at rows) (depths_from begins begun (drop at rows)) ≡ all → old ≡ all
kept_end begins parts now rows at begun old all past far =
    sym (append-nil old) ∙ ap (λ (rs : List Row). old ++ kept_from begins parts now rs (depths_from begins begun rs)) (sym (drop_all at rows past)) ∙ far

pub kept_whole : (begins : Begins) (parts : List Part) (now : Row) (rows : List Row) (at : ℕ) (begun : Begun) (marks : List (Option Reason)) → begins ≡ begins_of parts → length rows ≤ at
    → marks ++ kept_from begins parts now (drop at rows) (depths_from begins begun (drop at rows)) ≡ kept_from begins parts now rows (depths_from begins none_begun rows)
    → marks ≡ kept_by parts now rows
kept_whole begins parts now rows at begun marks is past far =
    kept_end begins parts now rows at begun marks _ past far
    ∙ ap (λ (depths : List ℕ). kept_from begins parts now rows depths) (depths_are begins rows)
    ∙ ap (λ (b : Begins). kept_from b parts now rows (depths_of b rows)) is
