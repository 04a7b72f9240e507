-- Which kind the name of a snapshot tells.
use Rattle.std.specs.Prelude.{ℕ, List, codes, nat_eq, if◌then◌else◌}
use Rattle.std.specs.List.{after_first, ends_with, list_any, starts_with}
use Rattle.ele_rule_parts.specs.declared.span.Span.{Span}
use Rattle.ele_rule_parts.specs.declared.span.Span.TheVariants.{Each, Minute, Hour, Day, Week, Month, Year}
use Rattle.ele_rule_parts.specs.Marked.{is_mark}

-- what follows the `@` (64) behind a file system's name, if there is one
abbrev pub snapshot_name : List ℕ → List ℕ
snapshot_name label = if list_any (is_mark 64) label then after_first (is_mark 64) label else label

-- sanoid tells the kind by the end of the name
abbrev pub kind_at_end : List ℕ → Span
kind_at_end name =
    if ends_with nat_eq name (codes "_frequently") then Minute
    else (if ends_with nat_eq name (codes "_hourly") then Hour
    else (if ends_with nat_eq name (codes "_daily") then Day
    else (if ends_with nat_eq name (codes "_weekly") then Week
    else (if ends_with nat_eq name (codes "_monthly") then Month
    else (if ends_with nat_eq name (codes "_yearly") then Year else Each)))))

-- only of a name that it gave; `Each` is of no kind
abbrev pub kind_of_name : List ℕ → Span
kind_of_name name = if starts_with nat_eq name (codes "autosnap") then kind_at_end name else Each

abbrev pub kind_of : List ℕ → Span
kind_of label = kind_of_name (snapshot_name label)
