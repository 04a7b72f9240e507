use Rattle.ele_names.proofs.Lemmas.{◌≡◌, suc, true, slice_get, IfSome, nat_eq, option_map_or, slice_cmp, nat_cmp, target_at, rows_of, names_of, is_member, AreTold, is_left}
use Rattle.ele_names.proofs.names.Names.list.Given as goal

abbrev pub invariant-loop-next : goal.invariant-loop-next
invariant-loop-next l =
    IfSome l.next (λ r. is_member (λ d name. nat_eq name.0 d) (slice_get (names_of l.self-inside.live_names)) l.directory r ≡ true)
    × AreTold (slice_cmp nat_cmp) (target_at (rows_of l.self-inside.table) l.moment l.directory) (is_left (names_of l.self-inside.live_names) l.directory l.next) l.found.entries

abbrev pub decreases-loop-next : goal.decreases-loop-next
decreases-loop-next l = option_map_or suc l.next 0
