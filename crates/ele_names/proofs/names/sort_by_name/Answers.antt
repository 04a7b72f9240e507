use Rattle.ele_names.proofs.Dead.{found_sorted, in_order, key_of, still}
use Rattle.ele_names.proofs.Lemmas.{name_cmp, name_total, rules, ◌≡◌}
use Rattle.ele_names.proofs.names.sort_by_name.Goals as goal
use Rattle.std.proofs.lemmas.Fn.{always_returns_same}
use Rattle.std.proofs.lemmas.List.Sorted.{ranks_by}
use Rattle.std.specs.Ordering.{is_lt}

pub returns-clause-sorted : goal.returns-clause-sorted
returns-clause-sorted c =
    let now = c.sort_unstable_by.new.self.items in
    in_order now
    (c.sort_unstable_by.ensures.sorted (λ x y. is_lt (name_cmp (key_of x) (key_of y))) (ranks_by name_total key_of)
    (always_returns_same _ (λ a r. is_lt r ≡ is_lt (name_cmp (key_of a.0.now) (key_of a.1.0.now))) _ (λ a r f' k. search rules)))
    (still _ _ c.sort_unstable_by.ensures.permutation c.requires)

pub returns-clause-found : goal.returns-clause-found
returns-clause-found c = λ directory name. found_sorted _ _ c.sort_unstable_by.ensures.permutation c.requires (directory, name)
