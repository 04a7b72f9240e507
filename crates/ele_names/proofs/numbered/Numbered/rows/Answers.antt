use Rattle.ele_names.proofs.Lemmas.{Option, Ok, rules, tests, YieldsList-from_slice, items_from_collect, YieldsList-from_filter_map, AllocError, NameRow, from_values}
use Rattle.ele_names.proofs.numbered.Numbered.rows.Goals as goal

pub returns : goal.returns
returns c =
    let items = c.self.inside.places.items in
    rw (← c.self.view_is, from_values 0 items) (items_from_collect {E = AllocError} (Ok c.in_ok-collect.field-0) c.in_ok-collect.ensures.ran (YieldsList-from_filter_map _ (λ (x : Option NameRow). x) (YieldsList-from_slice items (cc)) c.filter_map.ensures.closure (λ x r q k. search (rules, tests))))
