use Rattle.ele_names.proofs.Lemmas.{Option, ◌∙◌, sym, rules, tests, YieldsList-from_slice, option_map_id, YieldsList-from_filter_map, nth_from_yields_List, NameRow, from_values}
use Rattle.ele_names.proofs.numbered.Numbered.nth.Goals as goal

pub returns : goal.returns
returns c =
    let items = c.self.inside.places.items in
    rw (← c.self.view_is, from_values 0 items) (sym (option_map_id c.nth.result) ∙ nth_from_yields_List c.nth.result c.nth.new.self c.args.place c.nth.ensures.ran (YieldsList-from_filter_map _ (λ (x : Option NameRow). x) (YieldsList-from_slice items (cc)) c.filter_map.ensures.closure (λ x r q k. search (rules, tests))))
