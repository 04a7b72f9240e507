use Rattle.ele_model.proofs.Basics.{Ok, ap, arith, rules, tests, values_of, ◌∙◌, items_from_collect, map, YieldsList-from_rest, YieldsList-from_filter_map, AllocError}
use Rattle.ele_model.specs.Restorable.{row_of}
use Rattle.ele_model.proofs.Newest.{restorable_of_triples, returning_triple}
use Rattle.ele_model.proofs.returning.restorable.Goals as goal

pub returns : goal.returns
returns c = grind (arith, c.as_slice.ensures, c.in_ok-newest.ensures, c.deleted_names.ensures, restorable_of_triples c.args.world.now, items_from_collect {E = AllocError} (Ok c.in_ok-names.names) c.in_ok-names.ensures.ran (YieldsList-from_filter_map _ (returning_triple c.args.world.now) (YieldsList-from_rest (values_of c.in_ok-newest.newest.entries) (cc)) c.filter_map.ensures.closure (λ x r q k. search (rules, tests))))
