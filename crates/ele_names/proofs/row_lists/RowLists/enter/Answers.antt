use Rattle.ele_names.proofs.Lemmas.{◌≡◌, arith, cond, Some, append_assoc, nat_eq, option_and_then, option_map_or, slice_get, slice_got, ap, sym, ◌∙◌, cut_kept, own_pushed, same_seen, set_seen}
use Rattle.ele_names.proofs.row_lists.RowLists.enter.Goals as goal
use Rattle.std.proofs.lemmas.Grind.{elements}

pub returns-clause-ok : goal.returns-clause-ok
returns-clause-ok c =
    let known = c.know.ensures.same in
    let group = c.args.group in
    let groups = c.know.new.self.groups.items in
    let members = c.index_mut.result.now in
    let resized = c.resize.new.self in
    let there : slice_get groups group ≡ Some members = slice_got groups group members c.in_ok-know.ensures.known ∙ ap (λ m. Some m) (sym c.index_mut.ensures.value) in
    record {
      newest = λ g. set_seen (option_and_then (λ m. m.newest)) groups group _ c.in_ok-know.ensures.known g ∙ ap (λ o. cond (nat_eq group g) (Some c.args.number) o) (known.newest g);
      live = λ g. same_seen (λ o. option_map_or (λ m. m.live) o 0) groups group _ (ap (λ o. option_map_or (λ m. m.live) o 0) (sym there)) g ∙ known.live g;
      own = rw c.in_ok-push.ensures.items (own_pushed resized.items c.newest-newest.result c.args.number (sym resized.ok.0 ∙ c.in_ok-resize.ensures.len)) ∙ ap (λ o. Some o) (c.newest-newest.ensures ∙ known.newest group);
      older = λ s o lt is. rw (c.in_ok-push.ensures.items, c.in_ok-resize.ensures.items, append_assoc) (cut_kept c.know.new.self.older.items _ c.args.number s o lt (rw known.older is));
    }

pub returns-in_err-push-clause-err : goal.returns-in_err-push-clause-err
returns-in_err-push-clause-err c = grind (arith, elements)
