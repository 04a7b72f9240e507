use Rattle.std.specs.Option.{unwrap_or}
use Rattle.ele_rows.proofs.Headings.{map_removed}
use Rattle.ele_rows.proofs.Words.{ap, last_of, length, refl, slice_get_read, sym, ◌∙◌}
use Rattle.std.proofs.Common.{map}
use Rattle.std.specs.List.{remove}
use Rattle.ele_rows.proofs.chunk.Chunk.remove.Goals as goal

pub invariant_of-self : goal.invariant_of-self
invariant_of-self g c =
    let head = g.T.Headed.head in
    record {
      heads = c.remove-head.ensures.items ∙ (ap (λ hs. remove hs c.args.place) c.self.invariant.heads ∙ (sym (map_removed head c.self.inside.rows.items c.args.place) ∙ sym (ap (map head) c.remove.ensures.items)));
      last = λ found is. sym (c.last_or-last.ensures ∙ (ap (λ hs. unwrap_or (last_of hs) c.self.inside.last) c.deref.ensures.value ∙ ap (λ o. unwrap_or o c.self.inside.last) is));
      room = c.remove-head.ensures.capacity ∙ (c.self.invariant.room ∙ sym c.remove.ensures.capacity);
    }

pub returns-clause-row : goal.returns-clause-row
returns-clause-row g c =
    rw (← c.self.view_is) (slice_get_read c.self.inside.rows.items (length c.self.inside.rows.items) c.args.place c.remove.result refl (rw (ap (λ v. v.items) c.self.view_is) c.requires) c.remove.ensures.value)
