use Rattle.ele_rows.proofs.Words.{All-weaker, IsKeyInRange, entry_cmp, greatest, has, least, of_group, recursion_from_All, true, ◌≡◌}
use Rattle.ele_rows.proofs.index.Index.of.Goals as goal

pub returns-clause-each : goal.returns-clause-each
returns-clause-each g c =
    let range = rw (c.new.ensures.start, c.new.ensures.end) at (c.range.ensures.in_range c.new.ensures.exhausted) in
    recursion_from_All _ _ (All-weaker (IsKeyInRange (entry_cmp g.G.Ord.cmp) (least c.args.group) (greatest c.args.group) c.args.self.now.entries) (λ e. has g.G.Ord.cmp c.args.self.now c.args.group e.1 e.2 ≡ true) (λ e in_range. of_group g.met.G.Ord.total c.args.self.now c.args.group 18446744073709551615 e in_range.0 in_range.1) _ range.0)
