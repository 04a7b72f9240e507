use Rattle.ele_names.proofs.Lemmas.{arith, nat_tests, keys-with_value_at, value_set}
use Rattle.ele_names.proofs.live_names.LiveNames.set.Goals as goal

pub returns-clause-names : goal.returns-clause-names
returns-clause-names c = keys-with_value_at c.args.self.now.by_name c.args.number c.args.live

pub returns-clause-live : goal.returns-clause-live
returns-clause-live c = λ e m is d n. grind (arith, nat_tests, is, c.requires, value_set (e, m) c.args.self.now.by_name.entries c.args.live)
