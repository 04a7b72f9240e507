use Rattle.std.proofs.lemmas.Bool.Decides.{nat_tests}
use Rattle.std.proofs.lemmas.Slice.Eq.{bytes_eq-Decides, slice_eq-Decides}
use Rattle.std.proofs.Common.{arith}
use Rattle.ele_model.proofs.audits.are_same_keys.Goals as goal

pub returns : goal.returns
returns c = slice_eq-Decides (λ a b. (grind (arith, nat_tests, bytes_eq-Decides))) _ _ _ c.eq.ensures
