use Rattle.std.proofs.Common.{◌≡◌, ◌∷◌, List, ℕ, ap, arith, length}
use Rattle.ele_path.proofs.Words.{names_of}
use Rattle.ele_path.proofs.Texts.{next_name}
use Rattle.ele_path.proofs.names.NamesIterator.next.Goals as goal

pub split_at-requires : goal.split_at-requires
split_at-requires c = rw c.name_length.ensures (next_name _ _ _ c.self.invariant c.in_ok-_slash.ensures.cases.0).fits

pub of-requires : goal.of-requires
of-requires c = rw (c.split_at.ensures.front, c.name_length.ensures) (next_name _ _ _ c.self.invariant c.in_ok-_slash.ensures.cases.0).is

pub invariant_of-self : goal.invariant_of-self
invariant_of-self c = rw (c.split_at.ensures.back, c.name_length.ensures) (next_name _ _ _ c.self.invariant c.in_ok-_slash.ensures.cases.0).left

pub returns-clause-steps : goal.returns-clause-steps
returns-clause-steps c = rw (c.of.ensures, c.split_at.ensures.front, c.split_at.ensures.back, c.name_length.ensures, ← c.self.view_is) (next_name _ _ _ c.self.invariant c.in_ok-_slash.ensures.cases.0).names

pub returns-clause-goes : goal.returns-clause-goes
returns-clause-goes c =
    let step : c.args.self.now ≡ c.of.result ∷ names_of c.split_at.result.1.now = rw (c.of.ensures, c.split_at.ensures.front, c.split_at.ensures.back, c.name_length.ensures, ← c.self.view_is) (next_name _ _ _ c.self.invariant c.in_ok-_slash.ensures.cases.0).names in
    record { on = λ h. (tt, tt, omega (arith, ap (λ (names : List (List ℕ)). length names) step)); keeps = tt; rests = λ h. tt }
