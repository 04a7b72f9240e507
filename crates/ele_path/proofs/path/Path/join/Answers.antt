use Rattle.std.proofs.Common.{◌≡◌, ◌<◌, length, rules, arith}
use Rattle.ele_path.specs.Text.{bytes_of}
use Rattle.ele_path.proofs.Words.{names_of}
use Rattle.ele_path.proofs.Texts.{names_counted, text_joined}
use Rattle.ele_path.proofs.path.Path.join.Goals as goal

pub returns-then-names_in-ge-MOST_NAMES-clause-full : goal.returns-then-names_in-ge-MOST_NAMES-clause-full
returns-then-names_in-ge-MOST_NAMES-clause-full c =
    let count : length c.args.self.now ≡ c.names_in.result = rw (← c.self.view_is) (omega (arith, names_counted (bytes_of c.self.inside.text), rw c.as_slice-before.ensures at c.names_in.ensures)) in
    (λ h. omega (arith, count, c.if-names_in-ge-MOST_NAMES.true), λ h. search rules)

pub invariant_of-result : goal.invariant_of-result
invariant_of-result c =
    let few : length (names_of (bytes_of c.self.inside.text)) < 32 = omega (arith, names_counted (bytes_of c.self.inside.text), rw c.as_slice-before.ensures at c.names_in.ensures, c.if-names_in-ge-MOST_NAMES.false) in
    rw (c.in_ok-text.ensures, c.as_slice-before.ensures, c.bytes.ensures.value) (text_joined _ _ c.self.invariant few c.bytes.ensures.name).0

pub returns-clause-found : goal.returns-clause-found
returns-clause-found c =
    let few : length (names_of (bytes_of c.self.inside.text)) < 32 = omega (arith, names_counted (bytes_of c.self.inside.text), rw c.as_slice-before.ensures at c.names_in.ensures, c.if-names_in-ge-MOST_NAMES.false) in
    rw (c.in_ok-text.ensures, c.as_slice-before.ensures, c.bytes.ensures.value, ← c.self.view_is) (text_joined _ _ c.self.invariant few c.bytes.ensures.name).1
