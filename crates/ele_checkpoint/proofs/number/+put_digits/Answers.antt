use Rattle.std.proofs.Common.{◌≡◌, ◌++◌, ◌∷◌, [], ◌∙◌, ◌-◌, ◌+◌, ◌%◌, ◌/◌, sym, ap, List, ℕ, append_assoc, arith}
use Rattle.std.proofs.lemmas.Result.{IfOk-equal}
use Rattle.ele_checkpoint.specs.Number.{digits}
use Rattle.ele_checkpoint.proofs.Numbers.{digits_more, some_more}
use Rattle.ele_checkpoint.proofs.number.+put_digits.Goals as goal

pub put_digits-requires : goal.put_digits-requires
put_digits-requires t c =
    let m = some_more c.args.more c.args.n c.requires c.if-n-lt128.false in
    let less : c.args.more - 1 ≡ m.0 = omega (arith, m.1) in
    (omega (arith, m.1, c.decreases), rw less m.2)

pub returns : goal.returns
returns t c =
    let m = some_more c.args.more c.args.n c.requires c.if-n-lt128.false in
    let less : c.args.more - 1 ≡ m.0 = omega (arith, m.1) in
    let out : List ℕ = c.args.out.now.items in
    let first : ℕ = c.args.n % 128 + 128 in
    let others : List ℕ = digits (c.args.more - 1) (c.args.n / 128) in
    let whole : first ∷ others ≡ digits c.args.more c.args.n = ap (λ (k : ℕ). first ∷ digits k (c.args.n / 128)) less ∙ sym (digits_more m.0 c.args.n c.if-n-lt128.false) ∙ ap (λ (k : ℕ). digits k c.args.n) (sym m.1) in
    let joined : c.push-2.new.self.items ++ others ≡ out ++ digits c.args.more c.args.n = ap (λ (t : List ℕ). t ++ others) c.in_ok-push-2.ensures.items ∙ append_assoc out (first ∷ []) others ∙ ap (λ (t : List ℕ). out ++ t) whole in
    IfOk-equal c.put_digits.result c.put_digits.new.out.items (c.push-2.new.self.items ++ others) (out ++ digits c.args.more c.args.n) c.put_digits.ensures joined
