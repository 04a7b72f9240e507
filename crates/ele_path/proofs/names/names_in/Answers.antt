use Rattle.ele_path.proofs.Basics.{ℕ, List, eqb, ◌+◌, ◌∙◌, sym, ap, take_all, length-slice_split}
use Rattle.std.specs.List.{count_by}
use Rattle.ele_path.proofs.names.names_in.Goals as goal

pub returns : goal.returns
returns c =
    ap (λ (n : ℕ). n + 1) (c.loop-byte.invariant ∙ ap (λ (bytes : List ℕ). count_by (λ byte. eqb byte 47) bytes) (take_all _ c.args.text.now c.loop-byte-test.false)) ∙ sym (length-slice_split (λ byte. eqb byte 47) c.args.text.now)
