use Rattle.ele_path.proofs.Basics.{rules, Ok, ap, inl, inr, refl, err_from_is_err_and}
use Rattle.ele_path.proofs.Spelled.{spelled_behind, one_path, no_fault_behind}
use Rattle.ele_path.proofs.Texts.{names_behind, word_is_path}
use Rattle.ele_path.proofs.path.Path.read.Goals as goal

pub returns-in_err-check_pieces-in-47-2-clause-only : goal.returns-in_err-check_pieces-in-47-2-clause-only
returns-in_err-check_pieces-in-47-2-clause-only c = λ names h.
    let p = err_from_is_err_and c.from_residual.result c.from_residual.ensures.1 in
    inr (rw (p.1, p.2, no_fault_behind c.args.word.now names _ c.in-47-2.len_at_least (search rules) h (inr c.in_err-check_pieces-in-47-2.ensures.fault)) refl)

pub invariant_of-result : goal.invariant_of-result
invariant_of-result c = rw c.in_ok-text-in-47-2.ensures (word_is_path c.args.word.now c.in-47-2.len_at_least (search rules) c.in_ok-check_pieces-in-47-2.ensures.are)

pub returns-in_ok-text-in-47-2-clause-found : goal.returns-in_ok-text-in-47-2-clause-found
returns-in_ok-text-in-47-2-clause-found c =
    let path = word_is_path c.args.word.now c.in-47-2.len_at_least (search rules) c.in_ok-check_pieces-in-47-2.ensures.are in
    rw c.in_ok-text-in-47-2.ensures (spelled_behind c.args.word.now _ c.in-47-2.len_at_least (search rules) path.is (names_behind c.args.word.now c.in-47-2.len_at_least (search rules)))

pub returns-in_ok-text-in-47-2-clause-only : goal.returns-in_ok-text-in-47-2-clause-only
returns-in_ok-text-in-47-2-clause-only c = λ names h.
    let path = word_is_path c.args.word.now c.in-47-2.len_at_least (search rules) c.in_ok-check_pieces-in-47-2.ensures.are in
    inl (rw c.in_ok-text-in-47-2.ensures (ap Ok (one_path c.args.word.now _ names (spelled_behind c.args.word.now _ c.in-47-2.len_at_least (search rules) path.is (names_behind c.args.word.now c.in-47-2.len_at_least (search rules))) h)))
