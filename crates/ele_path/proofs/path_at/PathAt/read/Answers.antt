use Rattle.ele_path.proofs.Basics.{Ok, ap, inl, inr, refl, err_from_is_err_and}
use Rattle.ele_path.proofs.Tags.{cut_fits, tag_begins, no_path_fault}
use Rattle.ele_path.proofs.PathsAt.{tagged_at, one_at, fault_behind, no_moment_fault}
use Rattle.ele_path.proofs.path_at.PathAt.read.Goals as goal

pub split_at-requires : goal.split_at-requires
split_at-requires c = rw c.path_length.ensures (cut_fits c.args.word.now)

pub returns-in_err-path-clause-only : goal.returns-in_err-path-clause-only
returns-in_err-path-clause-only c = λ value h.
    let p = err_from_is_err_and c.from_residual.result c.from_residual.ensures.1 in
    inr (rw (p.1, p.2, no_path_fault c.args.word.now (tagged_at value) _ h (rw (c.split_at.ensures.front, c.path_length.ensures) at c.in_err-path.ensures.fault)) refl)

pub read_moment-requires : goal.read_moment-requires
read_moment-requires c = rw (c.split_at.ensures.back, c.path_length.ensures) (tag_begins c.args.word.now)

pub returns-in_err-moment-clause-only : goal.returns-in_err-moment-clause-only
returns-in_err-moment-clause-only c = λ value h.
    absurd (no_moment_fault c.args.word.now value _ h (rw (c.split_at.ensures.back, c.path_length.ensures) at c.in_err-moment.ensures.only))

pub returns-in_err-moment-clause-fault : goal.returns-in_err-moment-clause-fault
returns-in_err-moment-clause-fault c =
    let p = err_from_is_err_and c.from_residual-in_err-moment.result c.from_residual-in_err-moment.ensures.1 in
    rw (p.1, p.2) (inr (fault_behind c.args.word.now c.in_ok-path.path _ (rw (c.split_at.ensures.front, c.path_length.ensures) at c.in_ok-path.ensures.found) (rw (c.split_at.ensures.back, c.path_length.ensures) at c.in_err-moment.ensures.fault)))

pub returns-clause-only : goal.returns-clause-only
returns-clause-only c = λ value h.
    inl (ap Ok (one_at c.args.word.now value c.in_ok-path.path c.in_ok-moment.moment h (rw (c.split_at.ensures.front, c.path_length.ensures) at c.in_ok-path.ensures.found) (rw (c.split_at.ensures.back, c.path_length.ensures) at c.in_ok-moment.ensures.only)))
