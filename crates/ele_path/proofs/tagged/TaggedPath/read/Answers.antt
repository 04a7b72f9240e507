use Rattle.ele_path.proofs.Basics.{Ok, ap, inl, inr, refl, err_from_is_err_and}
use Rattle.ele_path.proofs.Words.{of_tag}
use Rattle.ele_path.proofs.Tags.{cut_fits, tag_begins, no_path_fault, no_tag_fault, one_value}
use Rattle.ele_path.proofs.tagged.TaggedPath.read.Goals as goal

pub split_at-requires : goal.split_at-requires
split_at-requires c = rw c.path_length.ensures (cut_fits c.args.word.now)

pub returns-in_err-path-clause-only : goal.returns-in_err-path-clause-only
returns-in_err-path-clause-only c = λ value h.
    let p = err_from_is_err_and c.from_residual.result c.from_residual.ensures.1 in
    inr (rw (p.1, p.2, no_path_fault c.args.word.now value _ h (rw (c.split_at.ensures.front, c.path_length.ensures) at c.in_err-path.ensures.fault)) refl)

pub read_tag-requires : goal.read_tag-requires
read_tag-requires c = rw (c.split_at.ensures.back, c.path_length.ensures) (tag_begins c.args.word.now)

pub returns-in_err-tag-clause-only : goal.returns-in_err-tag-clause-only
returns-in_err-tag-clause-only c = λ value h.
    absurd (no_tag_fault c.args.word.now value _ h (rw (c.split_at.ensures.back, c.path_length.ensures) at c.in_err-tag.ensures.only))

pub returns-in_err-tag-clause-fault : goal.returns-in_err-tag-clause-fault
returns-in_err-tag-clause-fault c =
    let p = err_from_is_err_and c.from_residual-in_err-tag.result c.from_residual-in_err-tag.ensures.1 in
    rw (p.1, p.2) (inr (of_tag c.in_ok-path.path (rw (c.split_at.ensures.front, c.path_length.ensures) at c.in_ok-path.ensures.found) (rw (c.split_at.ensures.back, c.path_length.ensures) at c.in_err-tag.ensures.fault)))

pub returns-clause-only : goal.returns-clause-only
returns-clause-only c = λ value h.
    inl (ap Ok (one_value c.args.word.now value c.in_ok-path.path c.in_ok-tag.tag h (rw (c.split_at.ensures.front, c.path_length.ensures) at c.in_ok-path.ensures.found) (rw (c.split_at.ensures.back, c.path_length.ensures) at c.in_ok-tag.ensures.only)))
