use Rattle.ele_dialog.proofs.Dated.{add_none_date, add_one_date, ok_or_err}
use Rattle.ele_dialog.proofs.dates.add_moment.Goals as goal

pub returns-in_ok-extend_from_slice-in-Ok-2 : goal.returns-in_ok-extend_from_slice-in-Ok-2
returns-in_ok-extend_from_slice-in-Ok-2 c =
    add_one_date _ _ _ c.in-Ok.moment _ _ _ c.in-Ok.ensures.found c.text.ensures.spells c.in_ok-extend_from_slice-in-Ok.ensures.items c.in_ok-extend_from_slice-in-Ok-2.ensures.items

pub returns-in-Err : goal.returns-in-Err
returns-in-Err c = add_none_date _ _ _ (λ moment spells. ok_or_err _ moment c.in-Err.field-0 c.in-Err.is (c.read.ensures.only moment spells))
