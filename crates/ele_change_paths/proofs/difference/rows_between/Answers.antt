use Rattle.ele_change_paths.proofs.difference.rows_between.Goals as goal

pub returns : goal.returns
returns c =
    rw (c.deref.ensures.value, c.in_ok-was.ensures, c.as_slice.ensures, c.deref-2.ensures.value, c.in_ok-is.ensures, c.as_slice-2.ensures, c.deref-3.ensures.value, c.in_ok-found.ensures) at c.in_ok-rows.ensures
