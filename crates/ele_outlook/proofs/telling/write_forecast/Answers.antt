use Rattle.std.proofs.lemmas.Result.{err_from_is_err_and}
use Rattle.ele_outlook.proofs.telling.write_forecast.Goals as goal

pub returns-in_err-tell : goal.returns-in_err-tell
returns-in_err-tell g c =
    let p = err_from_is_err_and c.from_residual-in_err-tell.result c.from_residual-in_err-tell.ensures.1 in
    rw (p.1, p.2) (record {
      given = c.in_ok-input.input.items;
      taken = c.in_ok-input.ensures.ok;
      at_end = λ _ _. c.in_ok-input.ensures.end;
      told = rw c.as_slice.ensures.value at c.in_err-tell.ensures;
      unplaced = tt;
    })
