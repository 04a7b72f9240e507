use Rattle.ele_words.proofs.forecasting.run_forecast.Goals as goal

pub returns-in-Ok : goal.returns-in-Ok
returns-in-Ok g c =
    record {
      ended = c.write_forecast.result;
      foretold = c.write_forecast.ensures;
      told = rw c.in-Ok.is (c.tell_done.ensures.told, c.tell_done.ensures.status);
    }

pub returns-in-Err : goal.returns-in-Err
returns-in-Err g c =
    record {
      ended = c.write_forecast.result;
      foretold = c.write_forecast.ensures;
      told = rw c.in-Err.is (c.tell_fault.ensures.told, c.tell_fault.ensures.status);
    }
