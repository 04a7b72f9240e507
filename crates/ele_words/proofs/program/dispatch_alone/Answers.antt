use Rattle.std.proofs.KnownBytes.{Keeps-refl}
use Rattle.ele_output.specs.Prints.{outlet}
use Rattle.ele_output.proofs.Known.{reports_all}
use Rattle.ele_words.proofs.program.dispatch_alone.Goals as goal

pub returns-in-Run : goal.returns-in-Run
returns-in-Run g c =
    rw c.in-Run.is (record {
      ended = c.run_script-ran.result;
      notes = outlet g.E.Write.contents c.run_script-ran.new.errors;
      done = c.run_script-ran.ensures;
      status_is = c.tell_run.ensures.status;
      told = c.tell_run.ensures.told;
    })

pub returns-in-Forecast : goal.returns-in-Forecast
returns-in-Forecast g c = rw c.in-Forecast.is c.run_forecast.ensures

pub returns-in-Help : goal.returns-in-Help
returns-in-Help g c =
    rw c.in-Help.is (
      Keeps-refl _,
      record {
        fault = c.err.result;
        done = rw c.err.ensures.value (rw c.as_str.ensures.value at c.write_text.ensures);
        status_is = c.tell.ensures.status;
        told = c.tell.ensures.told;
      },
    )

pub returns-in-NotUnderstood : goal.returns-in-NotUnderstood
returns-in-NotUnderstood g c =
    rw c.in-NotUnderstood.is (
      Keeps-refl _,
      Keeps-refl _,
      reports_all (rw c.as_bytes.ensures.value at c.put.ensures) c.flush.ensures,
      c.status.ensures,
    )

pub returns-in-NoMemory : goal.returns-in-NoMemory
returns-in-NoMemory g c =
    rw c.in-NoMemory.is (Keeps-refl _, Keeps-refl _, c.tell-in-NoMemory.ensures.told, c.tell-in-NoMemory.ensures.status)

pub returns-in-Evidence : goal.returns-in-Evidence
returns-in-Evidence g c = rw c.in-Evidence.is c.run_evidence.ensures

pub returns-in-Verify : goal.returns-in-Verify
returns-in-Verify g c = rw c.in-Verify.is c.run_verify.ensures
