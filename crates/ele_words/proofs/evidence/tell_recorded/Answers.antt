use Rattle.std.proofs.KnownBytes.{Keeps-refl}
use Rattle.ele_words.proofs.evidence.tell_recorded.Goals as goal

pub returns-in-Ok : goal.returns-in-Ok
returns-in-Ok g c =
    record {
      recorded = c.record.result;
      is = rw c.requires at c.record.ensures;
      told = rw c.in-Ok.is (record {
        fault = c.err.result;
        done = rw c.err.ensures.value c.write_evidence.ensures;
        status_is = c.tell.ensures.status;
        told = c.tell.ensures.told;
      });
    }

pub returns-in-Err : goal.returns-in-Err
returns-in-Err g c =
    record {
      recorded = c.record.result;
      is = rw c.requires at c.record.ensures;
      told = rw c.in-Err.is (Keeps-refl _, c.tell_unrecorded.ensures.told, c.tell_unrecorded.ensures.status);
    }
