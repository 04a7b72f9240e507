use Rattle.std.specs.Prelude.{Some}
use Rattle.ele_words.proofs.storming.tell_storm.Goals as goal

pub returns-in-Err : goal.returns-in-Err
returns-in-Err g c =
    record { fault = Some c.in-Err.fault; line = c.in-Err.ensures; told = c.tell.ensures.told; status_is = c.tell.ensures.status }
