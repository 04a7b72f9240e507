use Rattle.ele_words.proofs.typing.run_typed.Goals as goal

pub returns : goal.returns
returns g c =
    record {
      ended = c.run_dialog-ended.result;
      done = c.run_dialog-ended.ensures;
      status_is = rw c.err.ensures.value at c.tell.ensures.status;
      reported = rw c.err.ensures.value at c.tell.ensures.told;
    }
