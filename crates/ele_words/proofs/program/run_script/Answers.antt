use Rattle.std.specs.Prelude.{is_ok}
use Rattle.ele_words.proofs.Flushed.{run_flushed}
use Rattle.ele_words.proofs.program.run_script.Goals as goal

pub returns : goal.returns
returns g c =
    run_flushed _ _ _ _ _ _ _ c.run_to_exit-ran.result (is_ok c.flush-flushed.result) c.after_flush.result c.run_to_exit-ran.ensures.told c.flush-flushed.ensures.bytes c.after_flush.ensures
