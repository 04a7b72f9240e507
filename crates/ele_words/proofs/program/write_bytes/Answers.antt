use Rattle.std.specs.Prelude.{is_ok}
use Rattle.ele_words.proofs.Flushed.{text_flushed}
use Rattle.ele_words.proofs.program.write_bytes.Goals as goal

pub returns : goal.returns
returns g c =
    text_flushed _ _ _ _ _ (is_ok c.flush-flushed.result) c.after_flush.result c.in_ok-written.ensures c.flush-flushed.ensures.bytes c.after_flush.ensures
