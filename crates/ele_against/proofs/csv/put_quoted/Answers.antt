use Rattle.std.proofs.Common.{[], ◌∷◌, arith}
use Rattle.ele_forecast_forms.specs.Csv.{doubled}
use Rattle.ele_output.proofs.Known.{put_last}
use Rattle.ele_forecast_text.proofs.Lines.{byte_more_then, list_past, put_start}
use Rattle.ele_against.proofs.csv.put_quoted.Goals as goal

pub loop-byte-init : goal.loop-byte-init
loop-byte-init g c = put_start c.put.ensures

pub loop-byte-preserved : goal.loop-byte-preserved
loop-byte-preserved g c =
    byte_more_then doubled c.args.text.now c.loop-byte.byte-index _ (34 ∷ []) (omega arith) c.loop-byte.invariant c.put_byte.ensures

pub returns : goal.returns
returns g c =
    put_last (list_past doubled c.args.text.now c.loop-byte.byte-index (34 ∷ []) c.loop-byte-test.false c.loop-byte.invariant) c.put-2.ensures
