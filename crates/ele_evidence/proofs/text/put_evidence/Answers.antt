use Rattle.ele_evidence.proofs.Basics.{refl, ◌∙◌}
use Rattle.ele_evidence.proofs.Texts.{whole_text}
use Rattle.ele_evidence.specs.EvidenceText.{end_line, head_row}
use Rattle.std.specs.Prelude.{length}
use Rattle.ele_evidence.proofs.text.put_evidence.Goals as goal

pub returns : goal.returns
returns g c =
    let rows = c.in_ok-put_rows.ensures in (
      _,
      record { rows = rows.0; are = rows.1; is = refl },
      whole_text c.none.result c.as_slice.result.now (head_row c.args.limits.now) c.put_row-line.result (end_line (length c.args.entries.now)) rows.0
          c.none.ensures (c.as_slice.ensures.value ∙ c.in_ok-head.ensures) c.put_row-line.ensures.line c.put_row-line.ensures.printed rows.2 c.put_line_of.ensures,
    )
