use Rattle.std.proofs.Common.{List, [], ap, refl, ℕ, ◌++◌}
use Rattle.std.proofs.lemmas.Result.{IfErr-weaker, IfOk-weaker}
use Rattle.ele_dialog.proofs.Reasons.{made_good, no_reason_text}
use Rattle.ele_dialog.specs.Heading.{headed, heading_of}
use Rattle.ele_output.proofs.Known.{puts_as, puts_then}
use Rattle.ele_runs.specs.Kept.{last_reply}
use Rattle.ele_dialog.proofs.answer.put_heard.Goals as goal

pub returns : goal.returns
returns g c =
    let heard = rw (c.dialog_options.ensures, c.kept_line.ensures) at c.hear_kept-said.ensures in
    let reason = c.put_reason.ensures in
    let said = c.hear_kept-said.result in
    let after = c.hear_kept-said.new.keeper in
    record {
      ok = IfOk-weaker c.put_said.result _ _
          (λ _ is. (
            reason.0 ++ headed (heading_of said (last_reply after)) is.1,
            record {
              said = said;
              reason = reason.0;
              answer = is.0;
              shown = is.1;
              hears = heard;
              reason_is = reason.1;
              answer_is = is.2;
              shown_is = is.3;
              text_is = refl;
            },
            puts_then reason.2 is.4,
          ))
          c.put_said.ensures.ok;
      err = IfErr-weaker c.put_said.result _ _
          (λ _ is. (
            record { said = said; hears = heard; made_first = is.0 },
            puts_as (ap (λ (t : List ℕ). t ++ []) (no_reason_text c.args.number c.args.line.now said reason.0 (made_good said (last_reply after) is.0) reason.1)) (puts_then reason.2 is.1),
          ))
          c.put_said.ensures.err;
    }
