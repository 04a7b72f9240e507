use Rattle.std.proofs.Common.{◌++◌, ◌∙◌, length, ap, append_assoc, arith, inl, inr}
use Rattle.std.specs.Int.{to_be_bytes, w64}
use Rattle.std.proofs.lemmas.Bool.{cases_lt}
use Rattle.std.proofs.lemmas.List.{length-take}
use Rattle.ele_journal.specs.declared.fault.RecoverError.TheVariants as errors
use Rattle.ele_journal.specs.Journal.{head}
use Rattle.ele_journal.proofs.Starts.{framed_head, has_head, not_cut, not_whole, retyped, start_found}
use Rattle.ele_journal.proofs.start.start_of.Goals as goal

pub returns-in-Err-clause-none : goal.returns-in-Err-clause-none
returns-in-Err-clause-none c = λ checkpoint after small e. c.in-Err.ensures.none (to_be_bytes w64 (length checkpoint) ++ (checkpoint ++ after)) (framed_head c.args.bytes.now checkpoint after e)

pub returns-in-Err-clause-cut : goal.returns-in-Err-clause-cut
returns-in-Err-clause-cut c = λ checkpoint more small e lt.
    let rest = to_be_bytes w64 (length checkpoint) ++ checkpoint in
    let begins = e ∙ append_assoc head (to_be_bytes w64 (length checkpoint)) checkpoint in
    elim (cases_lt (length c.args.bytes.now) 17) [
      | inl few ↦ retyped c.in-Err.stop errors.Cut (c.in-Err.ensures.cut more rest begins few)
      | inr long ↦ absurd (c.in-Err.ensures.none _ (has_head c.args.bytes.now more rest begins long))
    ]

pub returns-then-rest-size-clause-none : goal.returns-then-rest-size-clause-none
returns-then-rest-size-clause-none c = λ checkpoint after small e.
    not_cut c.args.bytes.now c.in-Ok.found.now c.split_at.result.1.now checkpoint after c.number_in-size.result c.in-Ok.ensures.found c.split_at.ensures.back c.number_in-size.ensures (omega arith) (omega arith) small e

pub returns-clause-cut : goal.returns-clause-cut
returns-clause-cut c = λ checkpoint more small e lt.
    let begins = start_found c.args.bytes.now c.in-Ok.found.now c.split_at.result.1.now c.split_at-2.result.0.now c.split_at-2.result.1.now c.number_in-size.result c.in-Ok.ensures.found (omega arith) c.split_at.ensures.back c.number_in-size.ensures (omega arith) c.split_at-2.ensures.front c.split_at-2.ensures.back in
    absurd (not_whole c.args.bytes.now checkpoint c.split_at-2.result.1.now c.split_at-2.result.0.now more begins (omega (arith, ap length c.split_at-2.ensures.front, length-take c.number_in-size.result c.split_at.result.1.now)) small e lt)
