use Rattle.std.proofs.Common.{◌≡◌, ◌∙◌, arith}
use Rattle.std.specs.Int.{w64, to_be_bytes}
use Rattle.ele_checkpoint.specs.declared.fault.Stop.TheVariants as stop
use Rattle.ele_journal.specs.Changes.{events_text}
use Rattle.ele_journal.specs.EventsRead.{events_at}
use Rattle.ele_journal.proofs.Steps.{bad_check, bad_events, bad_length, is_next, lies, met, no_events, no_length, whole_eight}
use Rattle.ele_journal.proofs.next.next_change.Goals as goal

pub returns-in_default-clause-none : goal.returns-in_default-clause-none
returns-in_default-clause-none c =
    (no_length c.args.bytes.now (omega arith) c.in_default.ensures.none, bad_length c.args.bytes.now (omega arith) c.in_default.ensures.none)

pub returns-in_default-linked_of-clause-none : goal.returns-in_default-linked_of-clause-none
returns-in_default-linked_of-clause-none c =
    let links = c.in-Some.ensures.found in
    let size_is : to_be_bytes w64 c.number_in-size.result ≡ c.in-Some.length.now = c.number_in-size.ensures ∙ whole_eight c.in-Some.length.now links.sized in (
      (λ change is agree.
          let l = lies c.args.bytes.now c.in-Some.length.now c.in-Some.rest.now c.number_in-size.result change links size_is (omega arith) (omega arith) is agree in
          c.in_default-linked_of.ensures.none (events_text change) l.after l.long l.text),
      bad_check c.args.bytes.now c.in-Some.length.now c.in-Some.rest.now c.number_in-size.result links size_is (omega arith) c.in_default-linked_of.ensures.none,
    )

pub returns-in-Ok-clause-found : goal.returns-in-Ok-clause-found
returns-in-Ok-clause-found c =
    let links = c.in-Some.ensures.found in
    is_next c.args.bytes.now c.in-Some.length.now c.in-Some.rest.now c.in-Some-linked_of.body.now c.in-Some-linked_of.rest.now c.number_in-size.result c.in-Ok.change links (c.number_in-size.ensures ∙ whole_eight c.in-Some.length.now links.sized) c.in-Some-linked_of.ensures.found (omega arith) c.in-Ok.ensures

pub returns-in-Err-At-clause-none : goal.returns-in-Err-At-clause-none
returns-in-Err-At-clause-none c =
    let links = c.in-Some.ensures.found in
    let size_is : to_be_bytes w64 c.number_in-size.result ≡ c.in-Some.length.now = c.number_in-size.ensures ∙ whole_eight c.in-Some.length.now links.sized in
    let is_met = c.in-Err-At.field-0-is in
    let stopped : c.in-Err-At.field-0 ≡ stop.At c.in-Err-At.field-0-0 = cc in
    let failed = met c.in-Err-At.field-0 c.in-Err-At.field-0-0 (events_at c.in-Some-linked_of.body.now) stopped c.in-Err-At.ensures in (
      (λ change is agree.
          let l = lies c.args.bytes.now c.in-Some.length.now c.in-Some.rest.now c.number_in-size.result change links size_is (omega arith) (omega arith) is agree in
          no_events c.in-Some.rest.now c.in-Some-linked_of.body.now c.in-Some-linked_of.rest.now c.number_in-size.result change c.in-Err-At.field-0-0 c.in-Some-linked_of.ensures.found l is failed),
      bad_events c.args.bytes.now c.in-Some.length.now c.in-Some.rest.now c.in-Some-linked_of.body.now c.in-Some-linked_of.rest.now c.number_in-size.result c.in-Err-At.field-0-0 links size_is c.in-Some-linked_of.ensures.found failed,
    )
