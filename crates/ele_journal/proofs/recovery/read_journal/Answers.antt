use Rattle.std.proofs.Common.{◌≡◌, ◌∙◌, ◌+◌, ◌-◌, List, subst, ◌<◌, ◌≤◌, ◌^◌, length, drop, refl, sym, ap, arith}
use Rattle.std.proofs.lemmas.List.{length-append, length-drop}
use Rattle.ele_checkpoint.specs.Checkpoint.{checkpoint}
use Rattle.ele_checkpoint.specs.declared.fault.ReadError.TheVariants as read_errors
use Rattle.ele_journal.specs.declared.fault.RecoverError.TheVariants as errors
use Rattle.ele_model.specs.declared.event.Event.{Event}
use Rattle.ele_journal.specs.declared.recovery.Recovered.{Recovered}
use Rattle.ele_journal.specs.ChangesRead.{IsFound}
use Rattle.ele_journal.specs.Journal.{framed}
use Rattle.ele_journal.proofs.Journals.{framed_once, heading, inside}
use Rattle.ele_journal.proofs.Starts.{no_fault_of, no_world, retyped}
use Rattle.ele_journal.proofs.recovery.read_journal.Goals as goal

pub returns-in-Err-clause-none : goal.returns-in-Err-clause-none
returns-in-Err-clause-none c = λ flat after base e. absurd (c.in-Err.ensures.none (checkpoint flat) after base.fits e)

pub returns-in-Err-clause-cut : goal.returns-in-Err-clause-cut
returns-in-Err-clause-cut c = λ flat more base e lt. retyped c.in-Err.stop errors.Cut (c.in-Err.ensures.cut (checkpoint flat) more base.fits e lt)

pub returns-in-Err-Fault-clause-none : goal.returns-in-Err-Fault-clause-none
returns-in-Err-Fault-clause-none c = λ flat after base e.
    let cp = c.in-Ok.found.0.now in
    let small : length cp < 2 ^ 64 = omega (arith, ap length c.in-Ok.ensures.found, length-append (framed cp) c.in-Ok.found.1.now, length-append (heading cp) cp) in
    let once = framed_once cp (checkpoint flat) c.in-Ok.found.1.now after small base.fits (sym c.in-Ok.ensures.found ∙ e) in
    let is_met = c.in-Err-Fault.field-0-is in
    let faulty : c.in-Err-Fault.field-0 ≡ read_errors.Fault c.in-Err-Fault.fault = cc in
    absurd (no_fault_of flat c.in-Err-Fault.field-0 c.in-Err-Fault.fault faulty (c.in-Err-Fault.ensures.only flat base.world once.same))

pub returns-in-Err-Fault-clause-why : goal.returns-in-Err-Fault-clause-why
returns-in-Err-Fault-clause-why c =
    let is_met = c.in-Err-Fault.field-0-is in
    let faulty : c.in-Err-Fault.field-0 ≡ read_errors.Fault c.in-Err-Fault.fault = cc in
    no_world c.args.bytes.now c.in-Ok.found.0.now c.in-Ok.found.1.now c.in-Err-Fault.fault c.in-Ok.ensures.found
    (λ flat fits e. no_fault_of flat c.in-Err-Fault.field-0 c.in-Err-Fault.fault faulty (c.in-Err-Fault.ensures.only flat fits e))

pub returns-clause-inside : goal.returns-clause-inside
returns-clause-inside c =
    let cp = c.in-Ok.found.0.now in
    let after = c.in-Ok.found.1.now in
    let small : length cp < 2 ^ 64 = omega (arith, ap length c.in-Ok.ensures.found, length-append (framed cp) after, length-append (heading cp) cp) in
    let found = c.in-Ok-changes_of.ensures in
    let at = c.split_at.ensures.back in
    let few = found.reads.less in
    let le : length c.in-Ok-changes_of.rest.now ≤ length c.args.bytes.now = omega (arith, few, ap length at, length-drop (length c.args.bytes.now - length after - 4) c.args.bytes.now) in
    let left = c.in-Ok-changes_of.rest.now in
    let r : Recovered = record { flat = c.in-Ok-read.flat; changes = c.from_vec.result; whole = length c.args.bytes.now - length left + 4; check = c.first_four.result; fault = c.in-Ok-changes_of.fault } in
    let again = subst (λ (changes : List (List Event)). IsFound c.split_at.result.1.now changes left r.fault) (sym c.from_vec.ensures) found in
    inside c.args.bytes.now cp after c.split_at.result.1.now left r c.in-Ok.ensures.found small c.in-Ok-read.ensures.found c.in-Ok-read.ensures.only c.in-Ok-read.ensures.alone at again refl c.first_four.ensures le
