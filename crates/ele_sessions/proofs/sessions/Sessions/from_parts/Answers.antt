use Rattle.ele_sessions.proofs.Restored.{given_keeps}
use Rattle.ele_sessions.proofs.sessions.Sessions.from_parts.Goals as goal

pub invariant_of-result : goal.invariant_of-result
invariant_of-result c = rw (c.into_entries.ensures, c.in_ok-from_slice.ensures.items)
    (given_keeps (record { drafts = c.args.drafts; handles = c.args.handles.now; opened = c.args.opened }) c.in_ok-tally_of.field-0 c.requires.orderly c.requires.numbered c.in_ok-tally_of.ensures)
