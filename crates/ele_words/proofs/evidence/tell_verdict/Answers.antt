use Rattle.std.proofs.KnownBytes.{Keeps-refl}
use Rattle.ele_words.proofs.evidence.tell_verdict.Goals as goal

pub returns-in-Whole : goal.returns-in-Whole
returns-in-Whole g c =
    rw c.in-Whole.is (record {
      fault = c.err.result;
      done = rw c.err.ensures.value (rw (c.requires, c.in-Whole.is) at c.write_bytes.ensures);
      status_is = c.tell.ensures.status;
      told = c.tell.ensures.told;
    })

pub returns-in-NoHead : goal.returns-in-NoHead
returns-in-NoHead g c =
    rw c.in-NoHead.is (Keeps-refl _, rw (c.requires, c.in-NoHead.is) at c.tell_no_evidence.ensures.told, c.tell_no_evidence.ensures.status)

pub returns-in-Wrong : goal.returns-in-Wrong
returns-in-Wrong g c =
    rw c.in-Wrong.is (Keeps-refl _, rw (c.requires, c.in-Wrong.is) at c.tell_no_evidence-in-Wrong.ensures.told, c.tell_no_evidence-in-Wrong.ensures.status)
