use Rattle.ele_script.proofs.Basics.{refl}
use Rattle.ele_script.specs.Value.{Bytes, Policy, Source, Tagged, Timed}
use Rattle.ele_script.proofs.word.check_word.Goals as goal

pub returns-in_ok-tagged-in-Tagged-clause-kind : goal.returns-in_ok-tagged-in-Tagged-clause-kind
returns-in_ok-tagged-in-Tagged-clause-kind c = rw c.in-Tagged.is (Tagged c.in_ok-tagged-in-Tagged.field-0, refl, c.in_ok-tagged-in-Tagged.ensures.found)

pub returns-in_ok-path_at-in-Timed-clause-kind : goal.returns-in_ok-path_at-in-Timed-clause-kind
returns-in_ok-path_at-in-Timed-clause-kind c = rw c.in-Timed.is (Timed c.in_ok-path_at-in-Timed.field-0, refl, c.in_ok-path_at-in-Timed.ensures.found)

pub returns-in_ok-source-in-Source-clause-kind : goal.returns-in_ok-source-in-Source-clause-kind
returns-in_ok-source-in-Source-clause-kind c = rw c.in-Source.is (Source c.in_ok-source-in-Source.field-0, refl, c.in_ok-source-in-Source.ensures.found)

pub returns-in_ok-bytes-in-Bytes-clause-kind : goal.returns-in_ok-bytes-in-Bytes-clause-kind
returns-in_ok-bytes-in-Bytes-clause-kind c = rw c.in-Bytes.is (Bytes c.in_ok-bytes-in-Bytes.field-0, refl, c.in_ok-bytes-in-Bytes.ensures.found)

pub returns-in_ok-policy-in-Policy-clause-kind : goal.returns-in_ok-policy-in-Policy-clause-kind
returns-in_ok-policy-in-Policy-clause-kind c = rw c.in-Policy.is (Policy c.in_ok-policy-in-Policy.field-0, refl, c.in_ok-policy-in-Policy.ensures)
