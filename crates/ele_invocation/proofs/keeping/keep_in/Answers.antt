use Rattle.ele_invocation.proofs.Spelled.{none_weaker}
use Rattle.ele_invocation.proofs.keeping.keep_in.Goals as goal

pub returns-in-Err-bound_in-clause-unread : goal.returns-in-Err-bound_in-clause-unread
returns-in-Err-bound_in-clause-unread c =
    none_weaker _ _ c.in-Err-bound_in.why (λ keep asks. (keep.most_versions, asks.versions)) c.in-Err-bound_in.ensures.unread

pub returns-in-Err-bound_in-2-clause-unread : goal.returns-in-Err-bound_in-2-clause-unread
returns-in-Err-bound_in-2-clause-unread c =
    none_weaker _ _ c.in-Err-bound_in-2.why (λ keep asks. (keep.most_bytes, asks.bytes)) c.in-Err-bound_in-2.ensures.unread
