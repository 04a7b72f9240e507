use Rattle.std.proofs.Common.{ℕ, List, Option, Some, None, IfSome, length, sym, subst, ◌≡◌, arith}
use Rattle.std.proofs.lemmas.List.{length-append}
use Rattle.ele_moment.specs.Spelled.{SpellsMoment}
use Rattle.ele_tool_words.specs.ReadParts.{midnight_of, midnight_text}
use Rattle.ele_tool_words.specs.Time.{SpellsDate}
use Rattle.ele_tool_words.proofs.Locals.{date_found, date_stamp, stamp_moment}
use Rattle.ele_tool_words.proofs.local.read_date.Goals as goal

found : (w s : List ℕ) (r : Option ℕ) → length w ≡ 10 → s ≡ midnight_of w → IfSome r (SpellsMoment s) → IfSome r (SpellsDate w)
found w s (Some m) ten is spelled =
    date_found w m ten (omega (arith, length-append w midnight_text, ten)) (subst (λ (s : List ℕ). SpellsMoment s m) is spelled)
found w s None ten is spelled = tt

pub returns-clause-found : goal.returns-clause-found
returns-clause-found c = found c.args.word.now _ c.read.result c.requires c.midnight_of.ensures c.read.ensures.found

pub returns-clause-only : goal.returns-clause-only
returns-clause-only c = λ m h.
    c.read.ensures.only m (subst (λ (s : List ℕ). SpellsMoment s m) (sym c.midnight_of.ensures) (stamp_moment _ m (date_stamp c.args.word.now m h)))
