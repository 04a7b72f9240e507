use Rattle.std.specs.Prelude.{◌≡◌, ◌++◌, drop}
use Rattle.std.specs.List.{flat_map}
use Rattle.ele_suggest.specs.Candidates.{safes_of}
use Rattle.ele_suggest.specs.declared.grain.Span.{Span}
use Rattle.ele_suggest.proofs.candidates.add_safes_of.Given as goal

-- the policies of the spans so far, and of the others
abbrev pub invariant-loop-span : goal.invariant-loop-span
invariant-loop-span l = l.policies.items ++ flat_map (λ (span : Span). safes_of span.age) (drop l.span-index l.spans) ≡ l.fn.policies.items ++ flat_map (λ (span : Span). safes_of span.age) l.spans
