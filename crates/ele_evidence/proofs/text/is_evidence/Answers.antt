use Rattle.std.proofs.lemmas.Bool.Decides.{Decides-eqb}
use Rattle.std.proofs.lemmas.Slice.Eq.{slice_eq-Decides}
use Rattle.ele_evidence.proofs.Basics.{List, subst, sym, ℕ}
use Rattle.ele_evidence.proofs.Texts.{tells}
use Rattle.ele_evidence.specs.EvidenceText.{IsEvidence}
use Rattle.ele_evidence.proofs.text.is_evidence.Goals as goal

pub returns : goal.returns
returns c =
    tells c.args.limits.now c.args.entries.now c.as_slice.result.now c.args.text.now c.eq.result
    (subst (λ (text : List ℕ). IsEvidence c.args.limits.now c.args.entries.now text) (sym c.as_slice.ensures.value) c.in_ok-evidence.ensures)
    (slice_eq-Decides Decides-eqb c.as_slice.result.now c.args.text.now c.eq.result c.eq.ensures)
