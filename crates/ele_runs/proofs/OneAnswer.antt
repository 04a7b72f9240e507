-- From one state a line has one answer, unless want of memory stops it.
use Rattle.ele_runs.proofs.Asked.{MayMeet, Met, Faulty, met_or_faulty}
use Rattle.ele_runs.proofs.Basics.{◌≡◌, ◌⊎◌, ℕ, false, List, [], ◌∷◌, Some, None, inl, inr, refl, sym, ap, subst, ◌∙◌, arith}
use Rattle.ele_runs.proofs.OnePass.{one_pass}
use Rattle.ele_runs.proofs.Words.{HistoryFull, IsForMemory, Past, Said}
use Rattle.ele_history.specs.PassIsOfWorld.{PassIsOfWorld}
use Rattle.ele_script.specs.LineMeaning.{OneLineMeaning}
use Rattle.ele_script.specs.declared.reading.Line.{Line}
use Rattle.ele_script.specs.declared.reading.Line.TheVariants as asks
use Rattle.ele_runs.specs.declared.said.Said.TheVariants.{Bad, Stopped, Replied, Passed, History, Trimmed}
use Rattle.ele_runs.specs.OneAnswer.{OneAnswer}

module _ (law : OneLineMeaning) (passes : PassIsOfWorld) where
  -- one command has one answer
  one_met : (before : Past) (asked : Line) (said told : Said) (x y : Past) → MayMeet before asked said x → MayMeet before asked told y
      → ¬ IsForMemory said → ¬ IsForMemory told → (said ≡ told) × (x ≡ y)
  one_met before (asks.Event event) Replied Replied x y a b p q = (refl, a.1 ∙ sym b.1)
  one_met before (asks.Event event) Replied (Stopped HistoryFull) x y a b p q = absurd (omega (arith, a.0, b.0))
  one_met before (asks.Event event) Replied told x y a b p q = absurd b
  one_met before (asks.Event event) (Stopped HistoryFull) Replied x y a b p q = absurd (omega (arith, a.0, b.0))
  one_met before (asks.Event event) (Stopped HistoryFull) (Stopped HistoryFull) x y a b p q = (refl, a.1 ∙ sym b.1)
  one_met before (asks.Event event) (Stopped HistoryFull) told x y a b p q = absurd b
  one_met before (asks.Pass budget) (Passed e) (Passed f) x y a b p q = one_pass passes before budget e f x y a b p q
  one_met before (asks.Pass budget) (Passed e) told x y a b p q = absurd b
  one_met before asks.History History History x y a b p q = (refl, a ∙ sym b)
  one_met before asks.History History told x y a b p q = absurd b
  one_met before asks.Trim (Trimmed m) (Trimmed n) x y a b p q = (ap Trimmed (a.0 ∙ sym b.0), a.1 ∙ sym b.1)
  one_met before asks.Trim (Trimmed m) told x y a b p q = absurd b
  one_met before asked said told x y a b p q = absurd a

  both_met : (before : Past) (line : List ℕ) (a b : Said) (x y : Past) → Met before line a x → Met before line b y → ¬ IsForMemory a → ¬ IsForMemory b → (a ≡ b) × (x ≡ y)
  both_met before line a b x y m n p q =
      let same = law.one_line false line m.asked n.asked m.asks n.asks in
      one_met before n.asked a b x y (subst (λ (asked : Line). MayMeet before asked a x) same m.met) n.met p q

  both_faulty : (before : Past) (line : List ℕ) (a b : Said) (x y : Past) → Faulty before line a x → Faulty before line b y → (a ≡ b) × (x ≡ y)
  both_faulty before line a b x y m n =
      let same = law.one_fault false line m.fault n.fault m.first n.first in
      (m.said_is ∙ ap Bad same ∙ sym n.said_is, m.stays ∙ sym n.stays)

  one_of : (before : Past) (line : List ℕ) (a b : Said) (x y : Past) → Met before line a x ⊎ Faulty before line a x → Met before line b y ⊎ Faulty before line b y
      → ¬ IsForMemory a → ¬ IsForMemory b → (a ≡ b) × (x ≡ y)
  one_of before line a b x y (inl m) (inl n) p q = both_met before line a b x y m n p q
  one_of before line a b x y (inl m) (inr n) p q = absurd (law.faultless false line m.asked n.fault m.asks n.first)
  one_of before line a b x y (inr m) (inl n) p q = absurd (law.faultless false line n.asked m.fault n.asks m.first)
  one_of before line a b x y (inr m) (inr n) p q = both_faulty before line a b x y m n

  pub one_answer : OneAnswer
  one_answer before None a b x y may also p q = (may.0 ∙ sym also.0, may.1 ∙ sym also.1)
  one_answer before (Some []) a b x y may also p q = (may.0 ∙ sym also.0, may.1 ∙ sym also.1)
  one_answer before (Some (byte ∷ bytes)) a b x y may also p q =
      one_of before (byte ∷ bytes) a b x y (met_or_faulty before (byte ∷ bytes) a x may p) (met_or_faulty before (byte ∷ bytes) b y also q) p q
