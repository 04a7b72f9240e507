-- The words of policies: each means one at most.
use Rattle.std.proofs.Common.{◌≡◌, ◌≢◌, ℕ, false, List, ◌++◌, get_or, inl, inr, sym, ap, subst, ◌∙◌, arith, true≢false}
use Rattle.std.specs.Prelude.{codes}
use Rattle.std.specs.List.{list_any}
use Rattle.std.specs.Str.{bytes_eq}
use Rattle.std.specs.Cmp.Lexicographic.{bytes_decides}
use Rattle.std.proofs.lemmas.List.{append_cancel_left}
use Rattle.ele_policy.specs.declared.policy.Policy.{Policy}
use Rattle.ele_policy.specs.declared.policy.Policy.TheVariants.{One, All, Safe, Landmarks}
use Rattle.ele_policy.specs.Ladder.{IsLadder, Rung}
use Rattle.ele_tool_words.proofs.RungLists.{one_rungs}
use Rattle.ele_tool_words.specs.Parts.{IsLandmarks, IsNamed, IsSafe}
use Rattle.ele_tool_words.specs.PolicyWord.{MeansPolicy, SpellsRungs, SpellsSafe, is_slash}

-- ---- behind `safe:`

pub safe_means : (word text : List ℕ) (policy : Policy) → word ≡ codes "safe:" ++ text → IsSafe text policy → MeansPolicy word policy
safe_means word text One is h = absurd h
safe_means word text All is h = absurd h
safe_means word text (Safe seconds floor) is h = record { form = (text, is, h.0); is = (h.1, h.2) }
safe_means word text (Landmarks rungs) is h = absurd h

pub safe_alone : (word text : List ℕ) (policy : Policy) → word ≡ codes "safe:" ++ text → MeansPolicy word policy → IsSafe text policy
safe_alone word text One is h = absurd (let e : codes "safe:" ++ text ≡ codes "one" = sym is ∙ h.form in cc)
safe_alone word text All is h = absurd (let e : codes "safe:" ++ text ≡ codes "all" = sym is ∙ h.form in cc)
safe_alone word text (Safe seconds floor) is h =
    let same : h.form.0 ≡ text = append_cancel_left (codes "safe:") h.form.0 text (sym h.form.1 ∙ is) in
    (subst (λ (t : List ℕ). SpellsSafe (list_any is_slash t) t seconds floor) same h.form.2, h.is.0, h.is.1)
safe_alone word text (Landmarks rungs) is h = elim h.form [
  | inl named ↦ absurd (let b : 97 ≡ 116 = ap (λ (w : List ℕ). get_or w 1 0) (sym is ∙ named.0) in omega (arith, b))
  | inr marks ↦ absurd (let b : 115 ≡ 108 = ap (λ (w : List ℕ). get_or w 0 0) (sym is ∙ marks.1) in omega (arith, b))
]

-- ---- behind `landmarks:`

pub landmarks_mean : (word text : List ℕ) (policy : Policy) → word ≡ codes "landmarks:" ++ text → IsLandmarks text policy → MeansPolicy word policy
landmarks_mean word text One is h = absurd h
landmarks_mean word text All is h = absurd h
landmarks_mean word text (Safe seconds floor) is h = absurd h
landmarks_mean word text (Landmarks rungs) is h = record { form = inr (text, is, h.0); is = h.1 }

pub landmarks_alone : (word text : List ℕ) (policy : Policy) → word ≡ codes "landmarks:" ++ text → MeansPolicy word policy → IsLandmarks text policy
landmarks_alone word text One is h = absurd (let e : codes "landmarks:" ++ text ≡ codes "one" = sym is ∙ h.form in cc)
landmarks_alone word text All is h = absurd (let e : codes "landmarks:" ++ text ≡ codes "all" = sym is ∙ h.form in cc)
landmarks_alone word text (Safe seconds floor) is h = absurd (let b : 108 ≡ 115 = ap (λ (w : List ℕ). get_or w 0 0) (sym is ∙ h.form.1) in omega (arith, b))
landmarks_alone word text (Landmarks rungs) is h = elim h.form [
  | inl named ↦ absurd (let e : codes "landmarks:" ++ text ≡ codes "standard" = sym is ∙ named.0 in cc)
  | inr marks ↦
      let same : marks.0 ≡ text = append_cancel_left (codes "landmarks:") marks.0 text (sym marks.1 ∙ is) in
      (subst (λ (t : List ℕ). SpellsRungs t rungs) same marks.2, h.is)
]

-- ---- a name

pub name_alone : (word : List ℕ) (policy : Policy) → ((text : List ℕ) → word ≢ codes "safe:" ++ text) → ((text : List ℕ) → word ≢ codes "landmarks:" ++ text) → MeansPolicy word policy → IsNamed word policy
name_alone word One unsafe unmarked h = h.form
name_alone word All unsafe unmarked h = h.form
name_alone word (Safe seconds floor) unsafe unmarked h = absurd (unsafe h.form.0 h.form.1)
name_alone word (Landmarks rungs) unsafe unmarked h = elim h.form [
  | inl named ↦ named
  | inr marks ↦ absurd (unmarked marks.0 marks.1)
]

pub differs : (word text : List ℕ) → bytes_eq word text ≡ false → word ≡ text → ⊥
differs word text other is = true≢false (sym ((bytes_decides word text).1 is) ∙ other)

-- another word names no policy
pub no_name : (word : List ℕ) (policy : Policy) → ¬ (word ≡ codes "one") → ¬ (word ≡ codes "all") → ¬ (word ≡ codes "standard") → IsNamed word policy → ⊥
no_name word One not_one not_all not_standard h = not_one h
no_name word All not_one not_all not_standard h = not_all h
no_name word (Safe seconds floor) not_one not_all not_standard h = h
no_name word (Landmarks rungs) not_one not_all not_standard h = not_standard h.0

-- ---- rungs that are read

pub same_ladder : (text : List ℕ) (rungs : List Rung) (policy : Policy) → SpellsRungs text rungs → IsLandmarks text policy → IsLadder rungs × (Landmarks rungs ≡ policy)
same_ladder text rungs One read h = absurd h
same_ladder text rungs All read h = absurd h
same_ladder text rungs (Safe seconds floor) read h = absurd h
same_ladder text rungs (Landmarks others) read h =
    let same : others ≡ rungs = one_rungs _ others rungs h.0 read in
    (subst IsLadder same h.1, ap (λ (rs : List Rung). Landmarks rs) (sym same))
