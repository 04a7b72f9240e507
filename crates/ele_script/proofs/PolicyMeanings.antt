-- Words of policies: what they spell, or their fault.
use Rattle.ele_script.proofs.Basics.{◌≡◌, ℕ, List, [], ◌∷◌, length, take, drop, refl, sym, subst, ◌∙◌, ◌⊎◌, inl, inr, Option, Some, None, Ok, Err, AllZip, codes, position, dec_le}
use Rattle.ele_script.proofs.Prelude.{One, KeepAll, Safe, Landmarks, Rung, IsLadder, climbs, ground, LineFault, BadLadder, Syntax, SpellsPair, SpellsPairs, SpellsSafe, IsSafeWord, IsLadderWord, HasForm, ReadsPolicy, parts_of}
use Rattle.ele_policy.specs.declared.policy.Policy.{Policy}
use Rattle.ele_policy.specs.Interval.{IsInterval}
use Rattle.ele_policy.specs.Policy.{IsPolicy}
use Rattle.ele_moment.specs.Last.{last_moment}
use Rattle.ele_script.proofs.Decided.{dec_behind, dec_in, dec_same, dec_true, same_behind}
use Rattle.ele_script.proofs.Moments.{dec_number}
use Rattle.ele_script.proofs.PairWords.{is_slash, made_pair, parts_at, unslashed}
use Rattle.ele_script.proofs.Policies.{formless_word}

dec_pair : (word : List ℕ) → Dec ((pair : Rung) × SpellsPair word pair)
dec_pair word = go (position is_slash word) refl where
  go : (at : Option ℕ) → position is_slash word ≡ at → Dec ((pair : Rung) × SpellsPair word pair)
  go None none = no (λ h. unslashed word None (sym none) refl h.0 h.1)
  go (Some at) found = elim (dec_number (take at word)) [
    | no none ↦ no (λ h. none (h.0.0, (parts_at word h.0 at h.1 found).0))
    | yes age ↦ elim (dec_number (drop 1 (drop at word))) [
      | no none ↦ no (λ h. none (h.0.1, (parts_at word h.0 at h.1 found).1))
      | yes width ↦ yes ((age.0, width.0), made_pair word (take at word) (drop at word) (drop 1 (drop at word)) at age.0 width.0 (sym found) refl refl refl age.1 width.1)
    ]
  ]

dec_spelled : (text : List ℕ) → Dec ((seconds : ℕ) × (floor : ℕ) × SpellsSafe text seconds floor)
dec_spelled text = elim (dec_number text) [
  | yes number ↦ yes (number.0, 0, inl (number.1, refl))
  | no unnumbered ↦ elim (dec_pair text) [
    | yes pair ↦ yes (pair.0.0, pair.0.1, inr pair.1)
    | no unpaired ↦ no (λ h. elim h.2 [ inl number ↦ unnumbered (h.0, number.0) | inr pair ↦ unpaired ((h.0, h.1), pair) ])
  ]
]

dec_safe : (word : List ℕ) → Dec ((seconds : ℕ) × (floor : ℕ) × IsSafeWord word seconds floor)
dec_safe word = elim (dec_behind (codes "safe:") word) [
  | no none ↦ no (λ h. none (h.2.text, h.2.are))
  | yes text ↦ elim (dec_spelled text.0) [
    | yes numbers ↦ yes (numbers.0, numbers.1, record { text = text.0; are = text.1; spelled = numbers.2 })
    | no none ↦ no (λ h. none (h.0, h.1, subst (λ w. SpellsSafe w h.0 h.1) (same_behind (codes "safe:") h.2.text text.0 (sym h.2.are ∙ text.1)) h.2.spelled))
  ]
]

head_is : (word : List ℕ) (words : List (List ℕ)) (pairs : List Rung) → AllZip SpellsPair (word ∷ words) pairs → ((pair : Rung) × SpellsPair word pair) × ((more : List Rung) × AllZip SpellsPair words more)
head_is word words [] are = absurd are
head_is word words (pair ∷ pairs) are = ((pair, are.0), (pairs, are.1))

dec_pairs : (words : List (List ℕ)) → Dec ((pairs : List Rung) × AllZip SpellsPair words pairs)
dec_pairs [] = yes ([], tt)
dec_pairs (word ∷ words) = elim (dec_pair word) [
  | no none ↦ no (λ h. none (head_is word words h.0 h.1).0)
  | yes pair ↦ elim (dec_pairs words) [
    | no none ↦ no (λ h. none (head_is word words h.0 h.1).1)
    | yes more ↦ yes (pair.0 ∷ more.0, (pair.1, more.1))
  ]
]

dec_ladder : (word : List ℕ) → Dec ((pairs : List Rung) × IsLadderWord word pairs)
dec_ladder word = elim (dec_behind (codes "landmarks:") word) [
  | no none ↦ no (λ h. none (h.1.text, h.1.are))
  | yes text ↦ elim (dec_pairs (parts_of text.0)) [
    | yes pairs ↦ yes (pairs.0, record { text = text.0; are = text.1; spelled = pairs.1 })
    | no none ↦ no (λ h. none (h.0, subst (λ w. SpellsPairs w h.0) (same_behind (codes "landmarks:") h.1.text text.0 (sym h.1.are ∙ text.1)) h.1.spelled))
  ]
]

dec_interval : (seconds : ℕ) → Dec (IsInterval seconds)
dec_interval seconds = elim (dec_in 1 last_moment seconds) [
  | yes fits ↦ yes (record { some = fits.0; fits = fits.1 })
  | no none ↦ no (λ is. none (is.some, is.fits))
]

dec_rungs : (rungs : List Rung) → Dec (IsLadder rungs)
dec_rungs rungs = elim (dec_in 1 8 (length rungs)) [
  | no none ↦ no (λ is. none (is.some, is.short))
  | yes fits ↦ elim (dec_true (climbs ground rungs)) [
    | no falls ↦ no (λ is. falls is.climbing)
    | yes climbing ↦ yes (record { some = fits.0; short = fits.1; climbing = climbing })
  ]
]

dec_policy : (policy : Policy) → Dec (IsPolicy policy)
dec_policy One = yes tt
dec_policy KeepAll = yes tt
dec_policy (Safe seconds floor) = elim (dec_interval seconds) [
  | no none ↦ no (λ is. none is.0)
  | yes given ↦ elim (dec_le floor 16) [
    | no large ↦ no (λ is. large is.1)
    | yes fits ↦ yes (given, fits)
  ]
]
dec_policy (Landmarks rungs) = dec_rungs rungs

abbrev pub PolicyMeaning : List ℕ → Type 0
PolicyMeaning word = ((policy : Policy) × ReadsPolicy word (Ok policy)) ⊎ ((fault : LineFault) × ReadsPolicy word (Err fault))

formed : (word : List ℕ) (policy : Policy) → HasForm word policy → PolicyMeaning word
formed word policy is = elim (dec_policy policy) [
  | yes given ↦ inl (policy, (is, given))
  | no none ↦ inr (BadLadder, (policy, is, none))
]

pub policy_meaning : (word : List ℕ) → PolicyMeaning word
policy_meaning word = elim (dec_same word (codes "one")) [
  | yes is ↦ formed word One is
  | no not_one ↦ elim (dec_same word (codes "all")) [
    | yes is ↦ formed word KeepAll is
    | no not_all ↦ elim (dec_safe word) [
      | yes numbers ↦ formed word (Safe numbers.0 numbers.1) numbers.2
      | no unsafe ↦ elim (dec_ladder word) [
        | yes pairs ↦ formed word (Landmarks pairs.0) pairs.1
        | no unpaired ↦ inr (Syntax, formless_word word not_one not_all (λ seconds floor is. unsafe (seconds, floor, is)) (λ pairs is. unpaired (pairs, is)))
      ]
    ]
  ]
]
