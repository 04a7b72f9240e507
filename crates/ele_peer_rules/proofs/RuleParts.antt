-- The parts that options spell, one after another: a word spells one part at most.
use Rattle.std.proofs.Common.{◌≡◌, ℕ, zero, suc, ◌+◌, ◌<◌, ◌≤◌, ◌==◌, Bool, false, List, [], ◌∷◌, ◌++◌, length, take, get_or, Option, Some, None, Result, Ok, Err, refl, sym, ap, subst, ◌∙◌, arith}
use Rattle.std.specs.Prelude.{◌⊎◌}
use Rattle.std.proofs.lemmas.Bool.Decides.{nat_tests}
use Rattle.std.specs.List.{AllZip}
use Rattle.ele_rule_parts.specs.declared.part.Part.{Part}
use Rattle.ele_peer_rules.specs.declared.tool.Tool.{Tool}
use Rattle.ele_peer_rules.specs.declared.reading.Wrong.{Wrong}
use Rattle.ele_peer_rules.specs.declared.reading.RuleFault.{RuleFault}
use Rattle.ele_peer_rules.specs.Faults.{IsFirstWrong, IsRepeated, IsUnspelled}
use Rattle.ele_peer_rules.specs.Kept.{rank_of}
use Rattle.ele_peer_rules.specs.Words.{AreApart, SpellsPart, has_rank}

-- the word spells the part, and no other
pub record IsOnly (tool : Tool) (word : List ℕ) (part : Part) : Type 0 where
  pub is : SpellsPart tool word part
  pub only : (other : Part) → SpellsPart tool word other → part ≡ other

pub only_push : (tool : Tool) (words : List (List ℕ)) (parts : List Part) (word : List ℕ) (part : Part) → AllZip (IsOnly tool) words parts → IsOnly tool word part → AllZip (IsOnly tool) (words ++ word ∷ []) (parts ++ part ∷ [])
only_push tool [] [] word part far is = (is, tt)
only_push tool [] (x ∷ parts) word part far is = absurd far
only_push tool (w ∷ words) [] word part far is = absurd far
only_push tool (w ∷ words) (x ∷ parts) word part far is = (far.0, only_push tool words parts word part far.1 is)

pub all_spelled : (tool : Tool) (words : List (List ℕ)) (parts : List Part) → AllZip (IsOnly tool) words parts → AllZip (SpellsPart tool) words parts
all_spelled tool [] [] far = far
all_spelled tool [] (x ∷ parts) far = absurd far
all_spelled tool (w ∷ words) [] far = absurd far
all_spelled tool (w ∷ words) (x ∷ parts) far = (far.0.is, all_spelled tool words parts far.1)

pub same_count : (tool : Tool) (words : List (List ℕ)) (parts : List Part) → AllZip (SpellsPart tool) words parts → length words ≡ length parts
same_count tool [] [] far = refl
same_count tool [] (x ∷ parts) far = absurd far
same_count tool (w ∷ words) [] far = absurd far
same_count tool (w ∷ words) (x ∷ parts) far = ap (λ (n : ℕ). suc n) (same_count tool words parts far.1)

-- if words spell parts, so does each
pub each_part : (tool : Tool) (words : List (List ℕ)) (parts : List Part) (i : ℕ) (word : List ℕ) (wrong : Wrong) → AllZip (SpellsPart tool) words parts → i < length words → word ≡ get_or words i word
    → ((part : Part) → SpellsPart tool word part → ◌≡◌ {A = Result Part Wrong} (Err wrong) (Ok part)) → ⊥
each_part tool [] parts i word wrong all lt here bad = absurd (omega (arith, lt))
each_part tool (w ∷ words) [] i word wrong all lt here bad = all
each_part tool (w ∷ words) (p ∷ ps) zero word wrong all lt here bad =
    let no = bad p (subst (λ (x : List ℕ). SpellsPart tool x p) (sym here) all.0) in absurd cc
each_part tool (w ∷ words) (p ∷ ps) (suc i) word wrong all lt here bad = each_part tool words ps i word wrong all.1 (omega (arith, lt)) here bad

-- the parts of the words so far, and of the next one
pub next_same : (tool : Tool) (words : List (List ℕ)) (n : ℕ) (kept parts : List Part) (word : List ℕ) (part : Part) → AllZip (SpellsPart tool) words parts → AllZip (IsOnly tool) (take n words) kept → n < length words → word ≡ get_or words n word → IsOnly tool word part
    → (more : List Part) × (parts ≡ kept ++ part ∷ more)
next_same tool [] n kept parts word part all far lt here only = absurd (omega (arith, lt))
next_same tool (w ∷ words) n kept [] word part all far lt here only = absurd all
next_same tool (w ∷ words) zero [] (p ∷ ps) word part all far lt here only =
    (ps, ap (λ (x : Part). x ∷ ps) (sym (only.only p (subst (λ (x : List ℕ). SpellsPart tool x p) (sym here) all.0))))
next_same tool (w ∷ words) zero (k ∷ kept) (p ∷ ps) word part all far lt here only = absurd far
next_same tool (w ∷ words) (suc n) [] (p ∷ ps) word part all far lt here only = absurd far
next_same tool (w ∷ words) (suc n) (k ∷ kept) (p ∷ ps) word part all far lt here only =
    let rest = next_same tool words n kept ps word part all.1 far.1 (omega (arith, lt)) here only in
    (rest.0, ap (λ (xs : List Part). p ∷ xs) rest.1 ∙ ap (λ (x : Part). x ∷ kept ++ part ∷ rest.0) (sym (far.0.only p all.0)))

no_more : (before : List Part) → before ++ [] ≡ before
no_more [] = refl
no_more (x ∷ before) = ap (λ (xs : List Part). x ∷ xs) (no_more before)

one_more : (before kept : List Part) (k : Part) → (before ++ k ∷ []) ++ kept ≡ before ++ k ∷ kept
one_more [] kept k = refl
one_more (x ∷ before) kept k = ap (λ (xs : List Part). x ∷ xs) (one_more before kept k)

-- a part of another rank than those before it
pub apart_next : (before kept : List Part) (part : Part) (more : List Part) → AreApart before (kept ++ part ∷ more) → has_rank (rank_of part) (before ++ kept) ≡ false
apart_next before [] part more apart = ap (has_rank (rank_of part)) (no_more before) ∙ apart.0
apart_next before (k ∷ kept) part more apart = ap (has_rank (rank_of part)) (sym (one_more before kept k)) ∙ apart_next (before ++ k ∷ []) kept part more apart.1

pub apart_push : (before kept : List Part) (part : Part) → AreApart before kept → has_rank (rank_of part) (before ++ kept) ≡ false → AreApart before (kept ++ part ∷ [])
apart_push before [] part apart new = (ap (has_rank (rank_of part)) (sym (no_more before)) ∙ new, tt)
apart_push before (k ∷ kept) part apart new = (apart.0, apart_push (before ++ k ∷ []) kept part apart.1 (ap (has_rank (rank_of part)) (one_more before kept k) ∙ new))

pub same_ok : (a b : Part) → ◌≡◌ {A = Result Part Wrong} (Ok a) (Ok b) → a ≡ b
same_ok a b e = cc

-- what is found of an option is what its result says
pub found_ok : (found part : Part) → ◌≡◌ {A = Option Part} (Some found) (Some part) → ◌≡◌ {A = Result Part Wrong} (Ok found) (Ok part)
found_ok found part e = cc

pub none_ok : (wrong : Wrong) (part : Part) → ◌≡◌ {A = Option Part} None (Some part) → ◌≡◌ {A = Result Part Wrong} (Err wrong) (Ok part)
none_ok wrong part e = absurd cc

pub room : (n : ℕ) (full : Bool) → full ≡ (n == 18) → full ≡ false → n ≤ 18 → n < 18
room n full is other le = grind (arith, nat_tests)

pub no_part : (wrong : Wrong) (part : Part) → ◌≡◌ {A = Result Part Wrong} (Err wrong) (Ok part) → ⊥
no_part wrong part e = absurd cc

took : (n : ℕ) (words : List (List ℕ)) → n ≤ length words → length (take n words) ≡ n
took zero words le = refl
took (suc n) [] le = absurd (omega (arith, le))
took (suc n) (w ∷ words) le = ap (λ (m : ℕ). suc m) (took n words (omega (arith, le)))

-- the first option that is wrong
pub first_wrong : (tool : Tool) (words : List (List ℕ)) (n : ℕ) (kept : List Part) (word : List ℕ) (fault : RuleFault) → n < length words → word ≡ get_or words n word → AllZip (IsOnly tool) (take n words) kept → AreApart [] kept
    → fault.option ≡ length kept + 1 → IsUnspelled tool word fault.wrong ⊎ IsRepeated tool kept word fault.wrong → IsFirstWrong tool words fault
first_wrong tool words n kept word fault lt here far once number bad =
    let spelled = all_spelled tool (take n words) kept far in
    let count : n ≡ length kept = omega (arith, took n words (omega (arith, lt)), same_count tool (take n words) kept spelled) in
    record {
      before = kept;
      word = word;
      number = number;
      in_words = subst (λ (m : ℕ). m < length words) count lt;
      word_is = subst (λ (m : ℕ). word ≡ get_or words m word) count here;
      spelled = subst (λ (m : ℕ). AllZip (SpellsPart tool) (take m words) kept) count spelled;
      once = once;
      bad = bad;
    }
