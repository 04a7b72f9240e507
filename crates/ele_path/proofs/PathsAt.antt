-- Words of paths at a moment: each one path at one moment, or one fault.
use Rattle.ele_path.proofs.Basics.{◌≡◌, ℕ, get_or, ◌∷◌, List, refl, sym, ap, subst, ◌∙◌, arith, Option, Some, None, Result, Ok, Err}
use Rattle.ele_path.proofs.Words.{OneMeaning, SpellsMoment, PathAtFault, Path, Numbered, PathAt, Now, TaggedPath, SpellsPath, SpellsTag, path_part, tag_part, of_tag, tag_at, SpellsPathAt, IsNumbered, IsMomentFault, IsPathAtFault}
use Rattle.ele_path.proofs.Spelled.{one_path, spelled_faultless}
use Rattle.ele_path.proofs.Tags.{ok_is, spelled_parts}
use Rattle.ele_path.proofs.TaggedFaults.{tagged_faultless, one_tagged_fault}

-- the same path with a tag
abbrev pub tagged_at : PathAt → TaggedPath
tagged_at value = record { path = value.path; tag = tag_at value.moment }

-- a moment after `@` is one
pub moment_only : {E : Type 0} (text rest : List ℕ) (moment : ℕ) → text ≡ 64 ∷ rest → ((m : ℕ) → SpellsMoment rest m → ◌≡◌ {A = Result ℕ E} (Ok moment) (Ok m)) → (other : Option ℕ) → SpellsTag text (tag_at other) → ◌≡◌ {A = Result (Option ℕ) PathAtFault} (Ok (Some moment)) (Ok other)
moment_only text rest moment is only None h = absurd (subst (λ text. SpellsTag text Now) is h)
moment_only text rest moment is only (Some m) h =
    ap (λ m. Ok (Some m)) (ok_is (only m (subst (λ text. SpellsTag text (tag_at (Some m))) is h).1))

-- what is a moment's text, or none, does not begin with `#`
unnumbered : (word : List ℕ) (value : PathAt) → SpellsPathAt word value → IsNumbered word → ⊥
unnumbered word value h numbered = sharp value.moment (subst (λ text. SpellsTag text (tag_at value.moment)) numbered.tag (spelled_parts word (tagged_at value) h).1) where
  sharp : (moment : Option ℕ) → SpellsTag (35 ∷ numbered.rest) (tag_at moment) → ⊥
  sharp None h = h
  sharp (Some m) h = absurd (omega (arith, h.0))

-- a word that spells a path at a moment has no fault
at_faultless : (word : List ℕ) (value : PathAt) (fault : PathAtFault) → SpellsPathAt word value → IsPathAtFault word fault → ⊥
at_faultless word value Numbered h bad = unnumbered word value h bad
at_faultless word value (Path fault) h bad = tagged_faultless word (tagged_at value) fault h bad.0

-- and a word has one fault
one_at_fault : (word : List ℕ) (a b : PathAtFault) → IsPathAtFault word a → IsPathAtFault word b → a ≡ b
one_at_fault word Numbered Numbered x y = refl
one_at_fault word Numbered (Path b) x y = absurd (y.1 x)
one_at_fault word (Path a) Numbered x y = absurd (x.1 y)
one_at_fault word (Path a) (Path b) x y = ap Path (one_tagged_fault word a b x.0 y.0)

pub one_meaning : OneMeaning
one_meaning = record { one_path = one_path; faultless_path = spelled_faultless; tagged_parts = spelled_parts; faultless_tagged = tagged_faultless; one_tagged_fault = one_tagged_fault; faultless_at = at_faultless; one_at_fault = one_at_fault }

-- the fault after a path
pub fault_behind : (word : List ℕ) (names : List (List ℕ)) (fault : PathAtFault) → SpellsPath (path_part word) names → IsMomentFault (tag_part word) fault → IsPathAtFault word fault
fault_behind word names Numbered path bad = record { names = names; rest = bad.0; path = path; tag = bad.1 }
fault_behind word names (Path fault) path bad = (of_tag names path bad.2, λ numbered. absurd (omega (arith, ap (λ text. get_or text 0 0) (sym bad.1 ∙ numbered.tag))))

-- the parts of a word are what it spells
pub one_at : (word : List ℕ) (value : PathAt) (names : List (List ℕ)) (moment : Option ℕ) → SpellsPathAt word value → SpellsPath (path_part word) names → ((m : Option ℕ) → SpellsTag (tag_part word) (tag_at m) → ◌≡◌ {A = Result (Option ℕ) PathAtFault} (Ok moment) (Ok m)) → ◌≡◌ {A = PathAt} (record { path = names; moment = moment }) value
one_at word value names moment h path only =
    let parts = spelled_parts word (tagged_at value) h in
    let same_path = one_path (path_part word) names value.path path parts.0 in
    let same_moment = ok_is (only value.moment parts.1) in
    λ i. record { path = same_path i; moment = same_moment i }

pub no_moment_fault : (word : List ℕ) (value : PathAt) (fault : PathAtFault) → SpellsPathAt word value → ((m : Option ℕ) → SpellsTag (tag_part word) (tag_at m) → ◌≡◌ {A = Result (Option ℕ) PathAtFault} (Err fault) (Ok m)) → ⊥
no_moment_fault word value fault h only = let read = only value.moment (spelled_parts word (tagged_at value) h).1 in cc
