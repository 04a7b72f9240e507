-- Words of paths, with tags or at a moment, and of sources: what they spell, or their fault.
use Rattle.ele_script.proofs.Basics.{nat_tests, ◌≡◌, ℕ, ◌+◌, ◌<◌, ◌≤◌, ◌==◌, Bool, true, false, List, [], ◌∷◌, length, refl, sym, ap, arith, ◌⊎◌, inl, inr, Option, Some, None, eqb-true, take-append-drop, All-cons, All-nil}
use Rattle.ele_script.proofs.Prelude.{LineFault, Syntax, fault_of_path, fault_of_path_at, path_part, tag_part, IsTaggedWordFault, begins_path, IsSourceFault, of_handle, SpellsSource}
use Rattle.std.specs.List.{cons_option, position_or_len}
use Rattle.std.specs.Prelude.{All, slice_get}
use Rattle.ele_moment.specs.Name.{IsName}
use Rattle.ele_path.specs.Begins.{is_tag_text}
use Rattle.ele_path.specs.FirstFault.{path_fault, piece_fault, piece_faults, piece_faults_from}
use Rattle.ele_path.specs.Path.{SpellsPath, pieces_of}
use Rattle.ele_path.specs.PathAt.{IsMomentFault, SpellsPathAt, tag_at}
use Rattle.ele_path.specs.Tagged.{SpellsTag, SpellsTaggedPath, is_mark}
use Rattle.ele_path.specs.TaggedFault.{IsTagFault, no_moment, no_number, of_path, of_tag}
use Rattle.ele_path.specs.declared.fault.PathAtFault.{PathAtFault}
use Rattle.ele_path.specs.declared.fault.PathAtFault.TheVariants as timed
use Rattle.ele_path.specs.declared.fault.PathFault.{PathFault}
use Rattle.ele_path.specs.declared.fault.PathFault.TheVariants.{BadMoment, BadPath}
use Rattle.ele_path.specs.declared.path_at.PathAt.{PathAt}
use Rattle.ele_path.specs.declared.tagged.Tag.{Tag}
use Rattle.ele_path.specs.declared.tagged.Tag.TheVariants.{At, Now, Number}
use Rattle.ele_path.specs.declared.tagged.TaggedPath.{TaggedPath}
use Rattle.ele_path.proofs.NameBytes.{is_name-decides}
use Rattle.ele_path.proofs.PathsAt.{fault_behind}
use Rattle.ele_path.proofs.Spelled.{spelled, spelled_faultless}
use Rattle.ele_path.proofs.Tags.{tag_begins}
use Rattle.ele_model.specs.declared.event.Source.{Source}
use Rattle.ele_model.specs.declared.event.Source.TheVariants.{Tagged, Of}
use Rattle.ele_script.specs.PathWord.{IsTimedWordFault, of_tagged}
use Rattle.ele_script.proofs.Moments.{dec_moment, dec_number}

-- a piece without a fault, up to its end, is a name
head_passes : (n : ℕ) (piece : List ℕ) (faults : List PathFault) → slice_get (cons_option (piece_fault n piece) faults) 0 ≡ None → (n < 32) × IsName piece × (slice_get faults 0 ≡ None)
head_passes n [] faults none = absurd cc
head_passes n (byte ∷ bytes) faults none = grind (arith, nat_tests, is_name-decides)

-- pieces with no fault are at most 32 names
pieces_pass : (n : ℕ) (pieces : List (List ℕ)) → n ≤ 32 → slice_get (piece_faults_from n pieces) 0 ≡ None → (n + length pieces ≤ 32) × All IsName pieces
pieces_pass n [] few none = (omega (arith, few), All-nil IsName)
pieces_pass n (piece ∷ pieces) few none =
    let head = head_passes n piece (piece_faults_from (n + 1) pieces) none in
    let more = pieces_pass (n + 1) pieces (omega (arith, head.0)) head.2 in
    (omega (arith, more.0), All-cons IsName piece pieces head.1 more.1)

abbrev pub PathMeaning : List ℕ → Type 0
PathMeaning word = ((names : List (List ℕ)) × SpellsPath word names) ⊎ ((fault : PathFault) × (path_fault word ≡ Some fault))

one_byte : (byte : ℕ) (slash : Bool) → (byte == 47) ≡ slash → PathMeaning (byte ∷ [])
one_byte byte true is = inl ([], record { is = record { short = omega arith; named = All-nil IsName }; form = inl (ap (λ (b : ℕ). b ∷ []) (eqb-true byte 47 is), refl) })
one_byte byte false is = inr (BadPath, rw is refl)

behind_slash : (text : List ℕ) → slice_get (piece_faults (pieces_of text)) 0 ≡ None → SpellsPath (47 ∷ text) (pieces_of text)
behind_slash text none =
    let pass = pieces_pass 0 (pieces_of text) (omega arith) none in
    spelled text (pieces_of text) (record { short = omega (arith, pass.0); named = pass.1 }) refl

more_bytes : (byte next : ℕ) (text : List ℕ) (slash : Bool) (fault : Option PathFault) → (byte == 47) ≡ slash → slice_get (piece_faults (pieces_of (next ∷ text))) 0 ≡ fault → PathMeaning (byte ∷ next ∷ text)
more_bytes byte next text false fault is first = inr (BadPath, rw is refl)
more_bytes byte next text true (Some fault) is first = inr (fault, rw is first)
more_bytes byte next text true None is first = inl (pieces_of (next ∷ text), rw (eqb-true byte 47 is) (behind_slash (next ∷ text) first))

pub path_meaning : (word : List ℕ) → PathMeaning word
path_meaning [] = inr (BadPath, refl)
path_meaning (byte ∷ []) = one_byte byte (byte == 47) refl
path_meaning (byte ∷ next ∷ text) = more_bytes byte next text (byte == 47) (slice_get (piece_faults (pieces_of (next ∷ text))) 0) refl refl

mark_is : (mark : ℕ) → is_mark mark ≡ true → (mark ≡ 64) ⊎ (mark ≡ 35)
mark_is mark is = grind (arith, nat_tests)

begun : (mark byte : ℕ) (rest : List ℕ) → mark ≡ byte → mark ∷ rest ≡ byte ∷ rest
begun mark byte rest is = ap (λ (b : ℕ). b ∷ rest) is

tag_meaning : (text : List ℕ) → is_tag_text text ≡ true → ((tag : Tag) × SpellsTag text tag) ⊎ ((fault : PathFault) × IsTagFault text fault)
tag_meaning [] begins = inl (Now, tt)
tag_meaning (mark ∷ rest) begins = elim (mark_is mark begins) [
  | inl at ↦ elim (dec_moment rest) [
    | yes moment ↦ inl (At moment.0, (at, moment.1))
    | no none ↦ inr (BadMoment, no_moment rest (begun mark 64 rest at) (λ m is. none (m, is)) refl)
  ]
  | inr sharp ↦ elim (dec_number rest) [
    | yes number ↦ inl (Number number.0, (sharp, number.1))
    | no none ↦ inr (BadPath, no_number rest (begun mark 35 rest sharp) (λ n is. none (n, is)) refl)
  ]
]

moment_meaning : (text : List ℕ) → is_tag_text text ≡ true → ((moment : Option ℕ) × SpellsTag text (tag_at moment)) ⊎ ((fault : PathAtFault) × IsMomentFault text fault)
moment_meaning [] begins = inl (None, tt)
moment_meaning (mark ∷ rest) begins = elim (mark_is mark begins) [
  | inl at ↦ elim (dec_moment rest) [
    | yes moment ↦ inl (Some moment.0, (at, moment.1))
    | no none ↦ inr (timed.Path BadMoment, (rest, begun mark 64 rest at, no_moment rest (begun mark 64 rest at) (λ m is. none (m, is)) refl))
  ]
  | inr sharp ↦ inr (timed.Numbered, (rest, begun mark 35 rest sharp))
]

parts_are : (word : List ℕ) (value : TaggedPath) → SpellsPath (path_part word) value.path → SpellsTag (tag_part word) value.tag → SpellsTaggedPath word value
parts_are word value path tag =
    record { path_text = path_part word; tag_text = tag_part word; are = sym (take-append-drop (position_or_len is_mark word) word); path = path; tag = tag }

pub tagged_meaning : (word : List ℕ) → ((value : TaggedPath) × SpellsTaggedPath word value) ⊎ ((fault : LineFault) × IsTaggedWordFault word fault)
tagged_meaning word = elim (path_meaning (path_part word)) [
  | inr bad ↦ inr (fault_of_path bad.0, (bad.0, of_path bad.1, refl))
  | inl path ↦ elim (tag_meaning (tag_part word) (tag_begins word)) [
    | inl tag ↦ inl (record { path = path.0; tag = tag.0 }, parts_are word (record { path = path.0; tag = tag.0 }) path.1 tag.1)
    | inr bad ↦ inr (fault_of_path bad.0, (bad.0, of_tag path.0 path.1 bad.1, refl))
  ]
]

pathless : {P : Type 0} (word : List ℕ) (names : List (List ℕ)) (fault : PathFault) → path_fault word ≡ Some fault → SpellsPath word names → P
pathless word names fault bad is = absurd (let none = spelled_faultless word names is in cc)

pub timed_meaning : (word : List ℕ) → ((value : PathAt) × SpellsPathAt word value) ⊎ ((fault : LineFault) × IsTimedWordFault word fault)
timed_meaning word = elim (path_meaning (path_part word)) [
  | inr bad ↦ inr (fault_of_path bad.0, (timed.Path bad.0, (of_path bad.1, λ numbered. pathless (path_part word) numbered.names bad.0 bad.1 numbered.path), refl))
  | inl path ↦ elim (moment_meaning (tag_part word) (tag_begins word)) [
    | inl moment ↦ inl (record { path = path.0; moment = moment.0 }, parts_are word (record { path = path.0; tag = tag_at moment.0 }) path.1 moment.1)
    | inr bad ↦ inr (fault_of_path_at bad.0, (bad.0, fault_behind word path.0 bad.0 path.1 bad.1, refl))
  ]
]

pub source_meaning : (word : List ℕ) → ((source : Source) × SpellsSource word source) ⊎ ((fault : LineFault) × IsSourceFault word fault)
source_meaning word = go (begins_path word) refl where
  go : (slash : Bool) → begins_path word ≡ slash → ((source : Source) × SpellsSource word source) ⊎ ((fault : LineFault) × IsSourceFault word fault)
  go true is = elim (tagged_meaning word) [
    | inl value ↦ inl (Tagged value.0, value.1)
    | inr bad ↦ inr (bad.0, of_tagged is bad.1)
  ]
  go false is = elim (dec_number word) [
    | yes number ↦ inl (Of number.0, number.1)
    | no none ↦ inr (Syntax, of_handle is (λ n is. none (n, is)) refl)
  ]
