-- Single words and their faults.
use Rattle.ele_script.proofs.Basics.{◌≡◌, ℕ, zero, suc, List, [], ◌∷◌, take, position_or_len, true, false, refl, ap, ◌⊎◌, inl, inr, Option, Some, None, Result, Ok, Err, IfOk, OnOk, ok_or}
use Rattle.ele_script.proofs.Prelude.{SpellsNumber, LineFault, NoMemory, Syntax, IsTaggedFault, fault_of_path, IsTaggedWordFault, begins_path, of_handle, NumberWord, HandleWord, VersionWord, MomentWord, EndWord, PathWord, TaggedWord, SourceWord, PolicyWord, IsOfKind, IsWordFault, IsRefused}
use Rattle.ele_script.proofs.Prelude.{bad_word}
use Rattle.std.specs.Prelude.{IfSome}
use Rattle.ele_path.specs.FirstFault.{path_fault}
use Rattle.ele_path.specs.Tagged.{is_mark}
use Rattle.ele_path.specs.TaggedFault.{of_path}
use Rattle.ele_path.specs.declared.fault.PathFault.{PathFault}
use Rattle.ele_path.specs.declared.fault.PathFault.TheVariants as path
use Rattle.ele_moment.specs.Spelled.{SpellsMoment}
use Rattle.ele_printer.specs.declared.fault.LineFault.TheVariants.{BadMoment, BadPath}
use Rattle.ele_script.specs.Value.{Number, Handle, Version, Moment, End}

-- a word that was read as a number is of that kind
pub number_kind : (word : List ℕ) (read : Option ℕ) → IfSome read (SpellsNumber word) → OnOk (ok_or read Syntax) (IsOfKind NumberWord word)
number_kind word None is = tt
number_kind word (Some n) is = (Number n, refl, is)

-- and one that was read as a moment
pub moment_kind : (word : List ℕ) (read : Option ℕ) → IfSome read (SpellsMoment word) → OnOk (ok_or read BadMoment) (IsOfKind MomentWord word)
moment_kind word None is = tt
moment_kind word (Some m) is = (Moment m, refl, is)

-- a number may be a handle or a version, and a moment an end
pub handle_kind : (word : List ℕ) (read : Result ℕ LineFault) → IfOk read (SpellsNumber word) → OnOk read (IsOfKind HandleWord word)
handle_kind word (Ok n) is = (Handle n, refl, is)
handle_kind word (Err fault) is = tt

pub version_kind : (word : List ℕ) (read : Result ℕ LineFault) → IfOk read (SpellsNumber word) → OnOk read (IsOfKind VersionWord word)
version_kind word (Ok n) is = (Version n, refl, is)
version_kind word (Err fault) is = tt

pub end_kind : (word : List ℕ) (read : Result ℕ LineFault) → IfOk read (SpellsMoment word) → OnOk read (IsOfKind EndWord word)
end_kind word (Ok m) is = (End m, refl, is)
end_kind word (Err fault) is = tt

-- a path, and a word that is no policy
pub refused_policy : (words : List (List ℕ)) (path word : List ℕ) (fault : LineFault) → words ≡ path ∷ word ∷ [] → IsOfKind PathWord path → IsWordFault PolicyWord word fault → IsRefused true (PathWord ∷ PolicyWord ∷ []) words fault
refused_policy words path word fault are is bad = record { memory = λ none. refl; is = inr (rw are (bad_word refl (inr (is, inl bad)))) }

-- the fault of a path with a tag
pub bad_tagged : (word : List ℕ) (fault : PathFault) → (fault ≡ path.NoMemory) ⊎ IsTaggedFault word fault → (fault_of_path fault ≡ NoMemory) ⊎ IsTaggedWordFault word (fault_of_path fault)
bad_tagged word fault (inl memory) = inl (ap fault_of_path memory)
bad_tagged word fault (inr bad) = inr (fault, bad, refl)

-- no prefix of a word that doesn't begin with a slash is a path
no_path : (byte : ℕ) (bytes : List ℕ) → begins_path (byte ∷ bytes) ≡ false → path_fault (byte ∷ bytes) ≡ Some path.BadPath
no_path byte [] plain = rw plain refl
no_path byte (next ∷ bytes) plain = rw plain refl

none_cut : (count : ℕ) (word : List ℕ) → begins_path word ≡ false → path_fault (take count word) ≡ Some path.BadPath
none_cut zero word plain = refl
none_cut (suc count) [] plain = refl
none_cut (suc count) (byte ∷ bytes) plain = no_path byte (take count bytes) plain

pub no_slash : (word : List ℕ) → begins_path word ≡ false → IsWordFault TaggedWord word BadPath
no_slash word plain = (path.BadPath, of_path (none_cut (position_or_len is_mark word) word plain), refl)

-- a word of a source that is no handle
pub bad_handle : (word : List ℕ) (fault : LineFault) → begins_path word ≡ false → IsWordFault NumberWord word fault → IsWordFault SourceWord word fault
bad_handle word fault plain bad = of_handle plain (λ handle is. bad.1 (Number handle, refl, is)) bad.0
