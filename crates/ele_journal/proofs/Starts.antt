-- How a journal begins, and what is read of it.
use Rattle.std.proofs.Common.{◌≡◌, ℕ, ◌+◌, ◌-◌, ◌<◌, ◌≤◌, ◌^◌, List, [], ◌∷◌, ◌++◌, length, take, drop, get_or, Result, Err, refl, sym, ap, subst, ◌∙◌, append_assoc, arith, inl, inr}
use Rattle.std.specs.Int.{w64, to_be_bytes}
use Rattle.std.proofs.lemmas.Bool.{cases_lt}
use Rattle.std.proofs.lemmas.List.{append-nil, append_cancel_left, take_at, drop_at, take-append-drop, length-append, length-take, length-drop, get_or-take, get_or_past}
use Rattle.ele_model.specs.declared.flat.Flat.{Flat}
use Rattle.ele_checkpoint.specs.declared.fault.Fault.{Fault}
use Rattle.ele_checkpoint.specs.declared.fault.ReadError.{ReadError}
use Rattle.ele_checkpoint.specs.declared.fault.ReadError.TheVariants as read_errors
use Rattle.ele_checkpoint.specs.Checkpoint.{IsRead, checkpoint, measured}
use Rattle.ele_checkpoint.specs.Checkpoint.{head as checkpoint_head}
use Rattle.ele_checkpoint.specs.Whole.{whole_text}
use Rattle.ele_checkpoint.specs.Fits.{IsFlat}
use Rattle.ele_journal.specs.declared.fault.RecoverError.{RecoverError}
use Rattle.ele_journal.specs.declared.fault.RecoverError.TheVariants as errors
use Rattle.ele_journal.specs.Recovered.{IsUnread}
use Rattle.ele_journal.specs.Changes.{check_of}
use Rattle.ele_journal.specs.Journal.{first_check, framed, head}
use Rattle.ele_journal.proofs.Changes.{four, longer, one_size}
use Rattle.ele_journal.proofs.Journals.{framed_once, heading}

pub bytes_taken : (n : ℕ) (bytes : List ℕ) → ((i : ℕ) → get_or bytes i 0 < 256) → (i : ℕ) → get_or (take n bytes) i 0 < 256
bytes_taken n bytes small i =
    elim (cases_lt i n) [
      | inl lt ↦ rw (get_or-take n bytes i 0 lt) (small i)
      | inr le ↦ rw (get_or_past (take n bytes) i 0 (omega (arith, length-take n bytes))) (omega arith)
    ]

-- bytes after the head that begin by the length of those that follow
pub start_found : (bytes rest tail cp after : List ℕ) (size : ℕ) → bytes ≡ head ++ rest → 8 ≤ length rest → tail ≡ drop 8 rest → to_be_bytes w64 size ≡ take 8 rest → size ≤ length tail → cp ≡ take size tail → after ≡ drop size tail → bytes ≡ framed cp ++ after
start_found bytes rest tail cp after size begins long behind is le first last =
    let size_is : length cp ≡ size = ap length first ∙ omega (arith, length-take size tail, le) in
    let sized : take 8 rest ≡ to_be_bytes w64 (length cp) = sym is ∙ ap (to_be_bytes w64) (sym size_is) in
    let parts : rest ≡ to_be_bytes w64 (length cp) ++ (cp ++ after) =
    sym (take-append-drop 8 rest) ∙ ap (λ (t : List ℕ). t ++ drop 8 rest) sized ∙ ap (λ (t : List ℕ). to_be_bytes w64 (length cp) ++ t) (sym behind ∙ sym (rw (first, last) (take-append-drop size tail))) in
    begins ∙ ap (λ (t : List ℕ). head ++ t) parts ∙ sym (append_assoc head (to_be_bytes w64 (length cp)) (cp ++ after)) ∙ sym (append_assoc (heading cp) cp after)

-- what follows the head of framed bytes
pub after_head : (bytes rest cp after : List ℕ) → bytes ≡ head ++ rest → bytes ≡ framed cp ++ after → rest ≡ to_be_bytes w64 (length cp) ++ (cp ++ after)
after_head bytes rest cp after begins e =
    append_cancel_left head rest (to_be_bytes w64 (length cp) ++ (cp ++ after)) (sym begins ∙ e ∙ append_assoc (heading cp) cp after ∙ append_assoc head (to_be_bytes w64 (length cp)) (cp ++ after))

pub framed_head : (bytes cp after : List ℕ) → bytes ≡ framed cp ++ after → bytes ≡ head ++ (to_be_bytes w64 (length cp) ++ (cp ++ after))
framed_head bytes cp after e = e ∙ append_assoc (heading cp) cp after ∙ append_assoc head (to_be_bytes w64 (length cp)) (cp ++ after)

pub not_short : (bytes rest cp after : List ℕ) → bytes ≡ head ++ rest → length rest < 8 → bytes ≡ framed cp ++ after → ⊥
not_short bytes rest cp after begins few e =
    let eight : length (to_be_bytes w64 (length cp)) ≡ 8 = refl in
    omega (arith, ap length (after_head bytes rest cp after begins e), length-append (to_be_bytes w64 (length cp)) (cp ++ after), eight)

pub not_cut : (bytes rest tail cp after : List ℕ) (size : ℕ) → bytes ≡ head ++ rest → tail ≡ drop 8 rest → to_be_bytes w64 size ≡ take 8 rest → size < 2 ^ 64 → length tail < size → length cp < 2 ^ 64 → bytes ≡ framed cp ++ after → ⊥
not_cut bytes rest tail cp after size begins behind is small few fits e =
    let sized = to_be_bytes w64 (length cp) in
    let parts : rest ≡ sized ++ (cp ++ after) = after_head bytes rest cp after begins e in
    let same : size ≡ length cp = one_size size (length cp) small fits (is ∙ ap (take 8) parts ∙ take_at sized (cp ++ after) 8 refl) in
    let follows : tail ≡ cp ++ after = behind ∙ ap (drop 8) parts ∙ drop_at sized (cp ++ after) 8 refl in
    omega (arith, ap length follows, length-append cp after)

-- framed bytes that were cut don't begin with framed bytes
pub not_whole : (bytes cp after own more : List ℕ) → bytes ≡ framed own ++ after → length own < 2 ^ 64 → length cp < 2 ^ 64 → bytes ++ more ≡ framed cp → length bytes < length (framed cp) → ⊥
not_whole bytes cp after own more begins small small' e lt =
    let whole : framed own ++ (after ++ more) ≡ framed cp ++ [] = sym (append_assoc (framed own) after more) ∙ ap (λ (t : List ℕ). t ++ more) (sym begins) ∙ e ∙ sym (append-nil (framed cp)) in
    let once = framed_once own cp (after ++ more) [] small small' whole in
    omega (arith, ap length begins, length-append (framed own) after, ap (λ (b : List ℕ). length (framed b)) once.same)

-- bytes that were cut after the head have it at the front
pub has_head : (bytes more rest : List ℕ) → bytes ++ more ≡ head ++ rest → 17 ≤ length bytes → bytes ≡ head ++ drop 17 bytes
has_head bytes more rest e long = longer bytes more head rest e long

-- ---- why nothing is read

pub short_head : (bytes : List ℕ) → length bytes < 17 → IsUnread bytes errors.Cut
short_head bytes few = inl few

pub other_head : (bytes : List ℕ) → 17 ≤ length bytes → ((rest : List ℕ) → bytes ≡ head ++ rest → ⊥) → IsUnread bytes errors.Head
other_head bytes long none = (long, none)

pub short_length : (bytes rest : List ℕ) → bytes ≡ head ++ rest → length rest < 8 → IsUnread bytes errors.Cut
short_length bytes rest begins few = inr (rest, begins, inl few)

pub short_checkpoint : (bytes rest tail : List ℕ) (size : ℕ) → bytes ≡ head ++ rest → tail ≡ drop 8 rest → to_be_bytes w64 size ≡ take 8 rest → size < 2 ^ 64 → length tail < size → IsUnread bytes errors.Cut
short_checkpoint bytes rest tail size begins behind is small few =
    let parts : rest ≡ to_be_bytes w64 size ++ tail = sym (take-append-drop 8 rest) ∙ ap (λ (t : List ℕ). t ++ drop 8 rest) (sym is) ∙ ap (λ (t : List ℕ). to_be_bytes w64 size ++ t) (sym behind) in
    inr (rest, begins, inr (size, tail, small, parts, few))

pub no_world : (bytes cp after : List ℕ) (fault : Fault) → bytes ≡ framed cp ++ after → ((flat : Flat) → IsFlat flat → cp ≡ checkpoint flat → ⊥) → IsUnread bytes (errors.Checkpoint fault)
no_world bytes cp after fault begins none = record { body = cp; after = after; text = begins; none = none }

-- the last four bytes of a checkpoint
pub last_is : (flat : Flat) (cp : List ℕ) → cp ≡ checkpoint flat → drop (length cp - 4) cp ≡ first_check flat
unfolding check_of
last_is flat cp is =
    let summed = measured (checkpoint_head ++ whole_text flat) in
    let parts : cp ≡ summed ++ first_check flat = is in
    let long : length summed ≡ length cp - 4 = omega (arith, ap length parts, length-append summed (first_check flat), four summed) in
    ap (drop (length cp - 4)) parts ∙ drop_at summed (first_check flat) (length cp - 4) long

-- one error in place of results of two types
pub retyped : {X Y : Type 0} (a b : RecoverError) → ◌≡◌ {A = Result X RecoverError} (Err a) (Err b) → ◌≡◌ {A = Result Y RecoverError} (Err a) (Err b)
retyped a b e = let same : a ≡ b = cc in ap Err same

-- a flat world's bytes are no fault
pub no_fault_of : (flat : Flat) (error : ReadError) (fault : Fault) → error ≡ read_errors.Fault fault → IsRead flat (Err error) → ⊥
no_fault_of flat error fault is held = subst (λ (e : ReadError). IsRead flat (Err e)) is held
