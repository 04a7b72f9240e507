-- What is returned for a journal in which one byte was changed.
use Rattle.std.proofs.Common.{◌≡◌, ℕ, ◌+◌, ◌-◌, ◌<◌, ◌≤◌, ◌^◌, List, [], ◌∷◌, ◌++◌, length, take, Some, Result, Ok, Err, refl, sym, ap, subst, ◌∙◌, append_assoc, arith, inl, inr}
use Rattle.std.specs.Prelude.{IfOk, IfErr}
use Rattle.std.specs.Int.{w64, to_be_bytes}
use Rattle.std.proofs.lemmas.List.{append_cancel_left, take_at, length-append}
use Rattle.ele_model.specs.declared.event.Event.{Event}
use Rattle.ele_model.specs.declared.flat.Flat.{Flat}
use Rattle.ele_checkpoint.specs.Checkpoint.{checkpoint}
use Rattle.ele_checkpoint.specs.Sum.{AreBytes}
use Rattle.ele_journal.specs.declared.fault.Fault.TheVariants as faults
use Rattle.ele_journal.specs.declared.fault.RecoverError.{RecoverError}
use Rattle.ele_journal.specs.declared.fault.RecoverError.TheVariants as errors
use Rattle.ele_journal.specs.declared.recovery.Recovered.{Recovered}
use Rattle.ele_journal.specs.Changed.{IsChangedAt, IsNoticed, IsUpTo, damage_at}
use Rattle.ele_journal.specs.Changes.{AreChanges, changes_text, last_check}
use Rattle.ele_journal.specs.ChangesRead.{IsInside}
use Rattle.ele_journal.specs.Journal.{IsBase, first_check, head, journal, start}
use Rattle.ele_journal.specs.Recovered.{IsEnd, IsShortOf, IsUnread}
use Rattle.ele_journal.proofs.Changed.{no_start, up_to}
use Rattle.ele_journal.proofs.Changes.{one_size}
use Rattle.ele_journal.proofs.Differing.{Differs, check_bytes, differs, differs_length, in_first, in_second, not_same, split}
use Rattle.ele_journal.proofs.Journals.{framed_once, heading}
use Rattle.ele_journal.proofs.Starts.{framed_head}

-- ---- a world and changes

first_bytes : (flat : Flat) → AreBytes (first_check flat)
first_bytes flat = check_bytes _

in_changes : (bytes others : List ℕ) (r : Recovered) (flat : Flat) (changes : List (List Event)) (place : ℕ) → IsInside bytes r → IsBase flat → AreChanges changes → length bytes < 2 ^ 64 → bytes ≡ start flat ++ others → length (start flat) ≤ place
    → Differs (place - length (start flat)) (changes_text (first_check flat) changes) others → IsUpTo flat changes place r
in_changes bytes others r flat changes place i base are small is le d =
    let own = changes_text (first_check r.flat) r.changes in
    let first = first_check flat in
    let read : start r.flat ++ (own ++ i.rest) ≡ start flat ++ others = sym (append_assoc (start r.flat) own i.rest) ∙ sym i.text ∙ is in
    let once = framed_once (checkpoint r.flat) (checkpoint flat) (own ++ i.rest) others i.fits base.fits read in
    let world : r.flat ≡ flat = i.only flat base.world once.same in
    let text : others ≡ changes_text first r.changes ++ i.rest = sym once.rest ∙ ap (λ (f : Flat). changes_text (first_check f) r.changes ++ i.rest) world in
    let check : r.check ≡ last_check first r.changes = i.check ∙ ap (λ (f : Flat). last_check (first_check f) r.changes) world in
    let end : IsEnd (last_check first r.changes) i.rest r.fault = subst (λ (b : List ℕ). IsEnd b i.rest r.fault) check i.end in
    let few : length others < 2 ^ 64 = omega (arith, ap length is, length-append (start flat) others) in
    let u = up_to first r.changes changes i.rest others (place - length (start flat)) r.fault (first_bytes flat) i.read are d few text end in
    let whole : r.whole ≡ length (start flat) + length (changes_text first r.changes) = i.whole ∙ ap (λ (f : Flat). length (journal f r.changes)) world ∙ length-append (start flat) (changes_text first r.changes) in
    let from = u.from in
    let within = u.within in
    let same : place - length (start flat) - length (changes_text first r.changes) ≡ place - r.whole = omega arith in
    record {
      world = world;
      change = u.change;
      others = u.others;
      front = u.front;
      from = omega arith;
      within = omega (arith, length-append (start flat) (changes_text first (r.changes ++ u.change ∷ [])));
      fault = u.fault_is ∙ ap (λ (n : ℕ). Some (faults.Damaged (damage_at n))) same;
    }

is_up_to : (bytes : List ℕ) (r : Recovered) (flat : Flat) (changes : List (List Event)) (place : ℕ) → IsInside bytes r → IsBase flat → AreChanges changes → length bytes < 2 ^ 64 → Differs place (journal flat changes) bytes → IsUpTo flat changes place r
is_up_to bytes r flat changes place i base are small d =
    let after = changes_text (first_check flat) changes in
    let own = changes_text (first_check r.flat) r.changes in
    elim (split place (start flat) after bytes d) [
      | in_first text is lt d' ↦ absurd (no_start place flat r.flat text after (own ++ i.rest) base.fits i.fits (λ x y e. i.alone flat x y base.world e) d' (sym is ∙ i.text ∙ append_assoc (start r.flat) own i.rest))
      | in_second others is le d' ↦ in_changes bytes others r flat changes place i base are small is le d'
    ]

-- ---- errors

-- a journal after its head
abbrev after_head : Flat → List (List Event) → List ℕ
after_head flat changes = to_be_bytes w64 (length (checkpoint flat)) ++ (checkpoint flat ++ changes_text (first_check flat) changes)

headed : (flat : Flat) (changes : List (List Event)) → journal flat changes ≡ head ++ after_head flat changes
headed flat changes =
    append_assoc (heading (checkpoint flat)) (checkpoint flat) (changes_text (first_check flat) changes) ∙ append_assoc head (to_be_bytes w64 (length (checkpoint flat))) (checkpoint flat ++ changes_text (first_check flat) changes)

-- the head is there, so the place lies after it
record IsAfter (flat : Flat) (changes : List (List Event)) (place : ℕ) (rest : List ℕ) : Type 0 where
  pub from : 17 ≤ place
  pub differ : Differs (place - 17) (after_head flat changes) rest

seventeen : length head ≡ 17
seventeen = refl

is_after : (bytes rest : List ℕ) (flat : Flat) (changes : List (List Event)) (place : ℕ) → Differs place (journal flat changes) bytes → bytes ≡ head ++ rest → IsAfter flat changes place rest
is_after bytes rest flat changes place d e =
    elim (split place head (after_head flat changes) bytes (subst (λ (t : List ℕ). Differs place t bytes) (headed flat changes) d)) [
      | in_first other is lt d' ↦
          let long : length other ≡ length head = differs_length place head other d' in
          absurd (not_same place head other d' (sym (take_at head rest 17 refl) ∙ ap (take 17) (sym e ∙ is) ∙ take_at other (after_head flat changes) 17 long))
      | in_second others is le d' ↦ record { from = le; differ = subst (λ (t : List ℕ). Differs (place - 17) (after_head flat changes) t) (append_cancel_left head others rest (sym is ∙ e)) d' }
    ]

in_head : (bytes : List ℕ) (flat : Flat) (changes : List (List Event)) (place : ℕ) → Differs place (journal flat changes) bytes → ((rest : List ℕ) → bytes ≡ head ++ rest → ⊥) → place < 17
in_head bytes flat changes place d none =
    elim (split place head (after_head flat changes) bytes (subst (λ (t : List ℕ). Differs place t bytes) (headed flat changes) d)) [
      | in_first other is lt d' ↦ lt
      | in_second others is le d' ↦ absurd (none others is)
    ]

in_length : (rest : List ℕ) (flat : Flat) (changes : List (List Event)) (place : ℕ) → IsBase flat → IsAfter flat changes place rest → IsShortOf rest → place < 25
in_length rest flat changes place base a short =
    let cp = checkpoint flat in
    let after = changes_text (first_check flat) changes in
    let size = to_be_bytes w64 (length cp) in
    let eight : length size ≡ 8 = refl in
    let from = a.from in
    elim (split (place - 17) size (cp ++ after) rest a.differ) [
      | in_first other is lt d' ↦ omega arith
      | in_second others is le d' ↦
          let long : length others ≡ length cp + length after = differs_length (place - 17 - length size) (cp ++ after) others d' ∙ length-append cp after in
          elim short [
            | inl few ↦ absurd (omega (arith, ap length is, length-append size others))
            | inr t ↦
                let parts : to_be_bytes w64 t.0 ++ t.1 ≡ size ++ others = sym t.3 ∙ is in
                let heads : to_be_bytes w64 t.0 ≡ size = sym (take_at (to_be_bytes w64 t.0) t.1 8 refl) ∙ ap (take 8) parts ∙ take_at size others 8 refl in
                let same : t.0 ≡ length cp = one_size t.0 (length cp) t.2 base.fits heads in
                let rests : t.1 ≡ others = append_cancel_left size t.1 others (ap (λ (s : List ℕ). s ++ t.1) (sym heads) ∙ parts) in
                let lt = t.4 in
                absurd (omega (arith, ap length rests))
          ]
    ]

in_checkpoint : (bytes : List ℕ) (flat : Flat) (changes : List (List Event)) (place : ℕ) → Differs place (journal flat changes) bytes → ((after : List ℕ) → bytes ≡ start flat ++ after → ⊥) → place < length (start flat)
in_checkpoint bytes flat changes place d none =
    elim (split place (start flat) (changes_text (first_check flat) changes) bytes d) [
      | in_first other is lt d' ↦ lt
      | in_second others is le d' ↦ absurd (none others is)
    ]

at_least : (flat : Flat) (changes : List (List Event)) → 17 ≤ length (journal flat changes)
at_least flat changes = omega (arith, ap length (headed flat changes), length-append head (after_head flat changes), seventeen)

no_read : (bytes : List ℕ) (error : RecoverError) (flat : Flat) (changes : List (List Event)) (place : ℕ) → IsUnread bytes error → ((after : List ℕ) → bytes ≡ start flat ++ after → error ≡ errors.NoMemory) → IsBase flat → Differs place (journal flat changes) bytes
    → IsNoticed flat changes place (Err error)
no_read bytes errors.NoMemory flat changes place why begun base d = tt
no_read bytes errors.Head flat changes place why begun base d = in_head bytes flat changes place d why.1
no_read bytes errors.Cut flat changes place (inl few) begun base d =
    absurd (omega (arith, differs_length place (journal flat changes) bytes d, at_least flat changes))
no_read bytes errors.Cut flat changes place (inr t) begun base d =
    let a = is_after bytes t.0 flat changes place d t.1 in
    (a.from, in_length t.0 flat changes place base a t.2)
no_read bytes (errors.Checkpoint fault) flat changes place why begun base d =
    let a = is_after bytes (to_be_bytes w64 (length why.body) ++ (why.body ++ why.after)) flat changes place d (framed_head bytes why.body why.after why.text) in
    (a.from, in_checkpoint bytes flat changes place d (λ after e. let memory = begun after e in cc))

-- ---- both

pub is_noticed : (bytes : List ℕ) (result : Result Recovered RecoverError) (flat : Flat) (changes : List (List Event)) (place : ℕ) → IfOk result (IsInside bytes)
    → IfErr result (λ error. (flat : Flat) (after : List ℕ) → IsBase flat → bytes ≡ start flat ++ after → error ≡ errors.NoMemory)
    → IfErr result (IsUnread bytes) → IsBase flat → AreChanges changes → AreBytes bytes → length bytes < 2 ^ 64 → IsChangedAt place (journal flat changes) bytes → IsNoticed flat changes place result
is_noticed bytes (Ok r) flat changes place ok begun why base are bytes_are small c = is_up_to bytes r flat changes place ok base are small (differs place (journal flat changes) bytes c bytes_are)
is_noticed bytes (Err error) flat changes place ok begun why base are bytes_are small c = no_read bytes error flat changes place why (λ after e. begun flat after base e) base (differs place (journal flat changes) bytes c bytes_are)
