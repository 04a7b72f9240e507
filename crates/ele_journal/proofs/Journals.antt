-- What was read is recovered, and of a journal that was cut exactly the changes that are whole.
use Rattle.std.proofs.Common.{◌≡◌, ℕ, ◌+◌, ◌-◌, ◌<◌, ◌≤◌, ◌^◌, List, [], ◌∷◌, ◌++◌, length, take, drop, Option, Some, None, Result, Ok, Err, refl, sym, ap, subst, ◌∙◌, append_assoc, arith, inl, inr}
use Rattle.std.specs.Prelude.{IfOk, IfErr}
use Rattle.std.specs.Int.{w64, to_be_bytes}
use Rattle.std.specs.List.{AllByRecursion}
use Rattle.std.proofs.lemmas.List.{append-nil, append_cancel_left, take_at, drop_at, length-append, length-drop}
use Rattle.ele_model.specs.declared.event.Event.{Event}
use Rattle.ele_model.specs.declared.flat.Flat.{Flat}
use Rattle.ele_checkpoint.specs.Checkpoint.{checkpoint, measured}
use Rattle.ele_checkpoint.specs.Checkpoint.{head as checkpoint_head}
use Rattle.ele_checkpoint.specs.Fits.{IsFlat}
use Rattle.ele_checkpoint.specs.Whole.{whole_text}
use Rattle.ele_journal.specs.declared.fault.Fault.{Fault}
use Rattle.ele_journal.specs.declared.fault.Fault.TheVariants as faults
use Rattle.ele_journal.specs.declared.fault.RecoverError.{RecoverError}
use Rattle.ele_journal.specs.declared.fault.RecoverError.TheVariants as errors
use Rattle.ele_journal.specs.declared.recovery.Recovered.{Recovered}
use Rattle.ele_journal.specs.Changes.{AreChanges, IsEncodable, change_text, changes_text, check_of, last_check}
use Rattle.ele_journal.specs.ChangesRead.{IsFound, IsInside, IsReadChange}
use Rattle.ele_journal.specs.Journal.{IsBase, first_check, framed, head, journal, start}
use Rattle.ele_journal.specs.Recovered.{IsAll, IsCutAt, IsCutWithin, IsEnd, IsKept, IsRecovered, IsShort}
use Rattle.ele_journal.proofs.Changes.{ended, events_take, follow, four, longer, one_size, text_append, text_push, undamaged}

-- ---- the beginning

abbrev pub heading : List ℕ → List ℕ
heading bytes = head ++ to_be_bytes w64 (length bytes)

pub heading_length : (bytes : List ℕ) → length (heading bytes) ≡ 25
heading_length bytes = refl

pub framed_parts : (bytes x : List ℕ) → framed bytes ++ x ≡ heading bytes ++ (bytes ++ x)
framed_parts bytes x = append_assoc (heading bytes) bytes x

pub record Once (a b x y : List ℕ) : Type 0 where
  pub same : a ≡ b
  pub rest : x ≡ y

pub framed_once : (a b x y : List ℕ) → length a < 2 ^ 64 → length b < 2 ^ 64 → framed a ++ x ≡ framed b ++ y → Once a b x y
framed_once a b x y small small' e =
    let whole : heading a ++ (a ++ x) ≡ heading b ++ (b ++ y) = sym (framed_parts a x) ∙ e ∙ framed_parts b y in
    let fronts : heading a ≡ heading b = sym (take_at (heading a) (a ++ x) 25 (heading_length a)) ∙ ap (take 25) whole ∙ take_at (heading b) (b ++ y) 25 (heading_length b) in
    let tails : a ++ x ≡ b ++ y = sym (drop_at (heading a) (a ++ x) 25 (heading_length a)) ∙ ap (drop 25) whole ∙ drop_at (heading b) (b ++ y) 25 (heading_length b) in
    let long : length a ≡ length b = one_size (length a) (length b) small small' (append_cancel_left head (to_be_bytes w64 (length a)) (to_be_bytes w64 (length b)) fronts) in
    let same : a ≡ b = sym (take_at a x (length b) long) ∙ ap (take (length b)) tails ∙ take_at b y (length b) refl in
    record { same = same; rest = append_cancel_left b x y (ap (λ (t : List ℕ). t ++ x) (sym same) ∙ tails) }

-- the last four bytes of the checkpoint are the check that the first change follows
pub start_parts : (flat : Flat) (after : List ℕ) → start flat ++ after ≡ (heading (checkpoint flat) ++ measured (checkpoint_head ++ whole_text flat)) ++ (first_check flat ++ after)
unfolding check_of
start_parts flat after =
    let m = measured (checkpoint_head ++ whole_text flat) in
    ap (λ (t : List ℕ). t ++ after) (sym (append_assoc (heading (checkpoint flat)) m (first_check flat))) ∙ append_assoc (heading (checkpoint flat) ++ m) (first_check flat) after

pub first_four : (flat : Flat) → length (first_check flat) ≡ 4
first_four flat = four (measured (checkpoint_head ++ whole_text flat))

pub at_check : (flat : Flat) (bytes after : List ℕ) → bytes ≡ start flat ++ after → drop (length bytes - length after - 4) bytes ≡ first_check flat ++ after
at_check flat bytes after is =
    let begin : List ℕ = heading (checkpoint flat) ++ measured (checkpoint_head ++ whole_text flat) in
    let parts : bytes ≡ begin ++ (first_check flat ++ after) = is ∙ start_parts flat after in
    let long : length begin ≡ length bytes - length after - 4 = omega (arith, ap length parts, length-append begin (first_check flat ++ after), length-append (first_check flat) after, first_four flat) in
    ap (drop (length bytes - length after - 4)) parts ∙ drop_at begin (first_check flat ++ after) (length bytes - length after - 4) long

-- ---- what was read is inside

pub inside : (bytes cp after linked left : List ℕ) (r : Recovered) → bytes ≡ framed cp ++ after → length cp < 2 ^ 64 → cp ≡ checkpoint r.flat
    → ((flat : Flat) → IsFlat flat → cp ≡ checkpoint flat → r.flat ≡ flat) → ((flat : Flat) (after more : List ℕ) → IsFlat flat → cp ++ after ≡ checkpoint flat ++ more → r.flat ≡ flat) → linked ≡ drop (length bytes - length after - 4) bytes → IsFound linked r.changes left r.fault
    → r.whole ≡ length bytes - length left + 4 → r.check ≡ take 4 left → length left ≤ length bytes → IsInside bytes r
inside bytes cp after linked left r begins small is only alone at found whole check le =
    let first = first_check r.flat in
    let starts : bytes ≡ start r.flat ++ after = begins ∙ ap (λ (c : List ℕ). framed c ++ after) is in
    let parts : linked ≡ first ++ after = at ∙ at_check r.flat bytes after starts in
    let before : take 4 linked ≡ first = ap (take 4) parts ∙ take_at first after 4 (first_four r.flat) in
    let text : drop 4 linked ≡ after = ap (drop 4) parts ∙ drop_at first after 4 (first_four r.flat) in
    let reads = found.reads in
    let all : after ≡ changes_text first r.changes ++ drop 4 left = sym text ∙ reads.text ∙ ap (λ (b : List ℕ). changes_text b r.changes ++ drop 4 left) before in
    let all_text : bytes ≡ journal r.flat r.changes ++ drop 4 left = starts ∙ ap (λ (t : List ℕ). start r.flat ++ t) all ∙ sym (append_assoc (start r.flat) (changes_text first r.changes) (drop 4 left)) in
    let long = reads.long in
    record {
      rest = drop 4 left;
      text = all_text;
      whole = omega (arith, whole, ap length all_text, length-append (journal r.flat r.changes) (drop 4 left), length-drop 4 left, long, le);
      check = check ∙ reads.check ∙ ap (λ (b : List ℕ). last_check b r.changes) before;
      read = reads.read;
      end = subst (λ (b : List ℕ). IsEnd b (drop 4 left) r.fault) (sym check) found.end;
      fits = subst (λ (c : List ℕ). length c < 2 ^ 64) is small;
      only = λ flat fits e. only flat fits (is ∙ e);
      alone = λ flat after more fits e. alone flat after more fits (ap (λ (c : List ℕ). c ++ after) is ∙ e);
    }

-- ---- what is inside was recovered

encodable : (changes : List (List Event)) → AllByRecursion IsReadChange changes → AllByRecursion IsEncodable changes
encodable [] all = tt
encodable (change ∷ changes) all = ((events_take _ change all.0.read).encodable, encodable changes all.1)

pub is_recovered : (bytes : List ℕ) (r : Recovered) → IsInside bytes r → IsRecovered bytes r
is_recovered bytes r i =
    record {
      front = ap (take r.whole) i.text ∙ take_at (journal r.flat r.changes) i.rest r.whole (sym i.whole);
      whole = i.whole;
      within = omega (arith, i.whole, ap length i.text, length-append (journal r.flat r.changes) i.rest);
      encodable = encodable r.changes i.read;
      check = i.check;
      end = subst (λ (t : List ℕ). IsEnd r.check t r.fault) (sym (ap (drop r.whole) i.text ∙ drop_at (journal r.flat r.changes) i.rest r.whole (sym i.whole))) i.end;
    }

-- ---- cuts

cut_at : (before rest more : List ℕ) (whole n : ℕ) (fault : Option Fault) (others : List (List Event)) → AreChanges others → IsEnd before rest fault → rest ++ more ≡ changes_text before others → n ≡ whole + length rest → IsCutAt whole n fault
cut_at before rest more whole n None others are end e is = omega (arith, is, ap length end)
cut_at before rest more whole n (Some faults.Cut) others are end e is = let some = end.some in omega arith
cut_at before rest more whole n (Some (faults.Damaged damage)) others are end e is = undamaged before rest more others are end.0 e

pub is_kept : (bytes more : List ℕ) (r : Recovered) (flat : Flat) (changes : List (List Event)) → IsInside bytes r → IsBase flat → AreChanges changes → bytes ++ more ≡ journal flat changes → IsKept flat changes (length bytes) r
is_kept bytes more r flat changes i base are e =
    let own = first_check r.flat in
    let read : bytes ++ more ≡ start r.flat ++ (changes_text own r.changes ++ (i.rest ++ more)) =
    ap (λ (t : List ℕ). t ++ more) i.text ∙ append_assoc (journal r.flat r.changes) i.rest more ∙ append_assoc (start r.flat) (changes_text own r.changes) (i.rest ++ more) in
    let once = framed_once (checkpoint r.flat) (checkpoint flat) (changes_text own r.changes ++ (i.rest ++ more)) (changes_text (first_check flat) changes) i.fits base.fits (sym read ∙ e) in
    let world : r.flat ≡ flat = i.only flat base.world once.same in
    let first = first_check flat in
    let text : changes_text first r.changes ++ (i.rest ++ more) ≡ changes_text first changes = ap (λ (f : Flat). changes_text (first_check f) r.changes ++ (i.rest ++ more)) (sym world) ∙ once.rest in
    let f = follow first r.changes changes (i.rest ++ more) i.read are text in
    let check : r.check ≡ last_check first r.changes = i.check ∙ ap (λ (f : Flat). last_check (first_check f) r.changes) world in
    let end : IsEnd (last_check first r.changes) i.rest r.fault = subst (λ (b : List ℕ). IsEnd b i.rest r.fault) check i.end in
    let ends = ended (last_check first r.changes) i.rest more r.fault f.others f.are end f.text in
    let long : length bytes ≡ r.whole + length i.rest = omega (arith, ap length i.text, length-append (journal r.flat r.changes) i.rest, i.whole) in
    let whole : r.whole ≡ length (start flat) + length (changes_text first r.changes) = i.whole ∙ ap (λ (f : Flat). length (journal f r.changes)) world ∙ length-append (start flat) (changes_text first r.changes) in
    record {
      world = world;
      others = f.others;
      front = f.front;
      no_more = λ next last is.
          omega (arith, ends.no_more next last is, long, whole, length-append (start flat) (changes_text first (r.changes ++ next ∷ [])), ap length (text_push first r.changes next), length-append (changes_text first r.changes) (change_text (last_check first r.changes) next));
      rest = cut_at (last_check first r.changes) i.rest more r.whole (length bytes) r.fault f.others f.are end f.text long;
    }

memory_only : (flat : Flat) (changes : List (List Event)) (n : ℕ) (error : RecoverError) → error ≡ errors.NoMemory → IsCutWithin flat changes n (Err error)
memory_only flat changes n error is = subst (λ (d : RecoverError). IsCutWithin flat changes n (Err d)) (sym is) tt

pub is_cut : (bytes more : List ℕ) (result : Result Recovered RecoverError) (flat : Flat) (changes : List (List Event)) → IfOk result (IsInside bytes)
    → IfErr result (λ error. (flat : Flat) (after : List ℕ) → IsBase flat → bytes ≡ start flat ++ after → error ≡ errors.NoMemory)
    → IsBase flat → AreChanges changes → bytes ++ more ≡ journal flat changes → length (start flat) ≤ length bytes → IsCutWithin flat changes (length bytes) result
is_cut bytes more (Ok r) flat changes ok err base are e le = is_kept bytes more r flat changes ok base are e
is_cut bytes more (Err error) flat changes ok err base are e le =
    memory_only flat changes (length bytes) error (err flat (drop (length (start flat)) bytes) base (longer bytes more (start flat) (changes_text (first_check flat) changes) e le))

-- ---- all

nothing_left : (flat : Flat) (changes kept others : List (List Event)) → kept ++ others ≡ changes
    → ((next : List Event) (last : List (List Event)) → others ≡ next ∷ last → length (journal flat changes) < length (journal flat (kept ++ next ∷ []))) → kept ≡ changes
nothing_left flat changes kept [] is no_more = sym (append-nil kept) ∙ is
nothing_left flat changes kept (next ∷ last) is no_more =
    let first = first_check flat in
    let pushed = kept ++ next ∷ [] in
    let again : changes ≡ pushed ++ last = sym is ∙ sym (append_assoc kept (next ∷ []) last) in
    absurd (omega (arith, no_more next last refl, length-append (start flat) (changes_text first changes), length-append (start flat) (changes_text first pushed), ap (λ (cs : List (List Event)). length (changes_text first cs)) again, ap length (text_append first pushed last), length-append (changes_text first pushed) (changes_text (last_check first pushed) last)))

no_fault : (whole n : ℕ) (fault : Option Fault) → whole ≡ n → IsCutAt whole n fault → fault ≡ None
no_fault whole n None is at = refl
no_fault whole n (Some faults.Cut) is at = absurd (omega arith)
no_fault whole n (Some (faults.Damaged damage)) is at = absurd at

is_whole : (bytes : List ℕ) (r : Recovered) (flat : Flat) (changes : List (List Event)) → IsInside bytes r → IsBase flat → AreChanges changes → bytes ≡ journal flat changes → IsAll flat changes (Ok r)
is_whole bytes r flat changes i base are e =
    let k = is_kept bytes [] r flat changes i base are (append-nil bytes ∙ e) in
    let long : length bytes ≡ length (journal flat changes) = ap length e in
    let all : r.changes ≡ changes = nothing_left flat changes r.changes k.others k.front (λ next last is. let more = k.no_more next last is in omega (arith, more, long)) in
    let whole : r.whole ≡ length bytes = i.whole ∙ ap (λ (f : Flat). length (journal f r.changes)) k.world ∙ ap (λ (cs : List (List Event)). length (journal flat cs)) all ∙ sym long in
    (k.world, all, no_fault r.whole (length bytes) r.fault whole k.rest)

all_memory : (flat : Flat) (changes : List (List Event)) (error : RecoverError) → error ≡ errors.NoMemory → IsAll flat changes (Err error)
all_memory flat changes error is = subst (λ (d : RecoverError). IsAll flat changes (Err d)) (sym is) tt

pub is_all : (bytes : List ℕ) (result : Result Recovered RecoverError) (flat : Flat) (changes : List (List Event)) → IfOk result (IsInside bytes)
    → IfErr result (λ error. (flat : Flat) (after : List ℕ) → IsBase flat → bytes ≡ start flat ++ after → error ≡ errors.NoMemory)
    → IsBase flat → AreChanges changes → bytes ≡ journal flat changes → IsAll flat changes result
is_all bytes (Ok r) flat changes ok err base are e = is_whole bytes r flat changes ok base are e
is_all bytes (Err error) flat changes ok err base are e = all_memory flat changes error (err flat (changes_text (first_check flat) changes) base e)

pub is_short : (result : Result Recovered RecoverError) → result ≡ Err errors.Cut → IsShort result
is_short result is = subst IsShort (sym is) refl
