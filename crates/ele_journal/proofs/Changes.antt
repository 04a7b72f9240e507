-- A change is read as it was written, and no other bytes stand for it. Of changes that were cut, those that are whole are read.
use Rattle.std.proofs.Common.{◌≡◌, ℕ, ◌+◌, ◌-◌, ◌<◌, ◌≤◌, ◌^◌, Bool, true, false, cond, eqb, List, [], ◌∷◌, ◌++◌, length, take, drop, Option, Some, None, Result, Ok, Err, refl, sym, ap, subst, ◌∙◌, append_assoc, arith, inl, inr}
use Rattle.std.specs.Int.{w64, from_be_bytes, to_be_bytes}
use Rattle.std.specs.List.{AllByRecursion}
use Rattle.std.proofs.lemmas.Bool.{cases_lt, eqb-true, eqb-false, ne_eqb}
use Rattle.std.proofs.lemmas.List.{append-nil, append_cancel_left, nil_from_length, take_at, drop_at, take-append-le, take-append-drop, length-append, length-take, length-drop}
use Rattle.std.proofs.lemmas.Nat.{from_be_bytes-to_be_bytes_8}
use Rattle.ele_model.specs.declared.event.Event.{Event}
use Rattle.ele_model.specs.declared.event.Event.TheVariants as events
use Rattle.ele_checkpoint.specs.declared.fault.Flaw.TheVariants as flaws
use Rattle.ele_checkpoint.specs.declared.fault.Mistake.{Mistake}
use Rattle.ele_checkpoint.specs.Number.{number_text}
use Rattle.ele_checkpoint.specs.PartsRead.{list_at}
use Rattle.ele_checkpoint.specs.Reading.{mistake}
use Rattle.ele_checkpoint.proofs.Forms.{bind_ok, guard_ok, ok_is}
use Rattle.ele_checkpoint.proofs.Lists.{list_form}
use Rattle.ele_journal.specs.declared.fault.Fault.{Fault}
use Rattle.ele_journal.specs.declared.fault.Fault.TheVariants as faults
use Rattle.ele_journal.specs.Changes.{AreChanges, IsChange, IsEncodable, after_change, change_text, changes_text, check_of, events_text, last_check, linked, size_check, size_text}
use Rattle.ele_journal.specs.ChangesRead.{IsReadChange}
use Rattle.ele_journal.specs.Events.{event_text}
use Rattle.ele_journal.specs.EventsRead.{event_at, events_at}
use Rattle.ele_journal.specs.Recovered.{Agree, IsEnd, IsTorn}
use Rattle.ele_journal.proofs.EventForms.{event_form, list_changes}

-- ---- the events of a change

then_ok : {A : Type 0} (b : Bool) (d : Mistake) (r : Result A Mistake) (y : A) → cond b r (Err d) ≡ Ok y → (b ≡ true) × (r ≡ Ok y)
then_ok true d r y e = (refl, e)
then_ok false d r y e = absurd cc

pub record Takes (bytes : List ℕ) (change : List Event) : Type 0 where
  pub text : bytes ≡ events_text change
  pub encodable : IsEncodable change

pub events_take : (bytes : List ℕ) (change : List Event) → events_at bytes ≡ Ok change → Takes bytes change
unfolding events_at
events_take bytes change e =
    let s = bind_ok (list_at event_at bytes) (λ found. cond (eqb (length found.1) 0) (cond (eqb (length found.0) 0) (Err (mistake 0 flaws.Short)) (Ok found.0)) (Err (mistake (length found.1) flaws.Trailing))) change e in
    let g = then_ok (eqb (length s.0.1) 0) (mistake (length s.0.1) flaws.Trailing) (cond (eqb (length s.0.0) 0) (Err (mistake 0 flaws.Short)) (Ok s.0.0)) change s.2 in
    let h = guard_ok (eqb (length s.0.0) 0) (mistake 0 flaws.Short) (Ok s.0.0) change g.1 in
    let nothing : s.0.1 ≡ [] = nil_from_length s.0.1 (eqb-true _ _ g.0) in
    let some : length s.0.0 ≡ 0 → ⊥ = eqb-false _ _ h.0 in
    let all : bytes ≡ events_text s.0.0 = (list_form event_form).takes bytes s.0.0 s.0.1 s.1 ∙ ap (λ (t : List ℕ). events_text s.0.0 ++ t) nothing ∙ append-nil (events_text s.0.0) in
    subst (Takes bytes) (ok_is s.0.0 change h.1) (record { text = all; encodable = record { some = omega arith; changing = list_changes bytes s.0.0 s.0.1 s.1 } })

pub events_again : (change : List Event) → IsChange change → events_at (events_text change) ≡ Ok change
unfolding events_at
events_again change is =
    let some = is.some in
    let found : list_at event_at (events_text change) ≡ Ok (change, []) = ap (list_at event_at) (sym (append-nil (events_text change))) ∙ (list_form event_form).again change [] is.are in
    rw (found, ne_eqb (length change) 0 (λ (e : length change ≡ 0). omega arith)) refl

pub read_change : (change : List Event) → IsChange change → IsReadChange change
read_change change is = record { read = events_again change is; small = is.fits }

-- ---- the bytes of a change

pub four : (bytes : List ℕ) → length (check_of bytes) ≡ 4
unfolding check_of
four bytes = refl

pub eight : (change : List Event) → length (size_text change) ≡ 8
eight change = refl

-- the length with its check has twelve bytes
pub twelve : (before : List ℕ) (change : List Event) → length (linked before (size_text change)) ≡ 12
twelve before change = omega (arith, length-append (size_text change) (check_of (before ++ size_text change)), eight change, four (before ++ size_text change))

pub change_length : (before : List ℕ) (change : List Event) → length (change_text before change) ≡ length (events_text change) + 16
change_length before change =
    let sized = size_check before change in
    omega (arith, length-append (linked before (size_text change)) (linked sized (events_text change)), twelve before change, length-append (events_text change) (check_of (sized ++ events_text change)), four (sized ++ events_text change))

-- a change and what follows, grouped from the right
pub opened : (before : List ℕ) (change : List Event) (x : List ℕ) → change_text before change ++ x ≡ linked before (size_text change) ++ (events_text change ++ (check_of (size_check before change ++ events_text change) ++ x))
opened before change x =
    let sized = size_check before change in
    append_assoc (linked before (size_text change)) (linked sized (events_text change)) x ∙ ap (λ (t : List ℕ). linked before (size_text change) ++ t) (append_assoc (events_text change) (check_of (sized ++ events_text change)) x)

pub one_size : (a b : ℕ) → a < 2 ^ 64 → b < 2 ^ 64 → to_be_bytes w64 a ≡ to_be_bytes w64 b → a ≡ b
one_size a b small small' e = sym (from_be_bytes-to_be_bytes_8 a small) ∙ ap (from_be_bytes w64) e ∙ from_be_bytes-to_be_bytes_8 b small'

-- the first eight bytes of twelve
pub sizes : (s t c d : List ℕ) → length s ≡ 8 → length t ≡ 8 → s ++ c ≡ t ++ d → s ≡ t
sizes s t c d h h' e = sym (take_at s c 8 h) ∙ ap (take 8) e ∙ take_at t d 8 h'

pub record Same (a b : List Event) (x y : List ℕ) : Type 0 where
  pub change : a ≡ b
  pub rest : x ≡ y

pub same_change : (before : List ℕ) (a b : List Event) (x y : List ℕ) → IsReadChange a → IsReadChange b → change_text before a ++ x ≡ change_text before b ++ y → Same a b x y
same_change before a b x y read read' e =
    let rest = λ (c : List Event) (z : List ℕ). events_text c ++ (check_of (size_check before c ++ events_text c) ++ z) in
    let whole : linked before (size_text a) ++ rest a x ≡ linked before (size_text b) ++ rest b y = sym (opened before a x) ∙ e ∙ opened before b y in
    let heads : linked before (size_text a) ≡ linked before (size_text b) = sym (take_at (linked before (size_text a)) (rest a x) 12 (twelve before a)) ∙ ap (take 12) whole ∙ take_at (linked before (size_text b)) (rest b y) 12 (twelve before b) in
    let tails : rest a x ≡ rest b y = sym (drop_at (linked before (size_text a)) (rest a x) 12 (twelve before a)) ∙ ap (drop 12) whole ∙ drop_at (linked before (size_text b)) (rest b y) 12 (twelve before b) in
    let long : length (events_text a) ≡ length (events_text b) = one_size (length (events_text a)) (length (events_text b)) read.small read'.small (sizes (size_text a) (size_text b) (check_of (before ++ size_text a)) (check_of (before ++ size_text b)) (eight a) (eight b) heads) in
    let bodies : events_text a ≡ events_text b = sym (take_at (events_text a) (check_of (size_check before a ++ events_text a) ++ x) (length (events_text b)) long) ∙ ap (take (length (events_text b))) tails ∙ take_at (events_text b) (check_of (size_check before b ++ events_text b) ++ y) (length (events_text b)) refl in
    let change : a ≡ b = ok_is a b (sym read.read ∙ ap events_at bodies ∙ read'.read) in
    record {
      change = change;
      rest = append_cancel_left (change_text before b) x y (ap (λ (c : List Event). change_text before c ++ x) (sym change) ∙ e);
    }

-- ---- changes, one after the other

pub text_append : (before : List ℕ) (a b : List (List Event)) → changes_text before (a ++ b) ≡ changes_text before a ++ changes_text (last_check before a) b
text_append before [] b = refl
text_append before (first ∷ a) b =
    ap (λ (t : List ℕ). change_text before first ++ t) (text_append (after_change before first) a b) ∙ sym (append_assoc (change_text before first) (changes_text (after_change before first) a) (changes_text (last_check (after_change before first) a) b))

pub text_push : (before : List ℕ) (changes : List (List Event)) (change : List Event) → changes_text before (changes ++ change ∷ []) ≡ changes_text before changes ++ change_text (last_check before changes) change
text_push before changes change =
    text_append before changes (change ∷ []) ∙ ap (λ (t : List ℕ). changes_text before changes ++ t) (append-nil (change_text (last_check before changes) change))

pub check_push : (before : List ℕ) (changes : List (List Event)) (change : List Event) → last_check before (changes ++ change ∷ []) ≡ after_change (last_check before changes) change
check_push before [] change = refl
check_push before (first ∷ changes) change = check_push (after_change before first) changes change

pub all_push : {X : Type 0} (P : X → Type 0) (xs : List X) (x : X) → AllByRecursion P xs → P x → AllByRecursion P (xs ++ x ∷ [])
all_push P [] x all is = (is, tt)
all_push P (y ∷ ys) x all is = (all.0, all_push P ys x all.1 is)

-- changes that were read first, and what is left of those that were written
pub record Follows (before : List ℕ) (kept changes : List (List Event)) (rest : List ℕ) : Type 0 where
  pub others : List (List Event)
  pub front : kept ++ others ≡ changes
  pub are : AreChanges others
  pub text : rest ≡ changes_text (last_check before kept) others

pub follow : (before : List ℕ) (kept changes : List (List Event)) (rest : List ℕ) → AllByRecursion IsReadChange kept → AreChanges changes → changes_text before kept ++ rest ≡ changes_text before changes → Follows before kept changes rest
follow before [] changes rest read are e = record { others = changes; front = refl; are = are; text = e }
follow before (first ∷ kept) [] rest read are e =
    absurd (omega (arith, ap length e, length-append (change_text before first ++ changes_text (after_change before first) kept) rest, length-append (change_text before first) (changes_text (after_change before first) kept), change_length before first))
follow before (first ∷ kept) (change ∷ changes) rest read are e =
    let next = after_change before first in
    let s = same_change before first change (changes_text next kept ++ rest) (changes_text (after_change before change) changes) read.0 (read_change change are.0) (sym (append_assoc (change_text before first) (changes_text next kept) rest) ∙ e) in
    let f = follow next kept changes rest read.1 are.1 (s.rest ∙ ap (λ (c : List Event). changes_text (after_change before c) changes) (sym s.change)) in
    record { others = f.others; front = ap (λ (cs : List (List Event)). first ∷ cs) f.front ∙ ap (λ (c : List Event). c ∷ changes) s.change; are = f.are; text = f.text }

-- ---- what follows the whole changes

-- the longer of two that begin alike begins with the other
pub longer : (a b c d : List ℕ) → a ++ b ≡ c ++ d → length c ≤ length a → a ≡ c ++ drop (length c) a
longer a b c d e le =
    let part : take (length c) a ≡ c = sym (take-append-le (length c) a b le) ∙ ap (take (length c)) e ∙ take_at c d (length c) refl in
    sym (take-append-drop (length c) a) ∙ ap (λ (t : List ℕ). t ++ drop (length c) a) part

a_clean : IsChange (events.CleanOne ∷ [])
unfolding number_text
a_clean =
    let two : length (events_text (events.CleanOne ∷ [])) ≡ 2 = refl in
    record { some = omega arith; are = (omega arith, (tt, tt)); fits = omega (arith, two) }

-- no whole change is left
pub none_whole : (before rest : List ℕ) (fault : Option Fault) (change : List Event) (after : List ℕ) → IsChange change → IsEnd before rest fault → rest ≡ change_text before change ++ after → ⊥
none_whole before rest None change after is end e =
    omega (arith, ap length (sym end ∙ e), length-append (change_text before change) after, change_length before change)
none_whole before rest (Some faults.Cut) change after is end e =
    let long : length (events_text change) + 16 ≤ length rest = omega (arith, ap length e, length-append (change_text before change) after, change_length before change) in
    elim end.short [
      | inl few ↦ omega arith
      | inr t ↦
          let heads : linked before (to_be_bytes w64 t.0) ≡ linked before (size_text change) = sym t.2 ∙ ap (take 12) (e ∙ opened before change after) ∙ take_at (linked before (size_text change)) (events_text change ++ (check_of (size_check before change ++ events_text change) ++ after)) 12 (twelve before change) in
          let size : t.0 ≡ length (events_text change) = one_size t.0 (length (events_text change)) t.1 is.fits (sizes (to_be_bytes w64 t.0) (size_text change) (check_of (before ++ to_be_bytes w64 t.0)) (check_of (before ++ size_text change)) refl (eight change) heads) in
          let short = t.3 in
          omega arith
    ]
none_whole before rest (Some (faults.Damaged damage)) change after is end e = end.0 change is (inl (after, e))

pub record Ends (before rest : List ℕ) (fault : Option Fault) (others : List (List Event)) : Type 0 where
  pub no_more : (next : List Event) (last : List (List Event)) → others ≡ next ∷ last → length rest < length (change_text before next)

ends_before : (before rest more : List ℕ) (fault : Option Fault) (next : List Event) (last : List (List Event)) → IsChange next → IsEnd before rest fault → rest ++ more ≡ changes_text before (next ∷ last) → length rest < length (change_text before next)
ends_before before rest more fault next last is end e =
    elim (cases_lt (length rest) (length (change_text before next))) [
      | inl lt ↦ lt
      | inr le ↦ absurd (none_whole before rest fault next (drop (length (change_text before next)) rest) is end (longer rest more (change_text before next) (changes_text (after_change before next) last) e le))
    ]

pub ended : (before rest more : List ℕ) (fault : Option Fault) (others : List (List Event)) → AreChanges others → IsEnd before rest fault → rest ++ more ≡ changes_text before others → Ends before rest fault others
ended before rest more fault [] are end e = record { no_more = λ next last is. absurd cc }
ended before rest more fault (change ∷ changes) are end e =
    let lt = ends_before before rest more fault change changes are.0 end e in
    record { no_more = λ next last is. let same : change ≡ next = cc in subst (λ (c : List Event). length rest < length (change_text before c)) same lt }

-- nothing that was only cut is damaged
pub undamaged : (before rest more : List ℕ) (others : List (List Event)) → AreChanges others → ((change : List Event) → IsChange change → Agree rest (change_text before change) → ⊥) → rest ++ more ≡ changes_text before others → ⊥
undamaged before rest more [] are end e =
    let none : rest ≡ [] = nil_from_length rest (omega (arith, ap length e, length-append rest more)) in
    end (events.CleanOne ∷ []) a_clean (inr (change_text before (events.CleanOne ∷ []), ap (λ (t : List ℕ). t ++ change_text before (events.CleanOne ∷ [])) none))
undamaged before rest more (change ∷ changes) are end e =
    let text = change_text before change in
    elim (cases_lt (length rest) (length text)) [
      | inl lt ↦ end change are.0 (inr (drop (length rest) text, sym (longer text (changes_text (after_change before change) changes) rest more (sym e) (omega arith))))
      | inr le ↦ end change are.0 (inl (drop (length text) rest, longer rest more text (changes_text (after_change before change) changes) e le))
    ]
