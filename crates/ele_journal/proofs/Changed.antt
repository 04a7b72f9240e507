-- Of a journal in which one byte was changed, exactly the changes before that byte are read, or an error says where it lies.
use Rattle.std.proofs.Common.{◌≡◌, ℕ, ◌+◌, ◌-◌, ◌<◌, ◌≤◌, ◌^◌, List, [], ◌∷◌, ◌++◌, length, take, drop, Option, Some, None, refl, sym, ap, subst, ◌∙◌, append_assoc, arith, inl, inr}
use Rattle.std.specs.Int.{w64, to_be_bytes}
use Rattle.std.specs.List.{AllByRecursion}
use Rattle.std.proofs.lemmas.Bool.{lt-ltb, le-ltb}
use Rattle.std.proofs.lemmas.List.{append-nil, append_cancel_left, take_at, drop_at, take-append-drop, length-append}
use Rattle.ele_model.specs.declared.event.Event.{Event}
use Rattle.ele_model.specs.declared.flat.Flat.{Flat}
use Rattle.ele_checkpoint.specs.Checkpoint.{checkpoint, measured}
use Rattle.ele_checkpoint.specs.Checkpoint.{head as checkpoint_head}
use Rattle.ele_checkpoint.specs.Fits.{IsFlat}
use Rattle.ele_checkpoint.specs.Sum.{AreBytes}
use Rattle.ele_checkpoint.specs.Whole.{whole_text}
use Rattle.ele_journal.specs.declared.fault.Damage.TheVariants as damages
use Rattle.ele_journal.specs.declared.fault.Fault.{Fault}
use Rattle.ele_journal.specs.declared.fault.Fault.TheVariants as faults
use Rattle.ele_journal.specs.declared.fault.RecoverError.{RecoverError}
use Rattle.ele_journal.specs.declared.fault.RecoverError.TheVariants as errors
use Rattle.ele_journal.specs.declared.recovery.Recovered.{Recovered}
use Rattle.ele_journal.specs.Changed.{IsNoticed, IsUpTo, damage_at}
use Rattle.ele_journal.specs.Changes.{AreChanges, after_change, change_text, changes_text, check_of, events_text, last_check, linked, size_check, size_text}
use Rattle.ele_journal.specs.ChangesRead.{IsInside, IsReadChange}
use Rattle.ele_journal.specs.Journal.{IsBase, first_check, framed, head, journal, start}
use Rattle.ele_journal.specs.Recovered.{IsEnd, IsUnread, sized}
use Rattle.ele_journal.proofs.Changes.{change_length, eight, four, none_whole, one_size, opened, read_change, same_change, sizes, twelve}
use Rattle.ele_journal.proofs.Differing.{Differs, Split, check_bytes, checked, differs_length, in_first, in_second, not_same, split}
use Rattle.ele_journal.proofs.Journals.{framed_once, framed_parts, heading, heading_length}

-- ---- within a change

-- the length of a change with its check, and its events with theirs
abbrev sized_part : List ℕ → List Event → List ℕ
sized_part before change = linked before (size_text change)

abbrev events_part : List ℕ → List Event → List ℕ
events_part before change = linked (size_check before change) (events_text change)

-- twelve bytes that begin alike
heads_same : (a x b y : List ℕ) → length a ≡ 12 → length b ≡ 12 → a ++ x ≡ b ++ y → a ≡ b
heads_same a x b y long long' e = sym (take_at a x 12 long) ∙ ap (take 12) e ∙ take_at b y 12 long'

tails_same : (a x b y : List ℕ) → length a ≡ 12 → length b ≡ 12 → a ++ x ≡ b ++ y → x ≡ y
tails_same a x b y long long' e = sym (drop_at a x 12 long) ∙ ap (drop 12) e ∙ drop_at b y 12 long'

twelve_of : (before : List ℕ) (size : ℕ) → length (linked before (to_be_bytes w64 size)) ≡ 12
unfolding check_of
twelve_of before size = refl

-- a length that was changed, or its check, is followed by no length with its check
no_size : (place : ℕ) (before : List ℕ) (change : List Event) (part x y : List ℕ) (size : ℕ) → AreBytes before → Differs place (sized_part before change) part → part ++ x ≡ linked before (to_be_bytes w64 size) ++ y → ⊥
no_size place before change part x y size are d e =
    let long : length part ≡ 12 = differs_length place (sized_part before change) part d ∙ twelve before change in
    checked place before (size_text change) (to_be_bytes w64 size) part are refl d (heads_same part x (linked before (to_be_bytes w64 size)) y long (twelve_of before size) e)

-- one length, after one check
size_is : (before : List ℕ) (change : List Event) (x y : List ℕ) (size : ℕ) → length (events_text change) < 2 ^ 64 → size < 2 ^ 64 → sized_part before change ++ x ≡ linked before (to_be_bytes w64 size) ++ y → size ≡ length (events_text change)
size_is before change x y size small small' e =
    let heads = heads_same (sized_part before change) x (linked before (to_be_bytes w64 size)) y (twelve before change) (twelve_of before size) e in
    one_size size (length (events_text change)) small' small (sym (sizes (size_text change) (to_be_bytes w64 size) (check_of (before ++ size_text change)) (check_of (before ++ to_be_bytes w64 size)) (eight change) refl heads))

-- events that were changed, or their check, aren't followed by as many bytes with their check
no_body : (place : ℕ) (before : List ℕ) (change : List Event) (part x y body : List ℕ) → length body ≡ length (events_text change) → Differs place (events_part before change) part → part ++ x ≡ linked (size_check before change) body ++ y → ⊥
no_body place before change part x y body long d e =
    let own = linked (size_check before change) body in
    let same_long : length own ≡ length (events_part before change) = omega (arith, long, length-append body (check_of (size_check before change ++ body)), length-append (events_text change) (check_of (size_check before change ++ events_text change)), four (size_check before change ++ body), four (size_check before change ++ events_text change)) in
    let long' : length part ≡ length own = differs_length place (events_part before change) part d ∙ sym same_long in
    let same : part ≡ own = sym (take_at part x (length own) long') ∙ ap (take (length own)) e ∙ take_at own y (length own) refl in
    checked place (size_check before change) (events_text change) body part (check_bytes (before ++ size_text change)) long d same

-- no change follows in its place
no_change : (place : ℕ) (before : List ℕ) (change other : List Event) (text x y : List ℕ) → AreBytes before → IsReadChange change → IsReadChange other → Differs place (change_text before change) text → text ++ x ≡ change_text before other ++ y → ⊥
no_change place before change other text x y are read read' d e =
    elim (split place (sized_part before change) (events_part before change) text d) [
      | in_first part is lt d' ↦
          no_size place before change part (events_part before change ++ x) (events_part before other ++ y) (length (events_text other)) are d'
          (sym (append_assoc part (events_part before change) x) ∙ ap (λ (t : List ℕ). t ++ x) (sym is) ∙ e ∙ append_assoc (sized_part before other) (events_part before other) y)
      | in_second part is le d' ↦
          let whole : sized_part before change ++ (part ++ x) ≡ sized_part before other ++ (events_part before other ++ y) = sym (append_assoc (sized_part before change) part x) ∙ ap (λ (t : List ℕ). t ++ x) (sym is) ∙ e ∙ append_assoc (sized_part before other) (events_part before other) y in
          let long : length (events_text other) ≡ length (events_text change) = size_is before change (part ++ x) (events_part before other ++ y) (length (events_text other)) read.small read'.small whole in
          let rest : part ++ x ≡ events_part before other ++ y = tails_same (sized_part before change) (part ++ x) (sized_part before other) (events_part before other ++ y) (twelve before change) (twelve before other) whole in
          no_body (place - length (sized_part before change)) before change part x y (events_text other) long d'
          (rest ∙ ap (λ (n : ℕ). linked (check_of (before ++ to_be_bytes w64 n)) (events_text other) ++ y) long)
    ]

-- a place in the first twelve bytes, and one after them
by_size : (place : ℕ) → place < 12 → damage_at place ≡ damages.Length
by_size place lt = rw (lt-ltb place 12 lt) refl

by_events : (place : ℕ) → 12 ≤ place → damage_at place ≡ damages.Check
by_events place le = rw (le-ltb place 12 le) refl

-- a change that was changed is damaged, and the check that covers the place is wrong
damaged : (place : ℕ) (before : List ℕ) (change : List Event) (text after : List ℕ) (fault : Option Fault) → AreBytes before → IsReadChange change → Differs place (change_text before change) text → length (text ++ after) < 2 ^ 64 → IsEnd before (text ++ after) fault
    → fault ≡ Some (faults.Damaged (damage_at place))
damaged place before change text after None are read d small end =
    absurd (omega (arith, ap length end, length-append text after, differs_length place (change_text before change) text d, change_length before change))
damaged place before change text after (Some faults.Cut) are read d small end =
    let long : 16 + length (events_text change) ≤ length (text ++ after) = omega (arith, length-append text after, differs_length place (change_text before change) text d, change_length before change) in
    elim end.short [
      | inl few ↦ absurd (omega arith)
      | inr t ↦
          let begins : text ++ after ≡ linked before (to_be_bytes w64 t.0) ++ drop 12 (text ++ after) = sym (take-append-drop 12 (text ++ after)) ∙ ap (λ (u : List ℕ). u ++ drop 12 (text ++ after)) t.2 in
          elim (split place (sized_part before change) (events_part before change) text d) [
            | in_first part is lt d' ↦
                absurd (no_size place before change part (events_part before change ++ after) (drop 12 (text ++ after)) t.0 are d' (sym (append_assoc part (events_part before change) after) ∙ ap (λ (u : List ℕ). u ++ after) (sym is) ∙ begins))
            | in_second part is le d' ↦
                let size = size_is before change (part ++ after) (drop 12 (text ++ after)) t.0 read.small t.1 (sym (append_assoc (sized_part before change) part after) ∙ ap (λ (u : List ℕ). u ++ after) (sym is) ∙ begins) in
                let short = t.3 in
                absurd (omega arith)
          ]
    ]
damaged place before change text after (Some (faults.Damaged damages.Length)) are read d small end =
    elim (split place (sized_part before change) (events_part before change) text d) [
      | in_first part is lt d' ↦ rw (by_size place (omega (arith, twelve before change))) refl
      | in_second part is le d' ↦ absurd (end.1.1 (length (events_text change)) (part ++ after) (ap (λ (u : List ℕ). u ++ after) is ∙ append_assoc (sized_part before change) part after))
    ]
damaged place before change text after (Some (faults.Damaged damages.Check)) are read d small end =
    let m = end.1 in
    elim (split place (sized_part before change) (events_part before change) text d) [
      | in_first part is lt d' ↦ absurd (no_size place before change part (events_part before change ++ after) m.after m.size are d' (sym (append_assoc part (events_part before change) after) ∙ ap (λ (u : List ℕ). u ++ after) (sym is) ∙ m.text))
      | in_second part is le d' ↦ rw (by_events place (omega (arith, twelve before change))) refl
    ]
damaged place before change text after (Some (faults.Damaged damages.Events)) are read d small end =
    let m = end.1 in
    let checked_size = check_of (before ++ to_be_bytes w64 (length m.body)) in
    let rest = linked checked_size m.body ++ m.after in
    elim (split place (sized_part before change) (events_part before change) text d) [
      | in_first part is lt d' ↦ absurd (no_size place before change part (events_part before change ++ after) rest (length m.body) are d' (sym (append_assoc part (events_part before change) after) ∙ ap (λ (u : List ℕ). u ++ after) (sym is) ∙ m.text))
      | in_second part is le d' ↦
          let whole : sized_part before change ++ (part ++ after) ≡ sized before (length m.body) rest = sym (append_assoc (sized_part before change) part after) ∙ ap (λ (u : List ℕ). u ++ after) (sym is) ∙ m.text in
          let few : length m.body < 2 ^ 64 = omega (arith, ap length m.text, length-append (linked before (to_be_bytes w64 (length m.body))) rest, length-append (linked checked_size m.body) m.after, length-append m.body (check_of (checked_size ++ m.body))) in
          let long = size_is before change (part ++ after) rest (length m.body) read.small few whole in
          let tails : part ++ after ≡ rest = tails_same (sized_part before change) (part ++ after) (linked before (to_be_bytes w64 (length m.body))) rest (twelve before change) (twelve_of before (length m.body)) whole in
          absurd (no_body (place - length (sized_part before change)) before change part after m.after m.body long d' (tails ∙ ap (λ (n : ℕ). linked (check_of (before ++ to_be_bytes w64 n)) m.body ++ m.after) long))
    ]

-- ---- among changes

pub record UpTo (before : List ℕ) (kept changes : List (List Event)) (place : ℕ) (fault : Option Fault) : Type 0 where
  pub change : List Event
  pub others : List (List Event)
  pub front : kept ++ change ∷ others ≡ changes
  pub from : length (changes_text before kept) ≤ place
  pub within : place < length (changes_text before (kept ++ change ∷ []))
  pub fault_is : fault ≡ Some (faults.Damaged (damage_at (place - length (changes_text before kept))))

-- none was read, so the place lies in the first
up_to_first : (before : List ℕ) (change : List Event) (changes : List (List Event)) (ys : List ℕ) (place : ℕ) (fault : Option Fault) → AreBytes before → AreChanges (change ∷ changes) → Differs place (changes_text before (change ∷ changes)) ys → length ys < 2 ^ 64 → IsEnd before ys fault
    → UpTo before [] (change ∷ changes) place fault
up_to_first before change changes ys place fault bytes are d small end =
    let after = changes_text (after_change before change) changes in
    let none_before : place ≡ place - length (changes_text before []) = omega arith in
    elim (split place (change_text before change) after ys d) [
      | in_first text is lt d' ↦
          record {
            change = change;
            others = changes;
            front = refl;
            from = omega arith;
            within = omega (arith, length-append (change_text before change) []);
            fault_is = damaged place before change text after fault bytes (read_change change are.0) d' (subst (λ (t : List ℕ). length t < 2 ^ 64) is small) (subst (λ (t : List ℕ). IsEnd before t fault) is end) ∙ ap (λ (n : ℕ). Some (faults.Damaged (damage_at n))) none_before;
          }
      | in_second rest is le d' ↦ absurd (none_whole before ys fault change rest are.0 end is)
    ]

-- one more before it
up_to_next : (before : List ℕ) (change : List Event) (kept changes : List (List Event)) (place : ℕ) (fault : Option Fault) → length (change_text before change) ≤ place → UpTo (after_change before change) kept changes (place - length (change_text before change)) fault
    → UpTo before (change ∷ kept) (change ∷ changes) place fault
up_to_next before change kept changes place fault le u =
    let next = after_change before change in
    let own = change_text before change in
    let long : length (changes_text before (change ∷ kept)) ≡ length own + length (changes_text next kept) = length-append own (changes_text next kept) in
    let from = u.from in
    let within = u.within in
    let same : place - length own - length (changes_text next kept) ≡ place - length (changes_text before (change ∷ kept)) = omega arith in
    record {
      change = u.change;
      others = u.others;
      front = ap (λ (cs : List (List Event)). change ∷ cs) u.front;
      from = omega arith;
      within = omega (arith, length-append own (changes_text next (kept ++ u.change ∷ [])));
      fault_is = u.fault_is ∙ ap (λ (n : ℕ). Some (faults.Damaged (damage_at n))) same;
    }

pub up_to : (before : List ℕ) (kept changes : List (List Event)) (rest ys : List ℕ) (place : ℕ) (fault : Option Fault) → AreBytes before → AllByRecursion IsReadChange kept → AreChanges changes → Differs place (changes_text before changes) ys → length ys < 2 ^ 64
    → ys ≡ changes_text before kept ++ rest → IsEnd (last_check before kept) rest fault → UpTo before kept changes place fault
up_to before kept [] rest ys place fault bytes read are d small e end =
    absurd (omega (arith, ap length d.first, length-append d.front (d.was ∷ d.back)))
up_to before [] (change ∷ changes) rest ys place fault bytes read are d small e end =
    up_to_first before change changes ys place fault bytes are d small (subst (λ (t : List ℕ). IsEnd before t fault) (sym e) end)
up_to before (first ∷ kept) (change ∷ changes) rest ys place fault bytes read are d small e end =
    let next = after_change before first in
    let tail = changes_text next kept ++ rest in
    let whole : ys ≡ change_text before first ++ tail = e ∙ append_assoc (change_text before first) (changes_text next kept) rest in
    let own = read_change change are.0 in
    elim (split place (change_text before change) (changes_text (after_change before change) changes) ys d) [
      | in_first text is lt d' ↦ absurd (no_change place before change first text (changes_text (after_change before change) changes) tail bytes own read.0 d' (sym is ∙ whole))
      | in_second others is le d' ↦
          let s = same_change before first change tail others read.0 own (sym whole ∙ is) in
          let after = after_change before change in
          let text : others ≡ changes_text after kept ++ rest = sym s.rest ∙ ap (λ (c : List Event). changes_text (after_change before c) kept ++ rest) s.change in
          let few : length others < 2 ^ 64 = omega (arith, ap length is, length-append (change_text before change) others) in
          let u = up_to after kept changes rest others (place - length (change_text before change)) fault (check_bytes (size_check before change ++ events_text change)) read.1 are.1 d' few text (subst (λ (c : List Event). IsEnd (last_check (after_change before c) kept) rest fault) s.change end) in
          subst (λ (c : List Event). UpTo before (c ∷ kept) (change ∷ changes) place fault) (sym s.change) (up_to_next before change kept changes place fault le u)
    ]

-- ---- the checkpoint

-- a checkpoint is linked to no bytes before it
summed : (flat : Flat) → checkpoint flat ≡ linked [] (measured (checkpoint_head ++ whole_text flat))
unfolding check_of
summed flat = refl

-- no checkpoint follows in the place of one that was changed, nor one of another length
pub no_start : (place : ℕ) (flat own : Flat) (text x y : List ℕ) → length (checkpoint flat) < 2 ^ 64 → length (checkpoint own) < 2 ^ 64 → ((after more : List ℕ) → checkpoint own ++ after ≡ checkpoint flat ++ more → own ≡ flat)
    → Differs place (start flat) text → text ++ x ≡ start own ++ y → ⊥
no_start place flat own text x y small small' alone d e =
    let cp = checkpoint flat in
    let cp' = checkpoint own in
    let whole : text ++ x ≡ heading cp' ++ (cp' ++ y) = e ∙ framed_parts cp' y in
    elim (split place (heading cp) cp text d) [
      | in_first part is lt d' ↦
          let long : length part ≡ 25 = differs_length place (heading cp) part d' ∙ heading_length cp in
          let parts : part ++ (cp ++ x) ≡ heading cp' ++ (cp' ++ y) = sym (append_assoc part cp x) ∙ ap (λ (t : List ℕ). t ++ x) (sym is) ∙ whole in
          let heads : part ≡ heading cp' = sym (take_at part (cp ++ x) 25 long) ∙ ap (take 25) parts ∙ take_at (heading cp') (cp' ++ y) 25 (heading_length cp') in
          let tails : cp ++ x ≡ cp' ++ y = sym (drop_at part (cp ++ x) 25 long) ∙ ap (drop 25) parts ∙ drop_at (heading cp') (cp' ++ y) 25 (heading_length cp') in
          let same : own ≡ flat = alone y x (sym tails) in
          not_same place (heading cp) part d' (ap (λ (f : Flat). heading (checkpoint f)) (sym same) ∙ sym heads)
      | in_second part is le d' ↦
          let parts : heading cp ++ (part ++ x) ≡ heading cp' ++ (cp' ++ y) = sym (append_assoc (heading cp) part x) ∙ ap (λ (t : List ℕ). t ++ x) (sym is) ∙ whole in
          let heads : heading cp ≡ heading cp' = sym (take_at (heading cp) (part ++ x) 25 (heading_length cp)) ∙ ap (take 25) parts ∙ take_at (heading cp') (cp' ++ y) 25 (heading_length cp') in
          let tails : part ++ x ≡ cp' ++ y = sym (drop_at (heading cp) (part ++ x) 25 (heading_length cp)) ∙ ap (drop 25) parts ∙ drop_at (heading cp') (cp' ++ y) 25 (heading_length cp') in
          let long : length cp ≡ length cp' = one_size (length cp) (length cp') small small' (append_cancel_left head (to_be_bytes w64 (length cp)) (to_be_bytes w64 (length cp')) heads) in
          let long' : length part ≡ length cp' = differs_length (place - length (heading cp)) cp part d' ∙ long in
          let same : part ≡ cp' = sym (take_at part x (length cp') long') ∙ ap (take (length cp')) tails ∙ take_at cp' y (length cp') refl in
          let m = measured (checkpoint_head ++ whole_text flat) in
          let m' = measured (checkpoint_head ++ whole_text own) in
          let longs : length m' ≡ length m = omega (arith, long, ap length (summed flat), ap length (summed own), length-append m (check_of ([] ++ m)), length-append m' (check_of ([] ++ m')), four ([] ++ m), four ([] ++ m')) in
          checked (place - length (heading cp)) [] m m' part tt longs (subst (λ (t : List ℕ). Differs (place - length (heading cp)) t part) (summed flat) d') (same ∙ summed own)
    ]
