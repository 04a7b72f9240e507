-- One step of reading changes: a change, a cut or damage.
use Rattle.std.proofs.Common.{◌≡◌, ℕ, ◌+◌, ◌-◌, ◌<◌, ◌≤◌, ◌^◌, List, [], ◌∷◌, ◌++◌, length, take, drop, Result, Ok, Err, refl, sym, ap, subst, ◌∙◌, append_assoc, arith, inl, inr}
use Rattle.std.specs.Int.{w64, to_be_bytes}
use Rattle.std.proofs.lemmas.List.{append-nil, append_cancel_left, take_at, drop_at, take-append-drop, length-append, length-take, length-drop}
use Rattle.ele_model.specs.declared.event.Event.{Event}
use Rattle.ele_checkpoint.specs.declared.fault.Mistake.{Mistake}
use Rattle.ele_checkpoint.specs.declared.fault.Stop.{Stop}
use Rattle.ele_checkpoint.specs.declared.fault.Stop.TheVariants as stop
use Rattle.ele_checkpoint.specs.Reading.{Fails}
use Rattle.ele_journal.specs.Changes.{IsChange, after_change, change_text, changes_text, check_of, events_text, last_check, linked, size_check, size_text}
use Rattle.ele_journal.specs.ChangesRead.{IsFound, IsNext, IsReadChange, Links, Reads}
use Rattle.ele_journal.specs.EventsRead.{events_at}
use Rattle.ele_journal.specs.declared.fault.Damage.TheVariants as damages
use Rattle.ele_journal.specs.Recovered.{Agree, IsDamage, IsEnd, IsTorn, check_of_size, sized}
use Rattle.ele_journal.proofs.Changes.{all_push, change_length, check_push, eight, events_again, events_take, four, longer, one_size, opened, sizes, text_push, twelve}

-- ---- bytes and their check

-- bytes that end by their check are linked
pub links : (bytes covered next check body back : List ℕ) (size : ℕ) → size + 8 ≤ length bytes → covered ≡ take (4 + size) bytes → next ≡ drop (4 + size) bytes → check ≡ take 4 next → body ≡ drop 4 covered → check ≡ check_of covered → Links bytes size body next
links bytes covered next check body back size long front behind first last same =
    let long_covered : length covered ≡ 4 + size = ap length front ∙ omega (arith, length-take (4 + size) bytes, long) in
    let all : bytes ≡ covered ++ next = sym (rw (front, behind) (take-append-drop (4 + size) bytes)) in
    let split : covered ≡ take 4 covered ++ body = sym (rw last (take-append-drop 4 covered)) in
    let four_front : length (take 4 covered) ≡ 4 = omega (arith, length-take 4 covered, long_covered) in
    let parts : bytes ≡ take 4 covered ++ (body ++ next) = all ∙ ap (λ (t : List ℕ). t ++ next) split ∙ append_assoc (take 4 covered) body next in
    let before : take 4 bytes ≡ take 4 covered = ap (take 4) parts ∙ take_at (take 4 covered) (body ++ next) 4 four_front in
    let text : drop 4 bytes ≡ body ++ next = ap (drop 4) parts ∙ drop_at (take 4 covered) (body ++ next) 4 four_front in
    let is_covered : take 4 bytes ++ body ≡ covered = ap (λ (t : List ℕ). t ++ body) before ∙ sym split in
    let checked : take 4 next ≡ check_of (take 4 bytes ++ body) = sym first ∙ same ∙ ap check_of (sym is_covered) in
    record {
      sized = omega (arith, ap length split, length-append (take 4 covered) body, four_front, long_covered);
      text = text ∙ ap (λ (t : List ℕ). body ++ t) (sym (take-append-drop 4 next) ∙ ap (λ (t : List ℕ). t ++ drop 4 next) checked) ∙ sym (append_assoc body (check_of (take 4 bytes ++ body)) (drop 4 next));
      check = checked;
      long = omega (arith, ap length all, length-append covered next, long_covered, long);
      less = omega (arith, ap length all, length-append covered next, long_covered);
    }

-- bytes with another check in that place aren't linked
pub no_links : (bytes covered next check body after : List ℕ) (size : ℕ) → size + 8 ≤ length bytes → covered ≡ take (4 + size) bytes → next ≡ drop (4 + size) bytes → check ≡ take 4 next → (check ≡ check_of covered → ⊥) → length body ≡ size → drop 4 bytes ≡ linked (take 4 bytes) body ++ after → ⊥
no_links bytes covered next check body after size long front behind first other is e =
    let four_front : length (take 4 bytes) ≡ 4 = omega (arith, length-take 4 bytes, long) in
    let sum = check_of (take 4 bytes ++ body) in
    let parts : bytes ≡ (take 4 bytes ++ body) ++ (sum ++ after) = sym (take-append-drop 4 bytes) ∙ ap (λ (t : List ℕ). take 4 bytes ++ t) (e ∙ append_assoc body sum after) ∙ sym (append_assoc (take 4 bytes) body (sum ++ after)) in
    let both : length (take 4 bytes ++ body) ≡ 4 + size = omega (arith, length-append (take 4 bytes) body, four_front, is) in
    let same_covered : covered ≡ take 4 bytes ++ body = front ∙ ap (take (4 + size)) parts ∙ take_at (take 4 bytes ++ body) (sum ++ after) (4 + size) both in
    let same_next : next ≡ sum ++ after = behind ∙ ap (drop (4 + size)) parts ∙ drop_at (take 4 bytes ++ body) (sum ++ after) (4 + size) both in
    other (first ∙ ap (take 4) same_next ∙ take_at sum after 4 (four (take 4 bytes ++ body)) ∙ ap check_of (sym same_covered))

-- ---- the length of a change

pub whole_eight : (bytes : List ℕ) → length bytes ≡ 8 → take 8 bytes ≡ bytes
whole_eight bytes long = ap (take 8) (sym (append-nil bytes)) ∙ take_at bytes [] 8 long

drop_length : (bytes : List ℕ) → 4 ≤ length bytes → length (drop 4 bytes) + 4 ≡ length bytes
drop_length bytes le = omega (arith, length-drop 4 bytes, le)

pub torn_short : (bytes : List ℕ) → 5 ≤ length bytes → length bytes < 16 → IsTorn (take 4 bytes) (drop 4 bytes)
torn_short bytes some few =
    let d = drop_length bytes (omega arith) in
    record { some = omega arith; short = inl (omega arith) }

-- a change that agrees with twelve bytes has its length and their check at the front
agrees : (bytes : List ℕ) (change : List Event) → 16 ≤ length bytes → Agree (drop 4 bytes) (change_text (take 4 bytes) change) → (after : List ℕ) × (drop 4 bytes ≡ linked (take 4 bytes) (size_text change) ++ after)
agrees bytes change long (inl (after, e)) =
    (linked (size_check (take 4 bytes) change) (events_text change) ++ after, e ∙ append_assoc (linked (take 4 bytes) (size_text change)) (linked (size_check (take 4 bytes) change) (events_text change)) after)
agrees bytes change long (inr (more, e)) =
    let head = linked (take 4 bytes) (size_text change) in
    (drop (length head) (drop 4 bytes), longer (drop 4 bytes) more head (linked (size_check (take 4 bytes) change) (events_text change)) e (omega (arith, twelve (take 4 bytes) change, drop_length bytes (omega arith))))

pub no_length : (bytes : List ℕ) → 16 ≤ length bytes → ((body after : List ℕ) → length body ≡ 8 → drop 4 bytes ≡ linked (take 4 bytes) body ++ after → ⊥) → (change : List Event) → IsChange change → Agree (drop 4 bytes) (change_text (take 4 bytes) change) → ⊥
no_length bytes long none change is agree = let a = agrees bytes change long agree in none (size_text change) a.0 (eight change) a.1

pub torn_long : (bytes length_bytes rest : List ℕ) (size : ℕ) → Links bytes 8 length_bytes rest → to_be_bytes w64 size ≡ length_bytes → size < 2 ^ 64 → length rest < size + 8 → IsTorn (take 4 bytes) (drop 4 bytes)
torn_long bytes length_bytes rest size links is small few =
    let less = links.less in
    let d = drop_length bytes (omega arith) in
    let eight_bytes = links.sized in
    let head = linked (take 4 bytes) length_bytes in
    let twelve_bytes : length head ≡ 12 = omega (arith, length-append length_bytes (check_of (take 4 bytes ++ length_bytes)), four (take 4 bytes ++ length_bytes), eight_bytes) in
    record {
      some = omega arith;
      short = inr (size, small, ap (take 12) links.text ∙ take_at head (drop 4 rest) 12 twelve_bytes ∙ ap (linked (take 4 bytes)) (sym is), omega arith);
    }

-- twelve bytes that are no length with its check
pub bad_length : (bytes : List ℕ) → 16 ≤ length bytes → ((body after : List ℕ) → length body ≡ 8 → drop 4 bytes ≡ linked (take 4 bytes) body ++ after → ⊥) → IsDamage (take 4 bytes) (drop 4 bytes) damages.Length
bad_length bytes long none =
    let d = drop_length bytes (omega arith) in
    (omega arith, λ size after e. none (to_be_bytes w64 size) after refl e)

-- the length that was read, with its check
is_sized : (bytes length_bytes rest : List ℕ) (size : ℕ) → Links bytes 8 length_bytes rest → to_be_bytes w64 size ≡ length_bytes → drop 4 bytes ≡ sized (take 4 bytes) size (drop 4 rest)
is_sized bytes length_bytes rest size links is = links.text ∙ ap (λ (t : List ℕ). linked (take 4 bytes) t ++ drop 4 rest) (sym is)

size_checked : (bytes length_bytes rest : List ℕ) (size : ℕ) → Links bytes 8 length_bytes rest → to_be_bytes w64 size ≡ length_bytes → take 4 rest ≡ check_of_size (take 4 bytes) size
size_checked bytes length_bytes rest size links is = links.check ∙ ap (λ (t : List ℕ). check_of (take 4 bytes ++ t)) (sym is)

-- so many bytes whose check is another
pub bad_check : (bytes length_bytes rest : List ℕ) (size : ℕ) → Links bytes 8 length_bytes rest → to_be_bytes w64 size ≡ length_bytes → size + 8 ≤ length rest
    → ((body after : List ℕ) → length body ≡ size → drop 4 rest ≡ linked (take 4 rest) body ++ after → ⊥) → IsDamage (take 4 bytes) (drop 4 bytes) damages.Check
bad_check bytes length_bytes rest size links is long none =
    record {
      size = size;
      after = drop 4 rest;
      text = is_sized bytes length_bytes rest size links is;
      long = let d = drop_length rest (omega arith) in omega arith;
      none = λ body more sized e. none body more sized (subst (λ (b : List ℕ). drop 4 rest ≡ linked b body ++ more) (sym (size_checked bytes length_bytes rest size links is)) e);
    }

-- bytes with right checks that are no events
pub bad_events : (bytes length_bytes rest body next : List ℕ) (size : ℕ) (m : Mistake) → Links bytes 8 length_bytes rest → to_be_bytes w64 size ≡ length_bytes → Links rest size body next → events_at body ≡ Err m
    → IsDamage (take 4 bytes) (drop 4 bytes) damages.Events
bad_events bytes length_bytes rest body next size m first is second failed =
    let before = take 4 bytes in
    let tail : drop 4 rest ≡ linked (check_of_size before size) body ++ drop 4 next = second.text ∙ ap (λ (b : List ℕ). linked b body ++ drop 4 next) (size_checked bytes length_bytes rest size first is) in
    let all : drop 4 bytes ≡ sized before size (linked (check_of_size before size) body ++ drop 4 next) = is_sized bytes length_bytes rest size first is ∙ ap (λ (t : List ℕ). sized before size t) tail in
    record {
      body = body;
      after = drop 4 next;
      text = subst (λ (n : ℕ). drop 4 bytes ≡ sized before n (linked (check_of_size before n) body ++ drop 4 next)) (sym second.sized) all;
      none = λ change change_is e. let f = sym failed ∙ ap events_at e ∙ events_again change change_is in cc;
    }

-- ---- the events of a change

begins_with : (bytes text : List ℕ) → Agree bytes text → length text ≤ length bytes → bytes ≡ text ++ drop (length text) bytes
begins_with bytes text (inl (after, e)) le = longer bytes [] text after (append-nil bytes ∙ e) le
begins_with bytes text (inr (more, e)) le = longer bytes more text [] (e ∙ sym (append-nil text)) le

-- a change that agrees with bytes of its length lies in them
pub record Lies (rest : List ℕ) (size : ℕ) (change : List Event) : Type 0 where
  pub after : List ℕ
  pub long : length (events_text change) ≡ size
  pub text : drop 4 rest ≡ linked (take 4 rest) (events_text change) ++ after

pub lies : (bytes length_bytes rest : List ℕ) (size : ℕ) (change : List Event) → Links bytes 8 length_bytes rest → to_be_bytes w64 size ≡ length_bytes → size < 2 ^ 64 → size + 8 ≤ length rest → IsChange change → Agree (drop 4 bytes) (change_text (take 4 bytes) change) → Lies rest size change
lies bytes length_bytes rest size change links is small long change_is agree =
    let less = links.less in
    let before = take 4 bytes in
    let a = agrees bytes change (omega arith) agree in
    let d = drop_length bytes (omega arith) in
    let head = linked before length_bytes in
    let twelve_bytes : length head ≡ 12 = omega (arith, length-append length_bytes (check_of (before ++ length_bytes)), four (before ++ length_bytes), links.sized) in
    let heads : head ≡ linked before (size_text change) = sym (take_at head (drop 4 rest) 12 twelve_bytes) ∙ ap (take 12) (sym links.text ∙ a.1) ∙ take_at (linked before (size_text change)) a.0 12 (twelve before change) in
    let same : length_bytes ≡ size_text change = sizes length_bytes (size_text change) (check_of (before ++ length_bytes)) (check_of (before ++ size_text change)) links.sized (eight change) heads in
    let size_is : length (events_text change) ≡ size = one_size (length (events_text change)) size change_is.fits small (sym same ∙ sym is) in
    let sized : take 4 rest ≡ size_check before change = links.check ∙ ap (λ (t : List ℕ). check_of (before ++ t)) same in
    let text = change_text before change in
    let begins : drop 4 bytes ≡ text ++ drop (length text) (drop 4 bytes) = begins_with (drop 4 bytes) text agree (omega (arith, change_length before change, size_is, d, less, long)) in
    let whole : linked before (size_text change) ++ drop 4 rest ≡ linked before (size_text change) ++ (linked (size_check before change) (events_text change) ++ drop (length text) (drop 4 bytes)) =
    ap (λ (t : List ℕ). t ++ drop 4 rest) (sym heads) ∙ sym links.text ∙ begins ∙ append_assoc (linked before (size_text change)) (linked (size_check before change) (events_text change)) (drop (length text) (drop 4 bytes)) in
    record {
      after = drop (length text) (drop 4 bytes);
      long = size_is;
      text = append_cancel_left (linked before (size_text change)) (drop 4 rest) (linked (size_check before change) (events_text change) ++ drop (length text) (drop 4 bytes)) whole ∙ ap (λ (b : List ℕ). linked b (events_text change) ++ drop (length text) (drop 4 bytes)) (sym sized);
    }

-- other events don't agree with events that were read
pub no_events : (rest body next : List ℕ) (size : ℕ) (change : List Event) (m : Mistake) → Links rest size body next → Lies rest size change → IsChange change → events_at body ≡ Err m → ⊥
no_events rest body next size change m links l is e =
    let before = take 4 rest in
    let parts = λ (b x : List ℕ). append_assoc b (check_of (before ++ b)) x in
    let same : body ++ (check_of (before ++ body) ++ drop 4 next) ≡ events_text change ++ (check_of (before ++ events_text change) ++ l.after) = sym (parts body (drop 4 next)) ∙ sym links.text ∙ l.text ∙ parts (events_text change) l.after in
    let bodies : body ≡ events_text change = sym (take_at body (check_of (before ++ body) ++ drop 4 next) size links.sized) ∙ ap (take size) same ∙ take_at (events_text change) (check_of (before ++ events_text change) ++ l.after) size l.long in
    let f = sym e ∙ ap events_at bodies ∙ events_again change is in
    cc

pub is_next : (bytes length_bytes rest body next : List ℕ) (size : ℕ) (change : List Event) → Links bytes 8 length_bytes rest → to_be_bytes w64 size ≡ length_bytes → Links rest size body next → size < 2 ^ 64 → events_at body ≡ Ok change → IsNext bytes change next
is_next bytes length_bytes rest body next size change first is second small read =
    let before = take 4 bytes in
    let body_is : body ≡ events_text change = (events_take body change read).text in
    let size_is : size ≡ length (events_text change) = sym second.sized ∙ ap length body_is in
    let length_is : length_bytes ≡ size_text change = sym is ∙ ap (to_be_bytes w64) size_is in
    let sized : take 4 rest ≡ size_check before change = first.check ∙ ap (λ (t : List ℕ). check_of (before ++ t)) length_is in
    let tail : drop 4 rest ≡ linked (size_check before change) (events_text change) ++ drop 4 next = second.text ∙ ap (λ (b : List ℕ). linked (take 4 rest) b ++ drop 4 next) body_is ∙ ap (λ (b : List ℕ). linked b (events_text change) ++ drop 4 next) sized in
    let less = first.less in
    let less' = second.less in
    record {
      read = record { read = ap events_at (sym body_is) ∙ read; small = subst (λ (n : ℕ). n < 2 ^ 64) size_is small };
      text = first.text ∙ ap (λ (t : List ℕ). linked before t ++ drop 4 rest) length_is ∙ ap (λ (t : List ℕ). linked before (size_text change) ++ t) tail ∙ sym (append_assoc (linked before (size_text change)) (linked (size_check before change) (events_text change)) (drop 4 next));
      check = second.check ∙ ap (λ (b : List ℕ). check_of (take 4 rest ++ b)) body_is ∙ ap (λ (b : List ℕ). check_of (b ++ events_text change)) sized;
      long = second.long;
      less = omega arith;
    }

-- ---- the loop

pub reads_none : (bytes : List ℕ) → 4 ≤ length bytes → Reads bytes [] bytes
reads_none bytes long = record { read = tt; text = refl; check = refl; long = long; less = omega arith }

pub reads_more : (bytes rest next : List ℕ) (changes : List (List Event)) (change : List Event) → Reads bytes changes rest → IsNext rest change next → Reads bytes (changes ++ change ∷ []) next
reads_more bytes rest next changes change reads is =
    let before = take 4 bytes in
    let text : drop 4 rest ≡ change_text (last_check before changes) change ++ drop 4 next = is.text ∙ ap (λ (b : List ℕ). change_text b change ++ drop 4 next) reads.check in
    let less = reads.less in
    let less' = is.less in
    record {
      read = all_push IsReadChange changes change reads.read is.read;
      text = reads.text ∙ ap (λ (t : List ℕ). changes_text before changes ++ t) text ∙ sym (append_assoc (changes_text before changes) (change_text (last_check before changes) change) (drop 4 next)) ∙ ap (λ (t : List ℕ). t ++ drop 4 next) (sym (text_push before changes change));
      check = is.check ∙ ap (λ (b : List ℕ). after_change b change) reads.check ∙ sym (check_push before changes change);
      long = is.long;
      less = omega arith;
    }

-- the mistake that was met
pub met : (s : Stop) (m : Mistake) (read : Result (List Event) Mistake) → s ≡ stop.At m → Fails s read → read ≡ Err m
met s m read is fails = subst (λ (t : Stop). Fails t read) is fails
