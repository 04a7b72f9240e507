-- Dates and times of day at the start of a word.
use Rattle.std.proofs.Common.{◌≡◌, ℕ, ◌+◌, ◌≤◌, pos, List, [], ◌∷◌, ◌++◌, take, drop, length, get_or, Some, inl, inr, refl, sym, ap, subst, ◌∙◌, arith, ◌/◌, ◌%◌, append_assoc}
use Rattle.std.specs.Prelude.{codes}
use borrow.Rule.Slice.PartMut.{put_mid}
use Rattle.std.proofs.Math.Seq.{take-append_seam, take-append-add, drop-append_seam, drop-append-add, split_at}
use Rattle.std.proofs.lemmas.Int.{ints}
use Rattle.std.proofs.lemmas.List.{append_cancel_right, drop-drop, length-take-le, take-append-drop}
use Rattle.jiff_core.specs.declared.civil.date.Date.{Date}
use Rattle.jiff_core.proofs.SignedLemmas.{signed_arith}
use Rattle.jiff_core.proofs.CalendarLemmas.{days_in_month_bounds}
use Rattle.jiff_core.proofs.DateLemmas.{epoch_day_range}
use Rattle.ele_moment.specs.declared.timestamp.Fields.{Fields}
use Rattle.ele_moment.specs.Day.{IsDay, IsDayNumber}
use Rattle.ele_moment.specs.Last.{last_moment}
use Rattle.ele_moment.specs.ReadFields.{fields_of}
use Rattle.ele_moment.specs.Spelled.{SpellsMoment}
use Rattle.ele_moment.specs.Timestamp.{date_text, time_text, timestamp_text, IsTimestamp, IsWorth, SpellsTimestamp}
use Rattle.ele_moment.proofs.Moments.{short_number, timestamp_only}
use Rattle.ele_moment.proofs.Timestamps.{fields_again, some_is}
use Rattle.ele_tool_words.specs.ReadParts.{midnight_of, midnight_text, rest_of, stamp_of}
use Rattle.ele_tool_words.specs.Time.{IsMark, IsShown, SpellsDate, SpellsZoned}
use Rattle.ele_tool_words.specs.declared.zone.Offset.{Offset}
use Rattle.ele_tool_words.proofs.Fractions.{rest_found, rest_again}

-- a day as a date
date_of : (year month day : ℕ) → IsDay year month day → Date
date_of year month day is =
    record { year = pos year; month = month; day = day; year_in = (omega (arith, signed_arith, is.year_in.0), omega (arith, signed_arith, is.year_in.1)); month_in = is.month_in; day_in = is.day_in }

-- the number of a day is at most that of 9999-12-31
day_bound : (year month day n : ℕ) → IsDay year month day → IsDayNumber year month day n → n ≤ 2932896
unfolding date_of
day_bound year month day n is number =
    let range = epoch_day_range (date_of year month day is) in
    omega (arith, signed_arith, ints, range.1, number)

-- so a date and a time of day are worth a moment
local_bound : (f : Fields) (local : ℕ) → IsTimestamp f → IsWorth f local → local ≤ last_moment
local_bound f local is worth =
    let bound = day_bound f.year f.month f.day worth.0 is.date worth.1 in
    let same = worth.2 in
    omega (arith, bound, same, is.hour, is.minute, is.second)

pub stamp_moment : (s : List ℕ) (m : ℕ) → SpellsTimestamp s m → SpellsMoment s m
stamp_moment s m h = record { in_range = local_bound h.fields m h.is h.worth; form = inr h }

-- a moment in 20 bytes is a date and a time of day
pub moment_stamp : (s : List ℕ) (m : ℕ) → length s ≡ 20 → SpellsMoment s m → SpellsTimestamp s m
moment_stamp s m long h = elim h.form [
  | inl number ↦ let short = short_number s m h.in_range number in absurd (omega (arith, short, long))
  | inr stamp ↦ stamp
]

-- no word has two of them
pub one_stamp : (s : List ℕ) (m n : ℕ) → SpellsTimestamp s m → SpellsTimestamp s n → m ≡ n
one_stamp s m n h k =
    let is = h.is in
    let most = days_in_month_bounds (pos h.fields.year) h.fields.month in
    let again = ap fields_of h.text ∙ fields_again h.fields (omega (arith, is.date.year_in.1)) (omega (arith, is.date.month_in.1)) (omega (arith, is.date.day_in.1, most.1)) (omega (arith, is.hour)) (omega (arith, is.minute)) (omega (arith, is.second)) in
    some_is m n (timestamp_only s h.fields (Some m) again h.worth (λ _. refl) n k)

exact_take : (n : ℕ) (xs ys : List ℕ) → length xs ≡ n → take n (xs ++ ys) ≡ xs
exact_take n xs ys e = subst (λ (k : ℕ). take k (xs ++ ys) ≡ xs) e (take-append_seam xs ys)

exact_drop : (n : ℕ) (xs ys : List ℕ) → length xs ≡ n → drop n (xs ++ ys) ≡ ys
exact_drop n xs ys e = subst (λ (k : ℕ). drop k (xs ++ ys) ≡ ys) e (drop-append_seam xs ys)

-- a date at the start, and a time of day after the byte that follows
record AreFront (w : List ℕ) (f : Fields) : Type 0 where
  date : take 10 w ≡ date_text f.year f.month f.day
  time : take 8 (drop 11 w) ≡ time_text f.hour f.minute f.second

front_of : (w : List ℕ) (f : Fields) → 19 ≤ length w → stamp_of w ≡ timestamp_text f → AreFront w f
front_of w f long text =
    let ten = length-take-le 10 w (omega (arith, long)) in
    let behind : 84 ∷ take 8 (drop 11 w) ++ 90 ∷ [] ≡ 84 ∷ time_text f.hour f.minute f.second ++ 90 ∷ [] =
    sym (exact_drop 10 (take 10 w) (84 ∷ take 8 (drop 11 w) ++ 90 ∷ []) ten) ∙ ap (drop 10) text in
    record {
      date = sym (exact_take 10 (take 10 w) (84 ∷ take 8 (drop 11 w) ++ 90 ∷ []) ten) ∙ ap (take 10) text;
      time = append_cancel_right (take 8 (drop 11 w)) (time_text f.hour f.minute f.second) (90 ∷ []) (ap (drop 1) behind);
    }

-- the word by its parts
front_text : (w : List ℕ) (f : Fields) → 19 ≤ length w → AreFront w f
    → w ≡ date_text f.year f.month f.day ++ get_or w 10 0 ∷ time_text f.hour f.minute f.second ++ drop 19 w
front_text w f long front =
    let rest = sym (take-append-drop 8 (drop 11 w)) ∙ ap (λ (r : List ℕ). r ++ drop 8 (drop 11 w)) front.time ∙ ap (λ (r : List ℕ). time_text f.hour f.minute f.second ++ r) (drop-drop 8 11 w) in
    split_at w 10 0 (omega (arith, long)) ∙ ap (λ (r : List ℕ). r ++ get_or w 10 0 ∷ drop 11 w) front.date ∙ ap (λ (r : List ℕ). date_text f.year f.month f.day ++ get_or w 10 0 ∷ r) rest

-- what was read is spelled
pub zoned_found : (w : List ℕ) (local m : ℕ) (o : Offset) → 19 ≤ length w → IsMark (get_or w 10 0)
    → length (stamp_of w) ≡ 20 → SpellsMoment (stamp_of w) local → rest_of (drop 19 w) ≡ Some o → IsShown local o m → SpellsZoned w m
zoned_found w local m o long mark twenty is rest shown =
    let stamp = moment_stamp (stamp_of w) local twenty is in
    let front = front_of w stamp.fields long stamp.text in
    let behind = rest_found (drop 19 w) o rest in
    record {
      fields = stamp.fields;
      mark = get_or w 10 0;
      fraction = behind.fraction;
      zone = behind.zone;
      local = local;
      offset = o;
      text = front_text w stamp.fields long front ∙ ap (λ (r : List ℕ). date_text stamp.fields.year stamp.fields.month stamp.fields.day ++ get_or w 10 0 ∷ time_text stamp.fields.hour stamp.fields.minute stamp.fields.second ++ r) behind.parts;
      is = stamp.is;
      mark_is = mark;
      fraction_is = behind.fraction_is;
      zone_is = behind.zone_is;
      worth = stamp.worth;
      shown = shown;
    }

-- and what is spelled is read
pub zoned_local : (w : List ℕ) (m : ℕ) (h : SpellsZoned w m) → SpellsTimestamp (stamp_of w) h.local
zoned_local w m h = record { fields = h.fields; is = h.is; text = ap stamp_of h.text; worth = h.worth }

pub zoned_mark : (w : List ℕ) (m : ℕ) (h : SpellsZoned w m) → get_or w 10 0 ≡ h.mark
zoned_mark w m h = ap (λ (w : List ℕ). get_or w 10 0) h.text

pub zoned_rest : (w : List ℕ) (m : ℕ) (h : SpellsZoned w m) → rest_of (drop 19 w) ≡ Some h.offset
zoned_rest w m h = ap (λ (w : List ℕ). rest_of (drop 19 w)) h.text ∙ rest_again h.fraction h.zone h.offset h.fraction_is h.zone_is

pub zoned_long : (w : List ℕ) (m : ℕ) → SpellsZoned w m → 19 ≤ length w
zoned_long w m h = rw h.text (omega arith)

-- a date and its midnight
pub date_stamp : (w : List ℕ) (m : ℕ) → SpellsDate w m → SpellsTimestamp (midnight_of w) m
date_stamp w m h =
    record {
      fields = record { year = h.year; month = h.month; day = h.day; hour = 0; minute = 0; second = 0 };
      is = record { date = h.is; hour = omega arith; minute = omega arith; second = omega arith };
      text = ap midnight_of h.text;
      worth = (h.number, h.number_is, omega (arith, h.midnight));
    }

pub date_found : (w : List ℕ) (m : ℕ) → length w ≡ 10 → length (midnight_of w) ≡ 20 → SpellsMoment (midnight_of w) m → SpellsDate w m
date_found w m ten twenty is =
    let stamp = moment_stamp (midnight_of w) m twenty is in
    let f = stamp.fields in
    let text = stamp.text in
    let date : w ≡ date_text f.year f.month f.day = sym (exact_take 10 w midnight_text ten) ∙ ap (take 10) text in
    let behind : midnight_text ≡ 84 ∷ time_text f.hour f.minute f.second ++ 90 ∷ [] =
    sym (exact_drop 10 w midnight_text ten) ∙ ap (drop 10) text in
    let hours : (◌≡◌ {A = ℕ} 48 (48 + f.hour / 10)) × (◌≡◌ {A = ℕ} 48 (48 + f.hour % 10)) = (cc, cc) in
    let minutes : (◌≡◌ {A = ℕ} 48 (48 + f.minute / 10)) × (◌≡◌ {A = ℕ} 48 (48 + f.minute % 10)) = (cc, cc) in
    let seconds : (◌≡◌ {A = ℕ} 48 (48 + f.second / 10)) × (◌≡◌ {A = ℕ} 48 (48 + f.second % 10)) = (cc, cc) in
    record {
      year = f.year;
      month = f.month;
      day = f.day;
      number = stamp.worth.0;
      is = stamp.is.date;
      text = date;
      number_is = stamp.worth.1;
      midnight = omega (arith, stamp.worth.2, hours.0, hours.1, minutes.0, minutes.1, seconds.0, seconds.1);
    }

-- a date has a dash after its year
pub date_dash : (w : List ℕ) (m : ℕ) → SpellsDate w m → (get_or w 4 0 ≡ 45) × (length w ≡ 10)
date_dash w m h = (ap (λ (w : List ℕ). get_or w 4 0) h.text, ap length h.text)

-- a time of day that is put between `T` and `Z`
pub put_between : (date time : List ℕ) → length date ≡ 10 → put_mid 11 8 (date ++ codes "T__:__:__Z") time ≡ date ++ (84 ∷ time ++ 90 ∷ [])
put_between date time ten =
    let blank = codes "T__:__:__Z" in
    let eleven : length date + 1 ≡ 11 = omega (arith, ten) in
    let front : take 11 (date ++ blank) ≡ date ++ 84 ∷ [] = subst (λ (k : ℕ). take k (date ++ blank) ≡ date ++ 84 ∷ []) eleven (take-append-add date blank 1) in
    let behind : drop 11 (date ++ blank) ≡ codes "__:__:__Z" = subst (λ (k : ℕ). drop k (date ++ blank) ≡ codes "__:__:__Z") eleven (drop-append-add date blank 1) in
    ap (λ (r : List ℕ). r ++ (time ++ drop 8 (drop 11 (date ++ blank)))) front
    ∙ ap (λ (r : List ℕ). (date ++ 84 ∷ []) ++ (time ++ drop 8 r)) behind
    ∙ append_assoc date (84 ∷ []) (time ++ 90 ∷ [])
