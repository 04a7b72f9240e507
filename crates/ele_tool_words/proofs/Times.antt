-- The forms of a time.
use Rattle.std.proofs.Common.{◌≡◌, ℕ, ◌<◌, ◌≤◌, take, drop, ◌++◌, List, [], ◌∷◌, length, get_or, Option, Some, None, IfSome, inl, inr, refl, sym, subst, ◌∙◌, arith}
use Rattle.std.specs.Str.Parse.{AllDigits}
use Rattle.std.proofs.lemmas.Fmt.{decimal_injective, decimal_is_IsNumeral}
use Rattle.std.proofs.lemmas.Str.Parse.{digit_at}
use Rattle.std.proofs.lemmas.List.{length-append, length-drop, length-take-le}
use Rattle.ele_moment.specs.Last.{last_moment}
use Rattle.ele_moment.specs.Number.{SpellsNumber}
use Rattle.ele_moment.specs.Spelled.{SpellsMoment}
use Rattle.ele_moment.specs.Timestamp.{SpellsTimestamp}
use Rattle.ele_moment.proofs.Moments.{short_number}
use Rattle.ele_moment.proofs.Timestamps.{some_is}
use Rattle.ele_tool_words.specs.OneTime.{OneTime}
use Rattle.ele_tool_words.specs.ReadParts.{midnight_of, stamp_of}
use Rattle.ele_tool_words.specs.Time.{IsMark, IsShown, SpellsDate, SpellsTime, SpellsZoned}
use Rattle.ele_tool_words.specs.declared.zone.Offset.{Offset}
use Rattle.ele_tool_words.specs.declared.zone.Offset.TheVariants.{Ahead, Behind}
use Rattle.ele_tool_words.specs.ReadParts.{rest_of}
use Rattle.ele_tool_words.proofs.Locals.{date_dash, date_stamp, moment_stamp, one_stamp, zoned_found, zoned_local, zoned_long, zoned_rest}

-- a number has no dash
pub no_dash : (w : List ℕ) (n : ℕ) → SpellsNumber w n → 4 < length w → get_or w 4 0 ≡ 45 → ⊥
no_dash w n h long dash =
    let digits = subst (AllDigits 10) (sym h.digits) (decimal_is_IsNumeral n h.fits).0.1 in
    let digit = digit_at w 4 digits long in
    omega (arith, digit.0, dash)

one_shown : (local : ℕ) (o : Offset) (m n : ℕ) → IsShown local o m → IsShown local o n → m ≡ n
one_shown local (Ahead minutes) m n h k = omega (arith, h, k)
one_shown local (Behind minutes) m n h k = omega (arith, h, k)

one_zoned : (w : List ℕ) (m n : ℕ) → SpellsZoned w m → SpellsZoned w n → m ≡ n
one_zoned w m n h k =
    let local = one_stamp (stamp_of w) h.local k.local (zoned_local w m h) (zoned_local w n k) in
    let offset = some_is h.offset k.offset (sym (zoned_rest w m h) ∙ zoned_rest w n k) in
    one_shown k.local k.offset m n (subst (λ (l : ℕ). IsShown l k.offset m) local (subst (λ (o : Offset). IsShown h.local o m) offset h.shown)) k.shown

number_date : {P : Type 0} (w : List ℕ) (m n : ℕ) → SpellsNumber w m → SpellsDate w n → P
number_date w m n number date =
    let dash = date_dash w n date in
    absurd (no_dash w m number (omega (arith, dash.1)) dash.0)

number_zoned : {P : Type 0} (w : List ℕ) (m n : ℕ) → m ≤ last_moment → SpellsNumber w m → SpellsZoned w n → P
number_zoned w m n fits number zoned =
    let short = short_number w m fits number in
    let long = zoned_long w n zoned in
    absurd (omega (arith, short, long))

date_zoned : {P : Type 0} (w : List ℕ) (m n : ℕ) → SpellsDate w m → SpellsZoned w n → P
date_zoned w m n date zoned =
    let ten = (date_dash w m date).1 in
    let long = zoned_long w n zoned in
    absurd (omega (arith, ten, long))

one : (w : List ℕ) (m n : ℕ) → SpellsTime w m → SpellsTime w n → m ≡ n
one w m n h k = elim h.form [
  | inl number ↦ elim k.form [
    | inl other ↦ decimal_injective m n number.fits other.fits (sym number.digits ∙ other.digits)
    | inr stamp ↦ elim stamp [ inl date ↦ number_date w m n number date | inr zoned ↦ number_zoned w m n h.in_range number zoned ]
  ]
  | inr stamp ↦ elim stamp [
    | inl date ↦ elim k.form [
      | inl number ↦ number_date w n m number date
      | inr other ↦ elim other [
        | inl day ↦ one_stamp (midnight_of w) m n (date_stamp w m date) (date_stamp w n day)
        | inr zoned ↦ date_zoned w m n date zoned
      ]
    ]
    | inr zoned ↦ elim k.form [
      | inl number ↦ number_zoned w n m k.in_range number zoned
      | inr other ↦ elim other [ inl date ↦ date_zoned w n m date zoned | inr same ↦ one_zoned w m n zoned same ]
    ]
  ]
]

-- a date and a time of day in UTC
stamp_zoned : (w : List ℕ) (m : ℕ) → SpellsTimestamp w m → SpellsZoned w m
stamp_zoned w m h =
    record {
      fields = h.fields;
      mark = 84;
      fraction = [];
      zone = 90 ∷ [];
      local = m;
      offset = Ahead 0;
      text = h.text;
      is = h.is;
      mark_is = inl refl;
      fraction_is = tt;
      zone_is = inl (inr (inl refl), refl);
      worth = h.worth;
      shown = omega arith;
    }

moment_time : (w : List ℕ) (m : ℕ) → SpellsMoment w m → SpellsTime w m
moment_time w m h =
    record {
      in_range = h.in_range;
      form = elim h.form [ inl number ↦ inl number | inr stamp ↦ inr (inr (stamp_zoned w m stamp)) ];
    }

pub one_time : OneTime
one_time = record { one = one; moment = moment_time }

-- what is read between a date and a time of day, in both, and after them
pub record IsRead (w : List ℕ) (local : ℕ) (o : Offset) : Type 0 where
  pub long : 19 ≤ length w
  pub twenty : length (stamp_of w) ≡ 20
  pub mark : IsMark (get_or w 10 0)
  pub stamp : SpellsMoment (stamp_of w) local
  pub rest : rest_of (drop 19 w) ≡ Some o

-- is spelled
pub read_found : (w : List ℕ) (local : ℕ) (o : Offset) (r : Option ℕ) → IsRead w local o → IfSome r (IsShown local o) → IfSome r (SpellsZoned w)
read_found w local o (Some m) is shown = zoned_found w local m o is.long is.mark is.twenty is.stamp is.rest shown
read_found w local o None is shown = tt

-- and nothing else is
pub read_only : (w : List ℕ) (local : ℕ) (o : Offset) (m : ℕ) → SpellsMoment (stamp_of w) local → rest_of (drop 19 w) ≡ Some o → length (stamp_of w) ≡ 20 → SpellsZoned w m → IsShown local o m
read_only w local o m stamp rest twenty h =
    let same = one_stamp (stamp_of w) h.local local (zoned_local w m h) (moment_stamp (stamp_of w) local twenty stamp) in
    let offset = some_is h.offset o (sym (zoned_rest w m h) ∙ rest) in
    subst (λ (l : ℕ). IsShown l o m) same (subst (λ (o : Offset). IsShown h.local o m) offset h.shown)

pub stamp_long : (w : List ℕ) → 19 ≤ length w → length (stamp_of w) ≡ 20
stamp_long w long = omega (arith, length-append (take 10 w) (84 ∷ take 8 (drop 11 w) ++ 90 ∷ []), length-append (take 8 (drop 11 w)) (90 ∷ []), length-take-le 10 w (omega (arith, long)), length-drop 11 w, length-take-le 8 (drop 11 w) (omega (arith, long, length-drop 11 w)))

-- a time of 19 bytes or more is zoned, and one of 10 with a dash is a date
pub long_zoned : (w : List ℕ) (m : ℕ) → 19 ≤ length w → SpellsTime w m → SpellsZoned w m
long_zoned w m long h = elim h.form [
  | inl number ↦ let short = short_number w m h.in_range number in absurd (omega (arith, short, long))
  | inr stamp ↦ elim stamp [ inl date ↦ let ten = (date_dash w m date).1 in absurd (omega (arith, ten, long)) | inr zoned ↦ zoned ]
]

pub dash_date : (w : List ℕ) (m : ℕ) → length w ≡ 10 → get_or w 4 0 ≡ 45 → SpellsTime w m → SpellsDate w m
dash_date w m ten dash h = elim h.form [
  | inl number ↦ absurd (no_dash w m number (omega (arith, ten)) dash)
  | inr stamp ↦ elim stamp [ inl date ↦ date | inr zoned ↦ let long = zoned_long w m zoned in absurd (omega (arith, ten, long)) ]
]
