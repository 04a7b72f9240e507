-- Times by the clock of a place.
use Rattle.std.proofs.Common.{◌≡◌, ◌≢◌, ℕ, ◌<◌, ◌≤◌, Bor, option_map, List, [], ◌∷◌, drop, length, get_or, Option, Some, None, inl, inr, refl, sym, ap, subst, ◌∙◌, arith}
use Rattle.ele_moment.specs.Last.{last_moment}
use Rattle.ele_moment.specs.Spelled.{SpellsMoment}
use Rattle.ele_moment.specs.Timestamp.{SpellsTimestamp}
use Rattle.ele_moment.proofs.Moments.{short_number}
use Rattle.ele_moment.proofs.Timestamps.{some_is}
use Rattle.ele_tool_words.specs.ByClock.{SpellsBy, SpellsNamed, SpellsUnnamed}
use Rattle.ele_tool_words.specs.ReadParts.{after_fraction, stamp_of, zone_by, zone_of}
use Rattle.ele_tool_words.specs.Time.{IsMark, IsShown, SpellsDate, SpellsZoned}
use Rattle.ele_tool_words.specs.declared.by_clock.Clocked.{Clocked}
use Rattle.ele_tool_words.specs.declared.zone.Offset.{Offset}
use Rattle.ele_tool_words.specs.declared.zone.Offset.TheVariants.{Ahead}
use Rattle.ele_tool_words.proofs.Fractions.{rest_by_zone, zone_again_behind}
use Rattle.ele_tool_words.proofs.Locals.{date_dash, moment_stamp, one_stamp, zoned_found, zoned_local, zoned_long, zoned_mark, zoned_rest}
use Rattle.ele_tool_words.proofs.Times.{no_dash}
use Rattle.ele_tool_words.proofs.Zones.{zone_again}

-- the zone of a time is what follows its fraction
zoned_zone : (w : List ℕ) (m : ℕ) (h : SpellsZoned w m) → after_fraction (drop 19 w) ≡ Some h.zone
zoned_zone w m h = ap (λ (w : List ℕ). after_fraction (drop 19 w)) h.text ∙ zone_again_behind h.fraction h.zone h.offset h.fraction_is h.zone_is

same_zone : (a b : List ℕ) → ◌≡◌ {A = Option (List ℕ)} (Some a) (Some b) → a ≡ b
same_zone a b e = cc

-- a zone that was found, or not
pub zone_some : (o : Option (Bor (List ℕ))) (z : Bor (List ℕ)) (got : Option (List ℕ)) → option_map (λ z. z.now) o ≡ got → o ≡ Some z → got ≡ Some z.now
zone_some o z got e was = sym e ∙ ap (option_map (λ (z : Bor (List ℕ)). z.now)) was

pub zone_none : (o : Option (Bor (List ℕ))) (got : Option (List ℕ)) → option_map (λ z. z.now) o ≡ got → o ≡ None → got ≡ None
zone_none o got e was = sym e ∙ ap (option_map (λ (z : Bor (List ℕ)). z.now)) was

pub same_clocked : (m : ℕ) (o p : Offset) → o ≡ p → ◌≡◌ {A = Option Clocked} (Some (record { moment = m; offset = o })) (Some (record { moment = m; offset = p }))
same_clocked m o p e = rw e refl

-- what is read of a time of 19 bytes or more
pub record IsReadBy (w : List ℕ) (local : ℕ) (z : List ℕ) : Type 0 where
  pub long : 19 ≤ length w
  pub twenty : length (stamp_of w) ≡ 20
  pub mark : IsMark (get_or w 10 0)
  pub stamp : SpellsMoment (stamp_of w) local
  pub zone : after_fraction (drop 19 w) ≡ Some z

-- is spelled
pub long_found : (home : Offset) (w : List ℕ) (local : ℕ) (z : List ℕ) (o : Offset) (m : ℕ) → IsReadBy w local z → zone_by home z ≡ Some o → m ≤ last_moment → IsShown local o m → SpellsBy home w m o
long_found home w local [] o m is by fits shown =
    let rest = rest_by_zone (drop 19 w) [] (Ahead 0) is.zone refl in
    let zoned = zoned_found w local local (Ahead 0) is.long is.mark is.twenty is.stamp rest (omega arith) in
    let none = same_zone zoned.zone [] (sym (zoned_zone w local zoned) ∙ is.zone) in
    let same = some_is home o by in
    record { in_range = fits; form = inr (inr (local, inr (record { zoned = zoned; unnamed = none }), subst (λ (o : Offset). IsShown local o m) (sym same) shown), sym same) }
long_found home w local (c ∷ z) o m is by fits shown =
    let rest = rest_by_zone (drop 19 w) (c ∷ z) o is.zone by in
    let zoned = zoned_found w local m o is.long is.mark is.twenty is.stamp rest shown in
    let some = same_zone zoned.zone (c ∷ z) (sym (zoned_zone w m zoned) ∙ is.zone) in
    let offset = some_is zoned.offset o (sym (zoned_rest w m zoned) ∙ rest) in
    record { in_range = fits; form = inl (record { zoned = zoned; named = λ e. let none : c ∷ z ≡ [] = sym some ∙ e in cc; offset_is = sym offset }) }

-- a time of 19 bytes or more by its parts
pub record HasParts (home : Offset) (w : List ℕ) (m : ℕ) (o : Offset) : Type 0 where
  pub local : ℕ
  pub zone : List ℕ
  pub mark : IsMark (get_or w 10 0)
  pub stamp : SpellsTimestamp (stamp_of w) local
  pub zone_is : after_fraction (drop 19 w) ≡ Some zone
  pub offset : zone_by home zone ≡ Some o
  pub shown : IsShown local o m

named_by : (home : Offset) (z : List ℕ) → z ≢ [] → zone_by home z ≡ zone_of z
named_by home [] some = absurd (some refl)
named_by home (c ∷ z) some = refl

named_parts : (home : Offset) (w : List ℕ) (m : ℕ) (o : Offset) → SpellsNamed w m o → HasParts home w m o
named_parts home w m o h =
    record {
      local = h.zoned.local;
      zone = h.zoned.zone;
      mark = subst IsMark (sym (zoned_mark w m h.zoned)) h.zoned.mark_is;
      stamp = zoned_local w m h.zoned;
      zone_is = zoned_zone w m h.zoned;
      offset = named_by home h.zoned.zone h.named ∙ zone_again h.zoned.zone h.zoned.offset h.zoned.zone_is ∙ ap Some (sym h.offset_is);
      shown = subst (λ (o : Offset). IsShown h.zoned.local o m) (sym h.offset_is) h.zoned.shown;
    }

unnamed_local : (w : List ℕ) (local : ℕ) (h : SpellsUnnamed w local) → local ≡ h.zoned.local
unnamed_local w local h =
    let utc = some_is (Ahead 0) h.zoned.offset (ap zone_of (sym h.unnamed) ∙ zone_again h.zoned.zone h.zoned.offset h.zoned.zone_is) in
    let shown = subst (λ (o : Offset). IsShown h.zoned.local o local) (sym utc) h.zoned.shown in
    omega (arith, shown)

unnamed_parts : (home : Offset) (w : List ℕ) (m local : ℕ) (o : Offset) → SpellsUnnamed w local → IsShown local home m → o ≡ home → HasParts home w m o
unnamed_parts home w m local o h shown same =
    record {
      local = local;
      zone = [];
      mark = subst IsMark (sym (zoned_mark w local h.zoned)) h.zoned.mark_is;
      stamp = subst (λ (l : ℕ). SpellsTimestamp (stamp_of w) l) (sym (unnamed_local w local h)) (zoned_local w local h.zoned);
      zone_is = zoned_zone w local h.zoned ∙ ap Some h.unnamed;
      offset = ap Some (sym same);
      shown = subst (λ (o : Offset). IsShown local o m) (sym same) shown;
    }

pub long_parts : (home : Offset) (w : List ℕ) (m : ℕ) (o : Offset) → 19 ≤ length w → SpellsBy home w m o → HasParts home w m o
long_parts home w m o long h = elim h.form [
  | inl named ↦ named_parts home w m o named
  | inr here ↦ elim here.0 [
    | inl number ↦ let short = short_number w m h.in_range number in absurd (omega (arith, short, long))
    | inr local ↦ elim local.1 [
      | inl date ↦ let ten = (date_dash w local.0 date).1 in absurd (omega (arith, ten, long))
      | inr unnamed ↦ unnamed_parts home w m local.0 o unnamed local.2 here.1
    ]
  ]
]

-- and nothing else is
pub long_only : (home : Offset) (w : List ℕ) (local : ℕ) (z : List ℕ) (p o : Offset) (m : ℕ) → IsReadBy w local z → zone_by home z ≡ Some p → HasParts home w m o → IsShown local p m × (p ≡ o)
long_only home w local z p o m is by parts =
    let stamp = one_stamp (stamp_of w) parts.local local parts.stamp (moment_stamp (stamp_of w) local is.twenty is.stamp) in
    let zone = same_zone parts.zone z (sym parts.zone_is ∙ is.zone) in
    let offset = some_is o p (sym parts.offset ∙ ap (zone_by home) zone ∙ by) in
    (subst (λ (l : ℕ). IsShown l p m) stamp (subst (λ (q : Offset). IsShown parts.local q m) offset parts.shown), sym offset)

-- a date is its midnight
pub day_found : (home : Offset) (w : List ℕ) (local m : ℕ) → SpellsDate w local → m ≤ last_moment → IsShown local home m → SpellsBy home w m home
day_found home w local m date fits shown = record { in_range = fits; form = inr (inr (local, inl date, shown), refl) }

pub day_parts : (home : Offset) (w : List ℕ) (m : ℕ) (o : Offset) → length w ≡ 10 → get_or w 4 0 ≡ 45 → SpellsBy home w m o → (local : ℕ) × SpellsDate w local × IsShown local home m × (o ≡ home)
day_parts home w m o ten dash h = elim h.form [
  | inl named ↦ let long = zoned_long w m named.zoned in absurd (omega (arith, ten, long))
  | inr here ↦ elim here.0 [
    | inl number ↦ absurd (no_dash w m number (omega (arith, ten)) dash)
    | inr local ↦ elim local.1 [
      | inl date ↦ (local.0, date, local.2, here.1)
      | inr unnamed ↦ let long = zoned_long w local.0 unnamed.zoned in absurd (omega (arith, ten, long))
    ]
  ]
]

-- a number of seconds
pub seconds_found : (home : Offset) (w : List ℕ) (m : ℕ) → length w < 19 → SpellsMoment w m → SpellsBy home w m home
seconds_found home w m short h = elim h.form [
  | inl number ↦ record { in_range = h.in_range; form = inr (inl number, refl) }
  | inr stamp ↦ let twenty = ap length stamp.text in absurd (omega (arith, short, twenty))
]

pub seconds_parts : (home : Offset) (w : List ℕ) (m : ℕ) (o : Offset) → length w < 19 → (length w ≡ 10 → get_or w 4 0 ≡ 45 → ⊥) → SpellsBy home w m o → SpellsMoment w m × (o ≡ home)
seconds_parts home w m o short undated h = elim h.form [
  | inl named ↦ let long = zoned_long w m named.zoned in absurd (omega (arith, short, long))
  | inr here ↦ elim here.0 [
    | inl number ↦ (record { in_range = h.in_range; form = inl number }, here.1)
    | inr local ↦ elim local.1 [
      | inl date ↦ let dash = date_dash w local.0 date in absurd (undated dash.1 dash.0)
      | inr unnamed ↦ let long = zoned_long w local.0 unnamed.zoned in absurd (omega (arith, short, long))
    ]
  ]
]
