-- The clocks by which times are written.
use Rattle.std.proofs.Common.{◌≡◌, ℕ, ◌<◌, ◌≤◌, drop, List, length, Option, Some, None, IfSome, inl, inr, refl, sym, ◌∙◌, arith}
use Rattle.ele_moment.proofs.Timestamps.{some_is}
use Rattle.ele_tool_words.specs.Clock.{SpellsClocked}
use Rattle.ele_tool_words.specs.ReadParts.{rest_of, zone_of}
use Rattle.ele_tool_words.specs.Time.{SpellsTime}
use Rattle.ele_tool_words.specs.Zone.{SpellsZone}
use Rattle.ele_tool_words.specs.declared.zone.Offset.{Offset}
use Rattle.ele_tool_words.specs.declared.zone.Offset.TheVariants.{Ahead}
use Rattle.ele_tool_words.proofs.Locals.{zoned_long, zoned_rest}
use Rattle.ele_tool_words.proofs.Times.{long_zoned}
use Rattle.ele_tool_words.proofs.Zones.{zone_again, zone_found}

-- a short word is UTC's
pub short_clock : (w : List ℕ) (m : ℕ) → length w < 19 → SpellsTime w m → SpellsClocked w m (Ahead 0)
short_clock w m short h = elim h.form [
  | inl number ↦ record { in_range = h.in_range; form = inl (inl number, refl) }
  | inr stamp ↦ elim stamp [
    | inl date ↦ record { in_range = h.in_range; form = inl (inr date, refl) }
    | inr zoned ↦ let long = zoned_long w m zoned in absurd (omega (arith, short, long))
  ]
]

-- what follows the time of day is the zone
pub long_clock : (w : List ℕ) (m : ℕ) (o : Offset) → 19 ≤ length w → rest_of (drop 19 w) ≡ Some o → SpellsTime w m → SpellsClocked w m o
long_clock w m o long rest h =
    let zoned = long_zoned w m long h in
    record { in_range = h.in_range; form = inr (zoned, some_is o zoned.offset (sym rest ∙ zoned_rest w m zoned)) }

-- and there is one
pub some_clock : {P : Type 0} (w : List ℕ) (m : ℕ) → 19 ≤ length w → rest_of (drop 19 w) ≡ None → SpellsTime w m → P
some_clock w m long none h =
    let zoned = long_zoned w m long h in
    let e : ◌≡◌ {A = Option Offset} None (Some zoned.offset) = sym none ∙ zoned_rest w m zoned in
    absurd cc

-- an offset that was read is spelled
pub offset_read : (w : List ℕ) (r : Option Offset) → r ≡ zone_of w → IfSome r (SpellsZone w)
offset_read w (Some o) e = zone_found w o (sym e)
offset_read w None e = tt

-- an offset that is spelled was read
pub offset_only : (w : List ℕ) (r : Option Offset) (o : Offset) → r ≡ zone_of w → SpellsZone w o → r ≡ Some o
offset_only w r o e h = e ∙ zone_again w o h
