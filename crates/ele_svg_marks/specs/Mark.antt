-- What a drawing is made of, and how each is written in SVG.
use Rattle.std.specs.Prelude.{ℕ, ◌%◌, ◌/◌, ◌==◌, ◌||◌, nat_lt, List, [], ◌∷◌, ◌++◌, codes, decimal, take, if◌then◌else◌}
use Rattle.std.specs.List.{flat_map, join_with_byte}
use Rattle.ele_forecast_text.specs.Stamp.{stamp_of}
use Rattle.ele_forecast_text.specs.Why.{length_words}
use Rattle.ele_svg_marks.specs.declared.mark.Fill.{Fill}
use Rattle.ele_svg_marks.specs.declared.mark.Fill.TheVariants as fill
use Rattle.ele_svg_marks.specs.declared.mark.Mark.{Mark}
use Rattle.ele_svg_marks.specs.declared.mark.Mark.TheVariants.{Rect, Line, Text}
use Rattle.ele_svg_marks.specs.declared.mark.Side.{Side}
use Rattle.ele_svg_marks.specs.declared.mark.Side.TheVariants.{Before, Around, Behind}
use Rattle.ele_svg_marks.specs.declared.mark.Stroke.{Stroke}
use Rattle.ele_svg_marks.specs.declared.mark.Stroke.TheVariants as stroke
use Rattle.ele_svg_marks.specs.declared.mark.Words.{Words}
use Rattle.ele_svg_marks.specs.declared.mark.Words.TheVariants as words

-- parts one behind another
abbrev pub glued : List (List ℕ) → List ℕ
glued parts = flat_map (λ part. part) parts

-- colours that differ in grey too: from black to white, current, kept, due
abbrev pub fill_word : Fill → List ℕ
fill_word fill.Paper = codes "#fff"
fill_word fill.Current = codes "#14375a"
fill_word fill.Kept = codes "#3f7fbf"
fill_word fill.Due = codes "#f5b041"
fill_word fill.Stays = codes "#000"
fill_word fill.Hatched = codes "url(#hatch)"

abbrev pub rect_text : ℕ → ℕ → ℕ → ℕ → Fill → List ℕ
rect_text x y width height color =
    glued (codes "<rect x='" ∷ decimal x ∷ codes "' y='" ∷ decimal y ∷ codes "' width='" ∷ decimal width ∷ codes "' height='" ∷ decimal height
    ∷ codes "' fill='" ∷ fill_word color ∷ codes "' stroke='#000' stroke-width='0.6'/>\n" ∷ [])

-- the curves of several policies differ in their dashes too
abbrev pub stroke_words : Stroke → List ℕ
stroke_words stroke.Grid = codes "#bbb' stroke-width='0.5"
stroke_words stroke.Thin = codes "#000' stroke-width='0.6"
stroke_words stroke.Dotted = codes "#000' stroke-width='0.6' stroke-dasharray='1.5 2.5"
stroke_words stroke.Dashed = codes "#000' stroke-width='1.2' stroke-dasharray='6 3"
stroke_words stroke.Bar = codes "#3f7fbf' stroke-width='3"
stroke_words stroke.First = codes "#14375a' stroke-width='1.8"
stroke_words stroke.Second = codes "#d35400' stroke-width='1.8' stroke-dasharray='9 3"
stroke_words stroke.Third = codes "#3f7fbf' stroke-width='1.8' stroke-dasharray='4 2"
stroke_words stroke.Fourth = codes "#7d3c98' stroke-width='1.8' stroke-dasharray='1.5 2"

-- from one place to another, each so many pixels from the left and from above
abbrev pub stroke_text : ℕ × ℕ → ℕ × ℕ → Stroke → List ℕ
stroke_text from to drawn =
    glued (codes "<line x1='" ∷ decimal from.0 ∷ codes "' y1='" ∷ decimal from.1 ∷ codes "' x2='" ∷ decimal to.0 ∷ codes "' y2='" ∷ decimal to.1
    ∷ codes "' stroke='" ∷ stroke_words drawn ∷ codes "'/>\n" ∷ [])

-- a text stands before its place, around it or behind it
abbrev pub side_word : Side → List ℕ
side_word Before = codes "end"
side_word Around = codes "middle"
side_word Behind = codes "start"

-- the largest unit of which the bytes are a multiple, up to 10^12, and its name
abbrev pub unit_size : ℕ → ℕ
unit_size bytes =
    if nat_lt 0 (bytes % 1000) || (bytes == 0) then 1 else (if nat_lt 0 (bytes % 1000000) then 1000 else (if nat_lt 0 (bytes % 1000000000) then 1000000
    else (if nat_lt 0 (bytes % 1000000000000) then 1000000000 else 1000000000000)))

abbrev pub unit_name : ℕ → List ℕ
unit_name bytes =
    if nat_lt 0 (bytes % 1000) || (bytes == 0) then codes " B" else (if nat_lt 0 (bytes % 1000000) then codes " kB" else (if nat_lt 0 (bytes % 1000000000) then codes " MB"
    else (if nat_lt 0 (bytes % 1000000000000) then codes " GB" else codes " TB")))

abbrev pub bytes_text : ℕ → List ℕ
bytes_text bytes = decimal (bytes / unit_size bytes) ++ unit_name bytes

-- of a moment's date and time of day, a date is the first ten bytes, a month seven and a year four
abbrev pub label_text : Words → List ℕ
label_text (words.Number number) = glued (codes "v" ∷ decimal number ∷ [])
label_text (words.DueBy number) = glued (codes "due by v" ∷ decimal number ∷ [])
label_text words.Due = codes "due"
label_text words.Kept = codes "kept"
label_text words.Current = codes "current"
label_text words.Narrow = codes "spans too narrow to draw"
label_text words.Closings = codes "all versions, by closing"
label_text words.Bars = codes "bars: how many versions closed then that a level lets stay"
label_text words.VersionsAxis = codes "versions that stay"
label_text words.BytesAxis = codes "bytes that stay"
label_text words.NoNewer = codes "no newer version"
label_text (words.Count count) = decimal count
label_text (words.Bytes bytes) = bytes_text bytes
label_text (words.Stay count) = decimal count ++ codes " stay"
label_text (words.Seconds moment) = decimal moment
label_text (words.Stamp moment) = stamp_of moment
label_text (words.Date moment) = take 10 (stamp_of moment)
label_text (words.Month moment) = take 7 (stamp_of moment)
label_text (words.Year moment) = take 4 (stamp_of moment)
label_text (words.Level age width) = join_with_byte 32 (codes "age" ∷ length_words age) ++ join_with_byte 32 (codes ", span" ∷ length_words width)

abbrev pub opening : ℕ → ℕ → ℕ → Side → List ℕ
opening x y size side =
    glued (codes "<text x='" ∷ decimal x ∷ codes "' y='" ∷ decimal y ∷ codes "' font-size='" ∷ decimal size ∷ codes "' text-anchor='" ∷ side_word side ∷ codes "'>" ∷ [])

abbrev pub mark_text : Mark → List ℕ
mark_text (Rect x y width height color) = rect_text x y width height color
mark_text (Line from to drawn) = stroke_text from to drawn
mark_text (Text x y size side said) = opening x y size side ++ (label_text said ++ codes "</text>\n")
