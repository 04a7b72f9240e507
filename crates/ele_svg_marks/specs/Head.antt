-- What stands above a drawing: its title, what it draws, and what its colours mean.
use Rattle.std.specs.List.{flat_map, join_with_byte}
use Rattle.std.specs.Prelude.{List, [], codes, decimal, suc, zero, ℕ, ◌*◌, ◌++◌, ◌+◌, ◌-◌, ◌/◌, ◌∷◌}
use Rattle.ele_forecast_text.specs.Why.{length_words}
use Rattle.ele_policy.specs.Ladder.{Rung}
use Rattle.ele_policy.specs.declared.policy.Policy.{Policy}
use Rattle.ele_policy.specs.declared.policy.Policy.TheVariants as policy
use Rattle.ele_svg_marks.specs.Escaped.{titled}
use Rattle.ele_svg_marks.specs.Mark.{glued}
use Rattle.ele_svg_marks.specs.declared.page.Page.{Page}

-- below the rows are the ticks, and rows of labels
abbrev pub height_of : Page → ℕ
height_of page = page.foot + 24 + 12 * page.labels

-- the name of a floor, and none for none
abbrev pub floor_words : ℕ → List (List ℕ)
floor_words zero = []
floor_words (suc n) = codes "with a floor of" ∷ decimal (suc n) ∷ []

-- a level of a ladder: its age, and the width of its spans
abbrev pub rung_text : Rung → List ℕ
rung_text rung = join_with_byte 32 (codes "," ∷ length_words rung.0) ++ join_with_byte 32 (codes " /" ∷ length_words rung.1)

-- the name of a policy, with its numbers and a space in front
abbrev pub policy_name : Policy → List ℕ
policy_name policy.One = codes " Keep One"
policy_name policy.All = codes " Keep All"
policy_name (policy.Safe seconds floor) = join_with_byte 32 (codes " Keep Safe for" ∷ (length_words seconds ++ floor_words floor))
policy_name (policy.Landmarks rungs) = codes " Keep Landmarks (age / span)" ++ flat_map rung_text rungs

-- the document's opening, its title, its colours where the screen is dark, its background and what its hatches are
abbrev pub head_drawn : Page → List ℕ → List ℕ
head_drawn page title =
    glued (codes "<?xml version='1.0' encoding='UTF-8'?>\n"
    ∷ codes "<!DOCTYPE svg PUBLIC '-//W3C//DTD SVG 1.1//EN' 'http://www.w3.org/Graphics/SVG/1.1/DTD/svg11.dtd'>\n"
    ∷ codes "<svg xmlns='http://www.w3.org/2000/svg' version='1.1' font-family='sans-serif' width='960' height='" ∷ decimal (height_of page) ∷ codes "'>\n<title>" ∷ [])
    ++ (titled title
    ++ (glued (codes "</title>\n<style>text{paint-order:stroke;stroke:#fff;stroke-width:5px;stroke-linejoin:round}\n"
    ∷ codes "@media (prefers-color-scheme:dark){text{fill:#e6e6e6;stroke:#1b1e23}[fill='#fff']{fill:#1b1e23}[fill='#000']{fill:#fff}[fill='#14375a']{fill:#8fc1f0}\n"
    ∷ codes "[stroke='#000']{stroke:#ccc}[stroke='#bbb']{stroke:#4a4f57}[stroke='#555']{stroke:#999}[stroke='#14375a']{stroke:#8fc1f0}[stroke='#7d3c98']{stroke:#c39bd3}[stroke='#d35400']{stroke:#f0955a}}</style>\n"
    ∷ codes "<defs><pattern id='hatch' width='6' height='6' patternUnits='userSpaceOnUse'><path d='M0,6 6,0' stroke='#555' stroke-width='0.8'/></pattern></defs>\n"
    ∷ codes "<rect width='960' height='" ∷ decimal (height_of page) ∷ codes "' fill='#fff'/>\n<text x='20' y='20' font-size='15'>" ∷ [])
    ++ (titled title ++ codes "</text>\n")))

-- how many versions there are, and their policy
abbrev pub heading_drawn : Policy → ℕ → List ℕ
heading_drawn policy count =
    (codes "<text x='20' y='37' font-size='11'>" ++ decimal count) ++ (codes " versions under" ++ (policy_name policy ++ codes "</text>\n"))

-- what the colours of a row mean
abbrev pub legend_drawn : List ℕ
legend_drawn =
    glued (codes "<g font-size='10'>\n<rect x='20' y='47' width='8' height='8' fill='#fff' stroke='#000' stroke-width='0.6'/><text x='33' y='55'>closed</text>\n"
    ∷ codes "<rect x='90' y='48' width='20' height='6' fill='#14375a' stroke='#000' stroke-width='0.6'/><text x='115' y='55'>current</text>\n"
    ∷ codes "<rect x='180' y='48' width='20' height='6' fill='#3f7fbf' stroke='#000' stroke-width='0.6'/><text x='205' y='55'>kept by the policy</text>\n"
    ∷ codes "<rect x='320' y='49' width='20' height='3' fill='#f5b041' stroke='#000' stroke-width='0.6'/><text x='345' y='55'>due: may be removed</text>\n"
    ∷ codes "<rect x='475' y='47' width='8' height='8' fill='#000' stroke='#000' stroke-width='0.6'/><text x='488' y='55'>stays at the moment of a broken line</text>\n</g>\n" ∷ [])
