-- Rows in their order, made one after another.
use Rattle.std.proofs.Common.{get_or}
use Rattle.ele_lists.proofs.Cuts.{find-at}
use Rattle.ele_lists.proofs.Taken.{cut-at}
use Rattle.ele_model.specs.WellFormed.{AreApart}
use Rattle.ele_names.proofs.Words.{◌≡◌, ℕ, ◌≤◌, ◌<◌, ◌+◌, Bool, true, false, List, [], ◌∷◌, ◌++◌, length, take, drop, Some, None, Option, IsSome, IfSome, refl, sym, subst, ap, ◌∙◌, arith, AllByRecursion, AllLater, all-weaker, later-around, update_first, update_first-at, nat_tests, NameRow, is_live_name, live_target, Follows, born_row, dies}
use Rattle.ele_names.proofs.Apart.{named_dead, named_live, same_name}
use Rattle.ele_names.proofs.Live.{own_name}

-- the row's death, if it has one, isn't before its birth
abbrev pub EndsLater : NameRow → Type 0
EndsLater row = IfSome row.death (λ death. row.birth ≤ death)

follows : (earlier later : NameRow) → EndsLater earlier → AreApart earlier later → Follows earlier later
follows earlier later ends apart = record {
  apart = apart;
  born = λ d n.
      let died = apart d n in
      let lived : earlier.birth ≤ died.0 = rw died.1 at ends in
      let next : died.0 ≤ later.birth = died.2 in
      omega arith;
}

all_follow : (rows : List NameRow) → AllByRecursion EndsLater rows → AllLater AreApart rows → AllLater Follows rows
all_follow [] ends apart = tt
all_follow (x ∷ xs) ends apart = (all-weaker (AreApart x) (Follows x) xs (λ y h. follows x y ends.0 h) apart.0, all_follow xs ends.1 apart.1)

-- a row follows those before its place
pub before_follow : (rows : List NameRow) (place : ℕ) (row : NameRow) → AllByRecursion EndsLater rows → AllLater AreApart rows → place < length rows → get_or rows place row ≡ row
    → AllByRecursion (λ earlier. Follows earlier row) (take place rows)
before_follow rows place row ends apart within is =
    (later-around Follows (take place rows) row (drop (place + 1) rows)
    (subst (λ ys. AllLater Follows ys) (cut-at rows place row row within is) (all_follow rows ends apart))).0

module _ (old : List NameRow) (row : NameRow) (follow : AllByRecursion (λ earlier. Follows earlier row) old) where
  abbrev born : NameRow
  born = born_row row.directory row.name row.target row.birth

  abbrev its : NameRow → Bool
  its = is_live_name row.directory row.name

  -- so does the same row at its birth
  pub born_follows : AllByRecursion (λ earlier. Follows earlier born) old
  born_follows = all-weaker (λ earlier. Follows earlier row) (λ earlier. Follows earlier born) old (λ earlier h. record { apart = h.apart; born = h.born }) follow

  none : AllByRecursion (λ earlier. its earlier ≡ false) old
  none = all-weaker (λ earlier. Follows earlier row) (λ earlier. its earlier ≡ false) old
      (λ earlier follows. grind (arith, nat_tests, own_name row, named_dead row.directory row.name earlier, same_name row.directory row.name earlier row, follows.apart)) follow

  passes : its born ≡ true
  passes = named_live row.directory row.name born (own_name born) refl

  -- which is live
  pub born_lives : IsSome (live_target (old ++ born ∷ []) row.directory row.name)
  born_lives = rw (find-at its old born [] none passes) refl

  -- and dies
  pub dead_row : (death : ℕ) → row.death ≡ Some death → update_first its (dies death) (old ++ born ∷ []) ≡ old ++ row ∷ []
  dead_row death is = update_first-at its (dies death) old born [] none passes ∙ ap (λ (o : Option ℕ). old ++ record row { death = o } ∷ []) (sym is)

  -- or stays
  pub live_row : row.death ≡ None → old ++ born ∷ [] ≡ old ++ row ∷ []
  live_row is = ap (λ (o : Option ℕ). old ++ record row { death = o } ∷ []) (sym is)
