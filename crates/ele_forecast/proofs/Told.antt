-- The forecasts of one version after another.
use Rattle.ele_forecast.proofs.Words.{◌≡◌, ℕ, zero, suc, ◌+◌, ◌≤◌, List, [], ◌∷◌, ◌++◌, Some, ap, sym, ◌∙◌, arith, append_assoc, append-nil, map, slice_get, AllByRecursion, length, drop}
use Rattle.ele_forecast.proofs.Words.{Policy, FileView, IsFileOf, Life, lives_from, IsForecastOf, Forecast}
use Rattle.ele_lists.proofs.Alls.{all-append}
use Rattle.std.proofs.lemmas.List.{drop_all, map-append}
use Rattle.ele_forecast.specs.ForecastOf.{AreForecasts, told_life}

-- the life at a place, and those after it
lives_step : (n : ℕ) (cs : List ℕ) (place c : ℕ) → slice_get cs place ≡ Some c → lives_from n (drop place cs) ≡ (n, c, slice_get cs (suc place)) ∷ lives_from (n + 1) (drop (suc place) cs)
lives_step n [] place c e = absurd (cc)
lives_step n (x ∷ cs) zero c e = let same : x ≡ c = cc in ap (λ (y : ℕ). lives_from n (y ∷ cs)) same
lives_step n (x ∷ cs) (suc place) c e = lives_step n cs place c e

-- the forecasts so far are made, and the lives from there on remain
pub record ToldSoFar (policy : Policy) (closings : List ℕ) (place : ℕ) (forecasts : List Forecast) : Type 0 where
  pub lives : map told_life forecasts ++ lives_from (place + 1) (drop place closings) ≡ lives_from 1 closings
  pub tell : (v : FileView) → IsFileOf policy closings v → AllByRecursion (IsForecastOf v) forecasts

pub told_one : {policy : Policy} {closings : List ℕ} {place : ℕ} {forecasts : List Forecast} (forecast : Forecast) → ToldSoFar policy closings place forecasts
    → forecast.number ≡ place + 1 → Some forecast.closed ≡ slice_get closings place → forecast.ended ≡ slice_get closings (place + 1)
    → ((v : FileView) → IsFileOf policy closings v → IsForecastOf v forecast) → ToldSoFar policy closings (place + 1) (forecasts ++ forecast ∷ [])
told_one {policy} {closings} {place} {forecasts} forecast far number closed ended tells =
    let same : suc place ≡ place + 1 = omega arith in
    let step = lives_step (place + 1) closings place forecast.closed (sym closed) in
    let behind = lives_from (place + 1 + 1) (drop (place + 1) closings) in
    let life : (place + 1, forecast.closed, slice_get closings (place + 1)) ≡ told_life forecast = cc in
    let moved : lives_from (place + 1) (drop place closings) ≡ told_life forecast ∷ behind =
    step ∙ ap (λ (i : ℕ). (place + 1, forecast.closed, slice_get closings i) ∷ lives_from (place + 1 + 1) (drop i closings)) same ∙ ap (λ (l : Life). l ∷ behind) life in
    record {
      lives = ap (λ (ls : List Life). ls ++ behind) (map-append told_life forecasts (forecast ∷ [])) ∙ append_assoc (map told_life forecasts) (told_life forecast ∷ []) behind
          ∙ ap (λ (ls : List Life). map told_life forecasts ++ ls) (sym moved) ∙ far.lives;
      tell = λ v is. all-append (IsForecastOf v) forecasts (forecast ∷ []) (far.tell v is) (tells v is, tt);
    }

pub told_all : {policy : Policy} {closings : List ℕ} {place : ℕ} {forecasts : List Forecast} → ToldSoFar policy closings place forecasts → length closings ≤ place → AreForecasts policy closings forecasts
told_all {policy} {closings} {place} {forecasts} far past =
    record {
      lives = sym (append-nil (map told_life forecasts)) ∙ ap (λ (xs : List ℕ). map told_life forecasts ++ lives_from (place + 1) xs) (sym (drop_all place closings past)) ∙ far.lives;
      tell = far.tell;
    }
