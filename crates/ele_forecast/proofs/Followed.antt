-- A version with newer ones after it: when it ripens, and why it is let go then.
use Rattle.ele_forecast.proofs.Words.{◌≡◌, ℕ, ◌&&◌, ◌||◌, Bool, true, false, not, List, [], ◌++◌, append-nil, Option, Some, refl, ap, sym, subst, ◌∙◌, IsSome, arith, nat_tests, nat_le, ◌==◌, option_map_or, option_and_then, list_any}
use Rattle.ele_forecast.proofs.Words.{Policy, Case, IsRipe, alone, case_of, cond, counts_newer, None, candidates, earliest_of, is_due_by, VersionRow, FileView, beside, MarkRow, ends_over, keeps_at, due_in, ripe_in, IsFollowed, IsReasonOf, TellsOf, Forecast, Why}
use Rattle.ele_forecast.proofs.Words.{IsLawful, last_moment, ◌≤◌, meets_floor, ripe_case}
use Rattle.ele_forecast.proofs.Words.{map, slice_get}
use Rattle.ele_forecast.specs.ForecastOf.{GoesFor}
use Rattle.ele_model.specs.Fate.{newer_version, newer_versions}
use Rattle.ele_policy.specs.Cause.{IsCause}
use Rattle.ele_policy.specs.RipeCase.{ripe_by}
use Rattle.ele_policy.specs.declared.cause.Cause.{Cause}
use Rattle.ele_policy.specs.declared.cause.Newer.{Newer}

-- ---- of a file that is unread and unmarked

module _ (v : FileView) (row : VersionRow) where
  -- with these in the places of the file's
  abbrev due_with : List ℕ → List MarkRow → Option Policy → Option ℕ → ℕ → Bool
  due_with pinned marks policy ended at =
      not (list_any (λ number. number == row.number) pinned || list_any (keeps_at row.closed row.ended at) marks)
      && option_map_or (λ p. option_map_or (λ e. is_due_by p row.closed (beside v row) e at) ended false) policy false

  abbrev ripe_with : List ℕ → List MarkRow → Option Policy → Option ℕ → Option ℕ
  ripe_with pinned marks policy ended =
      option_and_then (λ p. option_and_then (λ e. earliest_of (due_with pinned marks policy ended) (candidates p e ++ ends_over row.closed row.ended marks)) ended) policy

  module _ (policy : Policy) (ended : ℕ) (policy_is : v.policy ≡ Some policy) (unread : v.pinned ≡ []) (unmarked : v.marks ≡ []) (ends : row.ended ≡ Some ended) where
    -- its policy alone says when it is due
    pub due_is : (at : ℕ) → due_in v row at ≡ is_due_by policy row.closed (beside v row) ended at
    due_is at =
        ap (λ (x : List ℕ). due_with x v.marks v.policy row.ended at) unread
        ∙ ap (λ (x : List MarkRow). due_with [] x v.policy row.ended at) unmarked
        ∙ ap (λ (x : Option Policy). due_with [] [] x row.ended at) policy_is
        ∙ ap (λ (x : Option ℕ). due_with [] [] (Some policy) x at) ends

    pub ripe_is : ripe_in v row ≡ ripe_by policy row.closed (beside v row) ended
    unfolding ripe_by
    ripe_is =
        ap (λ (x : List ℕ). ripe_with x v.marks v.policy row.ended) unread
        ∙ ap (λ (x : List MarkRow). ripe_with [] x v.policy row.ended) unmarked
        ∙ ap (λ (x : Option Policy). ripe_with [] [] x row.ended) policy_is
        ∙ ap (λ (x : Option ℕ). ripe_with [] [] (Some policy) x) ends
        ∙ ap (earliest_of (is_due_by policy row.closed (beside v row) ended)) (append-nil (candidates policy ended))

-- if a case has a ripe moment, the nearest newer closing determines it
pub told_alone : (case : Case) (ended m : ℕ) → ripe_case case ended ≡ Some m → ripe_by case.policy case.closed (alone case.next_closed) ended ≡ Some m
told_alone case ended m is = by (case.enough || not (counts_newer case.policy)) is where
  by : (b : Bool) → cond b (ripe_by case.policy case.closed (alone case.next_closed) ended) None ≡ Some m → ripe_by case.policy case.closed (alone case.next_closed) ended ≡ Some m
  by true h = h
  by false h = absurd cc

-- so the policy lets it go then, beside that one alone
pub due_alone : (policy : Policy) (closed ended ripe : ℕ) → IsLawful policy → ripe ≤ last_moment → ripe_by policy closed (alone (Some ended)) ended ≡ Some ripe → is_due_by policy closed (alone (Some ended)) ended ripe ≡ true
due_alone policy closed ended ripe lawful fits is =
    lawful.due_from closed ended ripe (alone (Some ended)) fits ∙ ap (λ (o : Option ℕ). option_map_or (λ m. nat_le m ripe) o false) is ∙ grind (arith, nat_tests)

-- ---- the next one

module _ (policy : Policy) (v : FileView) (row next : VersionRow) (newer : ℕ) (is : IsFollowed policy v row next newer) where
  -- the nearest newer version is the next one
  by_next : (closed number : ℕ) → next.closed ≡ closed → next.number ≡ number → slice_get (newer_versions v row) 0 ≡ Some (record { number = number; closed = closed })
  by_next closed number ends numbered = rw (← ends, ← numbered) (ap (λ (rows : List VersionRow). slice_get (map newer_version rows) 0) is.behind)

  -- so a cause that holds beside it is the version's
  pub goes_for : (closed ended ripe number : ℕ) (cause : Cause) → row.closed ≡ closed → next.closed ≡ ended → next.number ≡ number → ripe_in v row ≡ Some ripe
      → ((others : List Newer) → slice_get others 0 ≡ Some (record { number = number; closed = ended }) → IsCause policy closed ended others ripe cause) → GoesFor v row cause
  goes_for closed ended ripe number cause closes ends numbered ripens told =
      let own : ℕ → Type 0 = λ at. IsCause policy at ended (newer_versions v row) ripe cause in
      record {
        ripe = ripe;
        ripens = ripens;
        why = record {
          policy = policy;
          policy_is = is.policy_is;
          ended = ended;
          has_ended = is.ended ∙ ap Some ends;
          why = subst own (sym closes) (told (newer_versions v row) (by_next ended number ends numbered));
        };
      }

  -- and if it has no ripe moment, it has ended all the same
  pub has_ended : IsSome row.ended
  has_ended = subst IsSome (sym is.ended) refl

  module _ (closed ended : ℕ) (found : Option ℕ) (closes : row.closed ≡ closed) (ends : next.closed ≡ ended) where
    -- what `ripe` answers is its ripe moment
    pub ripe_found : IsRipe (case_of policy closed (Some ended) (meets_floor policy true newer)) ended found → found ≡ ripe_in v row
    ripe_found is_ripe =
        let under : ℕ → ℕ → Type 0 = λ c e. IsRipe (case_of policy c (Some e) (meets_floor policy true newer)) e found in
        let own = subst (λ (c : ℕ). under c next.closed) (sym closes) (subst (under closed) (sym ends) is_ripe) in
        own (beside v row) is.case ∙ sym (ripe_is v row policy next.closed is.policy_is is.unread is.unmarked is.ended)

    -- and so its forecast describes it
    pub tells_of : (number : ℕ) (why : Why) (forecast : Forecast) → forecast ≡ record { number = number; closed = closed; ended = Some ended; ripe = found; why = why }
        → IsRipe (case_of policy closed (Some ended) (meets_floor policy true newer)) ended found → (ripe_in v row ≡ found → IsReasonOf v row why) → TellsOf v row forecast
    tells_of number why forecast parts is_ripe reason =
        let made : Forecast = record { number = number; closed = closed; ended = Some ended; ripe = found; why = why } in
        let own : TellsOf v row made = record {
          closed = sym closes;
          ended = sym (is.ended ∙ ap Some ends);
          ripe = ripe_found is_ripe;
          why = reason (sym (ripe_found is_ripe));
        } in
        subst (TellsOf v row) (sym parts) own
