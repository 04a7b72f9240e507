-- Each answer in a run is as the headline says.
use Rattle.ele_model.proofs.Basics.{nat_tests, arith, ◌≡◌, ◌∙◌, List, [], ◌∷◌, Option, None, Some, Err, refl, ap, sym, subst, AllByRecursion, all-weaker}
use Rattle.ele_model.proofs.Words.{HasParts, IsEvent, IsWellFormed, Key, PoliciesAreLawful, World, clean_step, first_due, fresh_world, kept_rows, run_of, step, version_at, TaggedPath}
use Rattle.ele_model.proofs.Formed.{in_parts}
use Rattle.ele_model.proofs.PassEnds.{cleaned_keeps_kept, nothing_due}
use Rattle.ele_model.proofs.StepKeeps.{fresh_is, run_keeps}
use Rattle.ele_headline.specs.Headline.{GivesRow, Headline, HeadlineHolds, HeadlineInFreshRuns, KeepsHeadline, past, present}
use Rattle.ele_headline.proofs.HeldStays.{only_due_leave}
use Rattle.ele_headline.proofs.ReadsBack.{reads_after}
use Rattle.ele_headline.proofs.Restores.{restorable_lists}
use Rattle.ele_headline.proofs.ScanOrder.{scan_lists}
use Rattle.ele_headline.proofs.Words.{CleanOne, Event, Nothing, Read, ReadsRow, Refusal, Refused, Reply, Tagged, VersionRow}

-- ---- a pass

-- cleans leave what is kept
cleans_keep : (w : World) (events : List Event) → HasParts w → AllByRecursion (λ clean. clean ≡ CleanOne) events → kept_rows (run_of w events) ≡ kept_rows w
cleans_keep w [] k all = refl
cleans_keep w (event ∷ events) k all =
    let one = cleaned_keeps_kept 1 w k in
    subst (λ clean. kept_rows (run_of ((step w clean).1) events) ≡ kept_rows w) (sym all.0)
    (cleans_keep ((clean_step w).1) events one.1 all.1 ∙ one.0)

-- a clean after which nothing is due leaves what it found
nothing_left : (w : World) → HasParts w → (clean_step w).0 ≡ Nothing → ((clean_step w).1).versions ≡ kept_rows w
nothing_left w k is = by (first_due w) refl where
  by : (o : Option Key) → first_due w ≡ o → ((clean_step w).1).versions ≡ kept_rows w
  by None e = grind (arith, nat_tests, e, nothing_due w k e)
  by (Some key) e = grind (arith, nat_tests, e, is)

-- ---- the record

missed : (w : World) (tagged : TaggedPath) (refusal : Refusal) → version_at w tagged ≡ Err refusal → (step w (Read (Tagged tagged))).0 ≡ Refused refusal
missed w tagged refusal is = rw is refl

gives : (w : World) (event : Event) (row : VersionRow) → ReadsRow w row → GivesRow w event ((step w event).0) row
gives w event row reads = record {
  tagged = λ tagged held is meant file number. ap (λ (asked : Event). (step w asked).0) is ∙ reads.tagged tagged held meant file number;
  handle = λ handle is read. ap (λ (asked : Event). (step w asked).0) is ∙ reads.handle handle read;
}

pub answered : PoliciesAreLawful → (start : World) (events later : List Event) (event : Event) → IsWellFormed start → AllByRecursion IsEvent events → AllByRecursion IsEvent later
    → Headline start events later event ((step (present start events later) event).0) ((step (present start events later) event).1)
answered law start events later event begins are then =
    let w = past start events later in
    let now = present start events later in
    let formed = run_keeps start events are (in_parts law start begins) in
    let k = run_keeps w later then formed in
    record {
      due = λ is. (ap (λ (asked : Event). (step now asked).0) is, scan_lists now k);
      names = λ is. (ap (λ (asked : Event). (step now asked).0) is, restorable_lists now);
      usage = λ is. ap (λ (asked : Event). (step now asked).0) is;
      pass = λ cleans is none.
          ap (λ (asked : Event). ((step now asked).1).versions) is
          ∙ nothing_left now k (sym (ap (λ (asked : Event). (step now asked).0) is) ∙ none)
          ∙ cleans_keep w later formed cleans;
      leaves = only_due_leave now event k;
      reads = all-weaker (ReadsRow now) (GivesRow now event ((step now event).0)) w.versions (gives now event) (reads_after w later then formed);
      missing = λ tagged refusal is none. ap (λ (asked : Event). (step now asked).0) is ∙ missed now tagged refusal none;
    }

pub headline : PoliciesAreLawful → HeadlineHolds
headline law w event start events later begins are then is =
    subst (λ (now : World). Headline start events later event ((step now event).0) ((step now event).1)) (sym is) (answered law start events later event begins are then)

pub headline_in_fresh_runs : PoliciesAreLawful → HeadlineInFreshRuns
headline_in_fresh_runs law limits events later event bounds are then = answered law (fresh_world limits) events later event (fresh_is limits bounds) are then

-- what is answered as the step answers it keeps the headline
pub keeps : HeadlineHolds → (w : World) (event : Event) (reply : Reply) (after : World) → (reply, after) ≡ step w event → KeepsHeadline w event reply after
keeps law w event reply after is = subst (λ (out : Reply × World). KeepsHeadline w event out.0 out.1) (sym is) (law w event)
