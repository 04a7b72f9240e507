use Rattle.std.proofs.Common.{◌≡◌, ℕ, List, Option, Result, Ok, Err, IfOk, ap, ◌∙◌}
use Rattle.ele_policy.specs.declared.policy.Policy.{Policy}
use Rattle.ele_tool_words.specs.declared.zone.Offset.{Offset}
use Rattle.ele_suggest.specs.Candidates.{candidates_of}
use Rattle.ele_suggest.specs.Listed.{IsSuggestedFor, moment_of}
use Rattle.ele_suggest.specs.Suggested.{IsSuggestion}
use Rattle.ele_suggest.specs.Versions.{AreVersions}
use Rattle.ele_suggest.specs.declared.asked.Asked.{Asked}
use Rattle.ele_suggest.specs.declared.suggestion.Suggestion.{Suggestion}
use Rattle.ele_suggest.specs.declared.version.Version.{Version}
use Rattle.ele_suggest.proofs.listed.suggest_for.Goals as goal

-- a suggestion of these policies for these versions is one for the list, if they are its candidates and its versions
for_list : {E : Type 0} (r : Result Suggestion E) (asked : Asked) (clock : Offset) (sizes closings : List ℕ) (at : Option ℕ) (versions : List Version) (policies : List Policy) (moment : ℕ)
    → AreVersions clock sizes closings versions → policies ≡ candidates_of asked.spans.items → moment ≡ moment_of at closings
    → IfOk r (IsSuggestion asked closings versions policies moment) → IfOk r (IsSuggestedFor asked clock sizes closings at)
for_list (Ok s) asked clock sizes closings at versions policies moment are candidates then is = record { versions = versions; are = are; suggested = rw (candidates, then) at is }
for_list (Err e) asked clock sizes closings at versions policies moment are candidates then is = tt

pub returns : goal.returns
returns c =
    let candidates = c.as_slice-3.ensures.value ∙ c.in_ok-policies.ensures ∙ ap candidates_of c.as_slice.ensures.value in
    for_list c.suggest.result c.args.asked.now c.args.clock c.args.sizes.now c.args.closings.now c.args.at c.as_slice-2.result.now c.as_slice-3.result.now c.moment_of-at.result
    (rw c.as_slice-2.ensures.value c.in_ok-versions.ensures) candidates c.moment_of-at.ensures c.suggest.ensures
