use Rattle.std.proofs.Common.{rules, Bool, Bor, List, ℕ, Some, codes, map, refl, subst, sym, ap, ap₂, ◌∙◌}
use Rattle.std.proofs.lemmas.Bool.{false≢true}
use Rattle.std.proofs.lemmas.List.{length-map}
use Rattle.std.proofs.lemmas.Option.{same_Some}
use Rattle.std.specs.List.{AllZip}
use Rattle.clap.specs.Words.{Text, all_of, found_of, rows_of}
use Rattle.ele_invocation.specs.Forecasts.{AsksPolicy, AsksRule, SpellsAt, policies_beside}
use Rattle.ele_invocation.specs.Matches.{values_of}
use Rattle.ele_invocation.proofs.Asking.{asks_fit, no_form}
use Rattle.ele_invocation.proofs.Spelled.{none_at_all, none_weaker, values_are}
use Rattle.ele_invocation.proofs.reading.read_forecast.Goals as goal

pub returns-in_err-form-clause-unread : goal.returns-in_err-form-clause-unread
returns-in_err-form-clause-unread c = no_form _ _ _ c.from_residual.result c.in_err-form.ensures.only

pub returns-in-Err-clause-unread : goal.returns-in-Err-clause-unread
returns-in-Err-clause-unread c =
    let names = values_are c.values_of.result _ c.unwrap_or-names.result _ c.values_of.ensures c.unwrap_or-names.ensures (search rules) in
    let given = values_are c.values_of-given.result _ c.unwrap_or-count.result _ c.values_of-given.ensures c.unwrap_or-count.ensures (search rules) in
    let times = values_are c.values_of-2.result _ c.unwrap_or-times.result _ c.values_of-2.ensures c.unwrap_or-times.ensures (search rules) in
    none_at_all _ c.in-Err.why (λ ask asks.
    false≢true (c.in-Err.ensures.1 (asks_fit _ _ ask c.in_ok-form.form c.unwrap_or-count.result.now c.unwrap_or-times.result.now c.unwrap_or-names.result.now c.in_ok-form.ensures.only given times names asks)))

pub returns-in-Err-policies_in-clause-unread : goal.returns-in-Err-policies_in-clause-unread
returns-in-Err-policies_in-clause-unread c =
    let rows = rows_of (found_of c.args.forecast.now) in
    let names = values_are c.values_of.result _ c.unwrap_or-names.result _ c.values_of.ensures c.unwrap_or-names.ensures (search rules) in
    let given = ap (λ (s : Bool). policies_beside s (values_of (codes "rule") rows) (all_of (codes "policy") rows)) (sym c.is_on.ensures) ∙ ap₂ (policies_beside c.is_on.result) names (sym c.values_of-given.ensures) ∙ sym c.in-Some.ensures in
    none_weaker _ _ c.in-Err-policies_in.why (λ ask asks. (
      ask.policies.items,
      subst (λ (words : List (List ℕ)). AllZip AsksPolicy words ask.policies.items) (same_Some _ _ (sym asks.given ∙ given)) asks.policies,
    )) c.in-Err-policies_in.ensures.unread

pub returns-in-Err-moments_in-clause-unread : goal.returns-in-Err-moments_in-clause-unread
returns-in-Err-moments_in-clause-unread c =
    none_weaker _ _ c.in-Err-moments_in.why (λ ask asks. (
      ask.moments.items,
      subst (λ (words : List (List ℕ)). AllZip (SpellsAt c.args.now) words ask.moments.items)
          (values_are c.values_of-2.result _ c.unwrap_or-times.result _ c.values_of-2.ensures c.unwrap_or-times.ensures (search rules)) asks.moments,
    )) c.in-Err-moments_in.ensures.unread

pub returns-in-Err-rules_in-clause-unread : goal.returns-in-Err-rules_in-clause-unread
returns-in-Err-rules_in-clause-unread c =
    none_weaker _ _ c.in-Err-rules_in.why (λ ask asks. (
      ask.rules.items,
      subst (λ (words : List (List ℕ)). AllZip AsksRule words ask.rules.items)
          (values_are c.values_of.result _ c.unwrap_or-names.result _ c.values_of.ensures c.unwrap_or-names.ensures (search rules)) asks.rules,
    )) c.in-Err-rules_in.ensures.unread

pub returns-in-Err-clock_in-clause-unread : goal.returns-in-Err-clock_in-clause-unread
returns-in-Err-clock_in-clause-unread c = none_weaker _ _ c.in-Err-clock_in.why (λ ask asks. (ask.clock, asks.clock)) c.in-Err-clock_in.ensures.unread

pub returns-in-Err-keep_in-clause-unread : goal.returns-in-Err-keep_in-clause-unread
returns-in-Err-keep_in-clause-unread c = none_weaker _ _ c.in-Err-keep_in.why (λ ask asks. (ask.keep, asks.keep)) c.in-Err-keep_in.ensures.unread

pub returns-clause-read : goal.returns-clause-read
returns-clause-read c =
    let rows = rows_of (found_of c.args.forecast.now) in
    let names = values_are c.values_of.result _ c.unwrap_or-names.result _ c.values_of.ensures c.unwrap_or-names.ensures (search rules) in
    let given = values_are c.values_of-given.result _ c.unwrap_or-count.result _ c.values_of-given.ensures c.unwrap_or-count.ensures (search rules) in
    let times = values_are c.values_of-2.result _ c.unwrap_or-times.result _ c.values_of-2.ensures c.unwrap_or-times.ensures (search rules) in
    record {
      words = map (λ (word : Bor Text). word.now) c.in-Some.words.now;
      given = ap (λ (s : Bool). policies_beside s (values_of (codes "rule") rows) (all_of (codes "policy") rows)) (sym c.is_on.ensures) ∙ ap₂ (policies_beside c.is_on.result) names (sym c.values_of-given.ensures) ∙ sym c.in-Some.ensures;
      policies = c.in-Ok.ensures.read;
      named = c.is_named.ensures;
      moments = rw times c.in-Ok-moments_in.ensures.read;
      rules = rw names c.in-Ok-rules_in.ensures.read;
      clock = c.in-Ok-clock_in.ensures.read;
      labels = c.is_on-3.ensures;
      sizes = c.is_on-4.ensures;
      title = c.in_ok-title.ensures.title;
      others = c.new.ensures.items;
      keep = c.in-Ok-keep_in.ensures.read;
      form = c.in_ok-form.ensures.found;
      fit = rw (given, times, names, length-map c.unwrap_or-count.result.now (λ (word : Bor Text). word.now), length-map c.unwrap_or-times.result.now (λ (word : Bor Text). word.now), length-map c.unwrap_or-names.result.now (λ (word : Bor Text). word.now)) (c.in_default-check_fit.ensures.0 refl);
      labelled = rw (names, sym c.is_on-2.ensures) (c.in_ok-check_labels.ensures.0 refl);
    }
