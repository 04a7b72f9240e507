use Rattle.std.proofs.Common.{◌≡◌, ◌≤◌, ◌∙◌, ℕ, List, length, subst, sym, take}
use Rattle.ele_lists.specs.Lists.{AllLater}
use Rattle.ele_forecast.specs.Stays.{come_by}
use Rattle.ele_forecast.proofs.Kept.{all_come, come_rise}
use Rattle.ele_forecast.proofs.closings.Closings.come_by.Goals as goal

own : (c : goal.After-count_by) → (take c.count_by.result c.deref.result.now ≡ come_by c.args.at c.args.self.now) × (c.count_by.result ≡ length (take c.count_by.result c.deref.result.now))
own c =
    let whole : c.deref.result.now ≡ c.args.self.now = c.deref.ensures.value ∙ c.self.view_is in
    let told = all_come c.args.at c.args.self.now c.count_by.result c.lemma_sorted.ensures.rises c.count_by.ensures in
    subst (λ (xs : List ℕ). (take c.count_by.result xs ≡ come_by c.args.at c.args.self.now) × (c.count_by.result ≡ length (take c.count_by.result xs))) (sym whole) told

pub slice_bounds-result-end : goal.slice_bounds-result-end
slice_bounds-result-end c = (own c).1

pub returns-clause-come : goal.returns-clause-come
returns-clause-come c = (own c).0

pub returns-clause-rise : goal.returns-clause-rise
returns-clause-rise c = subst (AllLater ◌≤◌) (sym (own c).0) (come_rise c.args.at c.args.self.now c.lemma_sorted.ensures.rises)
