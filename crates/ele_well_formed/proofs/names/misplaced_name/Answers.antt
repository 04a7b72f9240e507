use Rattle.ele_model.proofs.Newest.{newest_last, newest_more}
use Rattle.ele_well_formed.proofs.Words.{IsLife, arith, is_named, last_passing, option_copied, sym, take, ◌∙◌, ◌≡◌}
use Rattle.ele_well_formed.proofs.Rows.{IsAt, all_taken}
use Rattle.ele_well_formed.proofs.NameLives.{IsFree, name_more, name_wrong}
use Rattle.ele_well_formed.proofs.names.misplaced_name.Goals as goal

pub returns-then-not-are_apart-clause-some : goal.returns-then-not-are_apart-clause-some
returns-then-not-are_apart-clause-some c =
    let xs = c.args.rows.now in
    let at = c.loop-at.at in
    let x = c.index-rows-at.result in
    let here : IsAt xs at x = record { within = omega arith; is = c.index-rows-at.is } in
    let found : option_copied c.get.result ≡ last_passing (is_named x.directory x.name) (take at xs) = c.get.ensures.value ∙ rw c.loop-at.invariant.newest (newest_last (take at xs) x.directory x.name) in
    name_wrong xs at x here (λ (free : IsFree (take at xs) x). let apart = c.are_apart.ensures.1 (rw found free) in grind (arith, apart, c.if-not-are_apart.true))

pub loop-at-preserved : goal.loop-at-preserved
loop-at-preserved c =
    let xs = c.args.rows.now in
    let at = c.loop-at.at in
    let x = c.index-rows-at.result in
    let here : IsAt xs at x = record { within = omega arith; is = c.index-rows-at.is } in
    let found : option_copied c.get.result ≡ last_passing (is_named x.directory x.name) (take at xs) = c.get.ensures.value ∙ rw c.loop-at.invariant.newest (newest_last (take at xs) x.directory x.name) in
    let free : IsFree (take at xs) x = rw found at (c.are_apart.ensures.0 (grind (arith, c.if-not-are_apart.false))) in
    record { newest = rw (c.in_ok-_older.ensures.entries, c.loop-at.invariant.newest) (sym (newest_more xs at x here.within here.is)); apart = name_more xs at x here (all_taken IsLife xs at c.requires) c.loop-at.invariant.apart free }
