use Rattle.std.proofs.Common.{arith, refl, ◌∙◌, ap, Some, [], ◌∷◌}
use Rattle.ele_history.specs.Past.{Past, reply_to}
use Rattle.ele_shared_history.specs.Rule.{history_after}
use Rattle.ele_shared_history.specs.Running.{continued, entry}
use Rattle.ele_shared_history.proofs.Runs.{answers, few, gives_back_here, handed, publishes_here, ran, stays}
use Rattle.ele_shared_history.proofs.steps.run.Goals as goal
use Rattle.ele_shared_history.proofs.steps.run.Goals.{in-Ok, in-Err}

pub exchange-requires : goal.exchange-requires
exchange-requires g c =
    let m = c.args.place.now.me in
    (c.requires.mine.0, (Some (history_after m.0.opening m.0.seen), rw (c.requires.turn.2) refl))

pub fetch_add-requires : goal.fetch_add-requires
fetch_add-requires g c =
    let mine = c.requires.mine in
    let turn = c.requires.turn in
    let m = c.args.place.now.me in
    let out = c.exchange.ensures in
    let back = c.exchange-empty.ensures in
    let h = handed m c.exchange.new.seat.me c.exchange-empty.new.seat.me c.exchange.result c.in-Some.history c.apply-outcome.new.self turn out.2 out.3 back.3 c.in-Some.is in
    let may = rw c.in-Ok.is at c.apply-outcome.ensures in
    let told = answers c.in-Some.history c.apply-outcome.new.self c.args.event c.in-Ok.field-0 may in (
      back.0 ∙ out.0 ∙ mine.0,
      omega arith,
      rw mine.2 (publishes_here c.args.ledger.now.key.value c.exchange-empty.new.seat.id m c.exchange-empty.new.seat.me c.apply-outcome.new.self (entry c.args.event c.in-Ok.field-0) mine.3 turn h.1
          (told.grown ∙ ap (λ (z : Past). continued z (entry c.args.event c.in-Ok.field-0 ∷ [])) h.0) (told.told ∙ ap (λ (z : Past). reply_to z c.args.event) h.0) (few c.in-Some.history m.0.opening m.0.seen h.0 may.0 (rw c.base.ensures.value at c.lemma_within.ensures))),
    )

pub fetch_sub-requires : goal.fetch_sub-requires
fetch_sub-requires g c =
    let mine = c.requires.mine in
    let m = c.args.place.now.me in
    let out = c.exchange.ensures in
    let back = c.exchange-empty.ensures in
    let h = handed m c.exchange.new.seat.me c.exchange-empty.new.seat.me c.exchange.result c.in-Some.history c.apply-outcome.new.self c.requires.turn out.2 out.3 back.3 c.in-Some.is in
    let same = stays c.in-Some.history c.apply-outcome.new.self c.in-Err.field-0 (rw c.in-Err.is at c.apply-outcome.ensures) in (
      back.0 ∙ out.0 ∙ mine.0,
      omega arith,
      rw mine.2 (gives_back_here c.args.ledger.now.key.value c.exchange-empty.new.seat.id m c.exchange-empty.new.seat.me c.apply-outcome.new.self mine.3 c.requires.turn h.1 (same ∙ h.0)),
    )

pub returns-clause-ok : goal.returns-clause-ok
returns-clause-ok g c =
    let m = c.args.place.now.me in
    let out = c.exchange.ensures in
    let back = c.exchange-empty.ensures in
    let h = handed m c.exchange.new.seat.me c.exchange-empty.new.seat.me c.exchange.result c.in-Some.history c.apply-outcome.new.self c.requires.turn out.2 out.3 back.3 c.in-Some.is in
    elim c.match-outcome.branch [
      | in-Ok w ↦ rw (w.in-Ok.is, w.place-is) (ran m c.exchange-empty.new.seat.me w.fetch_add.new.seat.me c.in-Some.history c.apply-outcome.new.self c.args.event w.in-Ok.field-0 h.0 h.1 (answers c.in-Some.history c.apply-outcome.new.self c.args.event w.in-Ok.field-0 (rw w.in-Ok.is at c.apply-outcome.ensures)) w.fetch_add.ensures.2)
      | in-Err w ↦ rw w.in-Err.is tt
    ]
