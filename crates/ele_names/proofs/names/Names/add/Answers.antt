use Rattle.ele_names.proofs.Lemmas.{true, refl, sym, ap, ◌∙◌, arith, values_of, at_itself, is_of, names_of, target_eq, born_row, kept_over, kept_placed, kept_pushed, placed_back, rows_pushed, none_behind, live_one, free_known, own_name}
use Rattle.ele_names.proofs.names.Names.add.Goals as goal

pub number_or_next-requires : goal.number_or_next-requires
number_or_next-requires c =
    let row = born_row c.args.directory c.args.name c.args.target c.args.birth in
    free_known _ c.self.inside.live_names c.args.directory c.args.name row (own_name row) c.self.invariant.counts (rw (← c.self.view_is) at c.requires)

pub invariant_of-self : goal.invariant_of-self
invariant_of-self c = let known = c.number_or_next.ensures in kept_over _ _ c.self.invariant c.number_or_next.new.self known.places known.listed known.counted known.numbered

pub invariant_of-self-in_err-enter : goal.invariant_of-self-in_err-enter
invariant_of-self-in_err-enter c =
    let known = c.number_or_next.ensures in
    kept_placed _ _ (kept_over _ _ c.self.invariant c.number_or_next.new.self known.places known.listed known.counted known.numbered) _ c.next_serial-serial.ensures.below _ refl
    (c.in_err-enter.ensures.err _ _ (sym c.in_ok-number.ensures.number.0)) c.in_err-enter.ensures.same

pub invariant_of-self-in-Err : goal.invariant_of-self-in-Err
invariant_of-self-in-Err c =
    let known = c.number_or_next.ensures in
    let now = c.next_serial-serial.result in
    let row = born_row c.args.directory c.args.name c.args.target c.args.birth in
    let its = sym c.in_ok-number.ensures.number.0 in
    kept_placed _ _ (kept_over _ _ c.self.invariant c.number_or_next.new.self known.places known.listed known.counted known.numbered) now c.next_serial-serial.ensures.below _ c.in-Err.ensures.err
    (λ fresh placed. placed_back _ _ now row (fresh now (omega arith)) _ (c.leave.ensures.placed _ _ its (rw (at_itself now) refl) (λ f s _ over. none_behind is_of _ now fresh row f s over) (c.in_ok-enter.ensures.ok _ _ its fresh placed)))
    (λ t. omega (arith, c.leave.ensures.live t, c.in_ok-enter.ensures.counted t, live_one (target_eq row.target t) true refl))

pub invariant_of-self-2 : goal.invariant_of-self-2
invariant_of-self-2 c =
    let known = c.number_or_next.ensures in
    let made = c.next_serial-serial in
    let its = sym c.in_ok-number.ensures.number.0 in
    kept_pushed _ _ (kept_over _ _ c.self.invariant c.number_or_next.new.self known.places known.listed known.counted known.numbered) made.result made.ensures.below (born_row c.args.directory c.args.name c.args.target c.args.birth) _ _
    c.enter-2.ensures.names c.enter-2.ensures.listed (rw (← made.ensures.next) at c.in_default.ensures.ok) (rw (← made.ensures.next) at c.in_default.ensures.fits) c.in_ok-enter.ensures.born (rw its c.in_ok-number.ensures.number.1)
    (rw (← c.self.view_is) at c.requires) refl (c.in_ok-enter.ensures.ok _ _ its) c.enter-2.ensures.counted c.enter-2.ensures.numbered c.in_ok-enter.ensures.counted

pub returns-clause-ok : goal.returns-clause-ok
returns-clause-ok c =
    let made = c.next_serial-serial in
    rw (← c.self.view_is) (ap values_of (rw (← made.ensures.next) at c.in_default.ensures.ok)
    ∙ rows_pushed (names_of c.self.inside.live_names) c.self.inside.table c.self.invariant.is_table made.result made.ensures.below (born_row c.args.directory c.args.name c.args.target c.args.birth))
