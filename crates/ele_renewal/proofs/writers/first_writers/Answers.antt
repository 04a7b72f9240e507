use Rattle.std.proofs.lemmas.List.{take_more}
use Rattle.ele_renewal.proofs.Firsts.{firsts_more}
use Rattle.ele_renewal.proofs.Words.{[], arith, length, refl, take, ◌++◌, ◌+◌, ◌<◌, ◌∷◌, ◌≡◌}
use Rattle.ele_renewal.proofs.writers.first_writers.Goals as goal

pub loop-row-preserved : goal.loop-row-preserved
loop-row-preserved c =
    let rows = c.args.rows.now in
    let row = c.row-item.result in
    let within : c.loop-row.row-index < length rows = omega arith in
    let taken : take (c.loop-row.row-index + 1) rows ≡ take c.loop-row.row-index rows ++ row ∷ [] = rw (take_more rows c.loop-row.row-index row within, ← c.row-item.is) refl in
    firsts_more rows c.loop-row.row-index row within taken c.loop-row.known c.put_blocks.new.known c.loop-row.invariant (simp (c.as_slice.ensures, c.new_version-number.ensures.number) at c.in_ok-put_blocks.ensures)
