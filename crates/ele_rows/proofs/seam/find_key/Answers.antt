use Rattle.ele_rows.proofs.Words.{ap, arith, before_sinks, key_found, key_missing, option_copied, sym, ◌∙◌}
use Rattle.ele_rows.proofs.seam.find_key.Goals as goal

pub seek-chunk-requires-clause-sinks : goal.seek-chunk-requires-clause-sinks
seek-chunk-requires-clause-sinks g c = before_sinks (λ row. (g.T.Headed.head row).key) c.args.key _ c.requires.rises

pub returns-in_err-row-clause-missing : goal.returns-in_err-row-clause-missing
returns-in_err-row-clause-missing g c =
    rw c.from_residual.ensures (key_missing (λ row. (g.T.Headed.head row).key) c.args.key _ _ _ c.seek-chunk.ensures c.requires.rises (λ x is. grind (arith, c.row_at.ensures, c.in_err-row.was, is)))

pub returns-then-head-key-clause-found : goal.returns-then-head-key-clause-found
returns-then-head-key-clause-found g c =
    key_found (λ row. (g.T.Headed.head row).key) c.args.key _ _ _ c.seek-chunk.ensures c.in_ok-row.row.now (sym c.row_at.ensures ∙ ap option_copied c.in_ok-row.was) (grind (arith, c.head.ensures, c.if-head-key.true))

pub returns-else-head-key-clause-missing : goal.returns-else-head-key-clause-missing
returns-else-head-key-clause-missing g c =
    key_missing (λ row. (g.T.Headed.head row).key) c.args.key _ _ _ c.seek-chunk.ensures c.requires.rises (λ x is equal. grind (arith, c.row_at.ensures, c.in_ok-row.was, c.if-head-key.false, c.head.ensures, is, equal))
