-- A chain that goes on begins with what it was.
use Rattle.std.specs.Prelude.{◌≡◌, ℕ, List, ◌++◌}
use Rattle.ele_chain.specs.Chain.{chained, last_hash}

-- the rows that come later are chained below the last hash, after the text that was there
abbrev pub LongerChain : Type 0
LongerChain = (above : List ℕ) (rows more : List (List ℕ)) → chained above (rows ++ more) ≡ chained above rows ++ chained (last_hash above rows) more
