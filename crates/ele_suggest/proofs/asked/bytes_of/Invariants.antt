use Rattle.std.specs.Prelude.{◌≡◌, ◌≤◌, ◌*◌, take}
use Rattle.ele_suggest.specs.Asked.{bytes_of}
use Rattle.ele_suggest.proofs.asked.bytes_of.Given as goal

-- the bytes of the versions so far, each of fewer than 2 ^ 64
abbrev pub invariant-loop-number : goal.invariant-loop-number
invariant-loop-number l = (l.bytes ≡ bytes_of l.versions (take l.number-index l.numbers)) × (l.bytes ≤ l.number-index * 18446744073709551615)
