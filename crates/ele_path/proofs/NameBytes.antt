-- The test of a name.
use Rattle.ele_path.proofs.Basics.{◌≤◌, ℕ, List, leb, arith, codes, Decides, bytes_decides, leb-true, nat_tests}
use Rattle.ele_path.proofs.Words.{IsName, is_name}

Decides-leb : (a b : ℕ) → Decides (leb a b) (a ≤ b)
Decides-leb a b = (leb-true a b, λ h. grind (arith, nat_tests))

-- the test says whether the bytes are a name
pub is_name-decides : (bytes : List ℕ) → Decides (is_name bytes) (IsName bytes)
is_name-decides bytes = grind (arith, nat_tests, Decides-leb, bytes_decides, codes)
