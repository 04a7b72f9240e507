-- Parts of a text, grouped from the left and from the right.
use Rattle.std.proofs.Common.{◌≡◌, ℕ, List, ◌++◌, append_assoc}

pub grouped2 : (t1 t2 rest : List ℕ) → t1 ++ t2 ++ rest ≡ t1 ++ (t2 ++ rest)
grouped2 t1 t2 rest = simp append_assoc

pub grouped3 : (t1 t2 t3 rest : List ℕ) → t1 ++ t2 ++ t3 ++ rest ≡ t1 ++ (t2 ++ (t3 ++ rest))
grouped3 t1 t2 t3 rest = simp append_assoc

pub grouped4 : (t1 t2 t3 t4 rest : List ℕ) → t1 ++ t2 ++ t3 ++ t4 ++ rest ≡ t1 ++ (t2 ++ (t3 ++ (t4 ++ rest)))
grouped4 t1 t2 t3 t4 rest = simp append_assoc

pub grouped5 : (t1 t2 t3 t4 t5 rest : List ℕ) → t1 ++ t2 ++ t3 ++ t4 ++ t5 ++ rest ≡ t1 ++ (t2 ++ (t3 ++ (t4 ++ (t5 ++ rest))))
grouped5 t1 t2 t3 t4 t5 rest = simp append_assoc

pub grouped6 : (t1 t2 t3 t4 t5 t6 rest : List ℕ) → t1 ++ t2 ++ t3 ++ t4 ++ t5 ++ t6 ++ rest ≡ t1 ++ (t2 ++ (t3 ++ (t4 ++ (t5 ++ (t6 ++ rest)))))
grouped6 t1 t2 t3 t4 t5 t6 rest = simp append_assoc

pub grouped7 : (t1 t2 t3 t4 t5 t6 t7 rest : List ℕ) → t1 ++ t2 ++ t3 ++ t4 ++ t5 ++ t6 ++ t7 ++ rest ≡ t1 ++ (t2 ++ (t3 ++ (t4 ++ (t5 ++ (t6 ++ (t7 ++ rest))))))
grouped7 t1 t2 t3 t4 t5 t6 t7 rest = simp append_assoc

pub grouped8 : (t1 t2 t3 t4 t5 t6 t7 t8 rest : List ℕ) → t1 ++ t2 ++ t3 ++ t4 ++ t5 ++ t6 ++ t7 ++ t8 ++ rest ≡ t1 ++ (t2 ++ (t3 ++ (t4 ++ (t5 ++ (t6 ++ (t7 ++ (t8 ++ rest)))))))
grouped8 t1 t2 t3 t4 t5 t6 t7 t8 rest = simp append_assoc

pub grouped9 : (t1 t2 t3 t4 t5 t6 t7 t8 t9 rest : List ℕ) → t1 ++ t2 ++ t3 ++ t4 ++ t5 ++ t6 ++ t7 ++ t8 ++ t9 ++ rest ≡ t1 ++ (t2 ++ (t3 ++ (t4 ++ (t5 ++ (t6 ++ (t7 ++ (t8 ++ (t9 ++ rest))))))))
grouped9 t1 t2 t3 t4 t5 t6 t7 t8 t9 rest = simp append_assoc

pub grouped10 : (t1 t2 t3 t4 t5 t6 t7 t8 t9 t10 rest : List ℕ) → t1 ++ t2 ++ t3 ++ t4 ++ t5 ++ t6 ++ t7 ++ t8 ++ t9 ++ t10 ++ rest ≡ t1 ++ (t2 ++ (t3 ++ (t4 ++ (t5 ++ (t6 ++ (t7 ++ (t8 ++ (t9 ++ (t10 ++ rest)))))))))
grouped10 t1 t2 t3 t4 t5 t6 t7 t8 t9 t10 rest = simp append_assoc
