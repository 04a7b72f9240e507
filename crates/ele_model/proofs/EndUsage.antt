-- An end that is set changes nothing of what the files use.
use Rattle.ele_model.proofs.Basics.{nat_tests, ◌≡◌, ℕ, Bool, List, [], ◌∷◌, length, filter, refl, arith, flat_map, flat_map-cons, update_first}
use Rattle.ele_model.proofs.Words.{Kind, ended_at, VersionRow, is_file_of, places_from, bytes_in, World}
use Rattle.ele_model.specs.Usage.{usage_of}
use Rattle.ele_model.proofs.Splits.{bytes_in-cons}

-- of the files that pass as many rows, of the same bytes and slots
alike_ended : (t : ℕ → Bool) (p : VersionRow → Bool) (now : ℕ) (rows : List VersionRow) → let ended = filter (λ row. t row.file) (update_first p (ended_at now) rows) in let all = filter (λ row. t row.file) rows in
    (length ended ≡ length all) × (bytes_in ended ≡ bytes_in all) × (flat_map (λ row. places_from row.file 0 row.cells) ended ≡ flat_map (λ row. places_from row.file 0 row.cells) all)
alike_ended t p now [] = (refl, refl, refl)
alike_ended t p now (x ∷ xs) = grind (arith, nat_tests, bytes_in-cons, flat_map-cons, alike_ended t p now xs)

pub usage_ended : (w : World) (p : VersionRow → Bool) (now : ℕ) (k : Kind) → usage_of (record w { versions = update_first p (ended_at now) w.versions }) k ≡ usage_of w k
unfolding usage_of
usage_ended w p now k = grind (arith, nat_tests, alike_ended (is_file_of w.files k) p now w.versions)
