-- The words and lemmas of std and of lists that proofs here use, in one place.
pub use Rattle.ele_model.proofs.Basics.{Bool, IfSome, List, None, Option, Some, [], any-found, ap, arith, bytes_eq-Decides, cond, false, filter, find, find-filter_both, found_passes, list_any, nat_tests, not, option_map, option_map_or, refl, sym, true, ℕ, ◌&&◌, ◌==◌, ◌||◌, ◌∙◌, ◌∷◌, ◌≡◌, ◌⊎◌}
pub use Rattle.ele_model.proofs.RipeAt.{any-filter_map}
