-- A new file changes no ripe moment: its first version has no end.
use Rattle.ele_model.proofs.Basics.{◌≡◌, ℕ, ◌+◌, Bool, cond, List, [], ◌∷◌, Option, Some, None, refl, ap, sym, ◌∙◌, arith, append-nil, find, option_and_then, option_or, filter-append, find-append, list_any-append, nat_tests, all-found}
use Rattle.ele_model.proofs.Words.{Policy, VersionRow, ripe_at, file_view, HasParts, World, is_version}
use Rattle.ele_model.specs.Due.{ripe_of}
use Rattle.ele_model.proofs.Created.{created, new_file, new_name, first_version, versions_before}
use Rattle.ele_model.proofs.RipeAt.{ripe_at_is, unended}

module _ (w : World) (directory : ℕ) (name : List ℕ) (policy : Policy) (k : HasParts w) where
  abbrev id : ℕ
  id = w.made.files + 1

  abbrev made : World
  made = created w directory name id policy

  pub moment_stays : (file number : ℕ) → ripe_at made file number ≡ ripe_at w file number
  unfolding ripe_of
  moment_stays file number =
      ripe_at_is made file number
      ∙ ap (option_and_then (ripe_of made)) (find-append (is_version file number) w.versions (first_version w id ∷ []))
      ∙ by (find (is_version file number) w.versions) refl
      ∙ sym (ripe_at_is w file number) where
        new : (b : Bool) → option_and_then (ripe_of made) (cond b (Some (first_version w id)) None) ≡ None
        new b = grind (arith, nat_tests, unended (file_view made id) (first_version w id) refl, first_version w id)

        by : (o : Option VersionRow) → find (is_version file number) w.versions ≡ o → option_and_then (ripe_of made) (option_or o (find (is_version file number) (first_version w id ∷ []))) ≡ option_and_then (ripe_of w) o
        by o e = grind (arith, nat_tests, new, first_version w id, all-found, versions_before w k, find-append, new_file, filter-append, first_version, append-nil, list_any-append, new_name)
