-- Rows are added to the next file one after another.
use Rattle.ele_files.proofs.Words.{DraftRow, List, VersionRow, [], ap, append_assoc, append_nil, length, refl, subst, sym, take, ℕ, ◌++◌, ◌+◌, ◌<◌, ◌∙◌, ◌∷◌, ◌≡◌}
use Rattle.ele_files.specs.Adding.{AreNextDrafts, AreNextVersions, Growing, IsNextDraft, IsNextVersion, with_drafts, with_versions}
use Rattle.std.proofs.Common.{drop, get_or}
use Rattle.std.proofs.Math.Seq.{take-add}
use Rattle.std.proofs.lemmas.List.{drop_more}

module _ {X : Type 0} (xs : List X) (k : ℕ) (x : X) (within : k < length xs) (is : x ≡ get_or xs k x) where
  here : drop k xs ≡ x ∷ drop (k + 1) xs
  here = drop_more xs k x within ∙ ap (λ y. y ∷ drop (k + 1) xs) (sym is)

  taken : take (k + 1) xs ≡ take k xs ++ x ∷ []
  taken = take-add k 1 xs ∙ ap (λ ys. take k xs ++ take 1 ys) here

pub no_versions : (g : Growing) → g ≡ with_versions g []
no_versions g = rw (append_nil g.held.versions) refl

pub no_drafts : (g : Growing) → g ≡ with_drafts g []
no_drafts g = rw (append_nil g.held.drafts) refl

module _ (g h : Growing) (rows : List VersionRow) (k : ℕ) (row : VersionRow) (within : k < length rows) (is : row ≡ get_or rows k row) where
  pub version_next : AreNextVersions h (drop k rows) → IsNextVersion h row × AreNextVersions (with_versions h (row ∷ [])) (drop (k + 1) rows)
  version_next left = subst (AreNextVersions h) (here rows k row within is) left

  pub versions_more : h ≡ with_versions g (take k rows) → with_versions h (row ∷ []) ≡ with_versions g (take (k + 1) rows)
  versions_more added =
      ap (λ (h : Growing). with_versions h (row ∷ [])) added
      ∙ ap (λ (vs : List VersionRow). record g { held = record g.held { versions = vs } }) (append_assoc g.held.versions (take k rows) (row ∷ []))
      ∙ ap (with_versions g) (sym (taken rows k row within is))

module _ (g h : Growing) (rows : List DraftRow) (k : ℕ) (row : DraftRow) (within : k < length rows) (is : row ≡ get_or rows k row) where
  pub draft_next : AreNextDrafts h (drop k rows) → IsNextDraft h row × AreNextDrafts (with_drafts h (row ∷ [])) (drop (k + 1) rows)
  draft_next left = subst (AreNextDrafts h) (here rows k row within is) left

  pub drafts_more : h ≡ with_drafts g (take k rows) → with_drafts h (row ∷ []) ≡ with_drafts g (take (k + 1) rows)
  drafts_more added =
      ap (λ (h : Growing). with_drafts h (row ∷ [])) added
      ∙ ap (λ (ds : List DraftRow). record g { held = record g.held { drafts = ds } }) (append_assoc g.held.drafts (take k rows) (row ∷ []))
      ∙ ap (with_drafts g) (sym (taken rows k row within is))
