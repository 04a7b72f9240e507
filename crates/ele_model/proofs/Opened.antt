-- The result of opening a handle, whether the file has a draft or not.
use Rattle.ele_model.proofs.Basics.{ℕ, cond, List, [], ◌∷◌, ◌++◌, insert_before}
use Rattle.ele_model.proofs.Words.{new_draft, World, has_draft, is_draft_after, DraftRow, Draft}

-- the drafts with one of the file: that which is there, or else a new one
abbrev pub with_draft : World → ℕ → List DraftRow
with_draft w file = cond (has_draft w file) w.drafts (insert_before (is_draft_after file) (new_draft w file) w.drafts)

abbrev pub opened : World → ℕ → ℕ → World
opened w file number = record w {
  drafts = with_draft w file;
  handles = w.handles ++ record { number = number; reads = Draft file } ∷ [];
  made = record w.made { handles = number };
}
