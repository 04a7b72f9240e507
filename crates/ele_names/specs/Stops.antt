-- A path whose names before the last lead to a directory.
use Rattle.std.specs.Prelude.{◌≡◌, ℕ, List, Ok, Err}
use Rattle.ele_model.specs.declared.refusal.Refusal.{Refusal}
use Rattle.ele_model.specs.declared.rows.NameRow.{NameRow}
use Rattle.ele_model.specs.Walk.{walk_now, parent_now}

-- the path's last name has a place, and the walk to the path is refused there
pub record StopsAtPlace (rows : List NameRow) (path : List (List ℕ)) (refusal : Refusal) : Type 0 where
  pub directory : ℕ
  pub name : List ℕ
  pub place : parent_now rows path ≡ Ok (directory, name)
  pub stops : walk_now rows path ≡ Err refusal
