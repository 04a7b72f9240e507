use Rattle.ele_files.proofs.Lemmas.{draft_in, map, take, ◌≡◌}
use Rattle.ele_files.proofs.files.Files.draft_rows.Given as goal

abbrev pub invariant-loop-place : goal.invariant-loop-place
invariant-loop-place l = l.rows.items ≡ map (draft_in l.self-inside.store) (take l.place l.self-inside.sessions.drafts)
