use Rattle.ele_renewal.proofs.Words.{map, new_file, take, ◌≡◌}
use Rattle.ele_renewal.proofs.rows.renewed_members.Given as goal

abbrev pub invariant-loop-member : goal.invariant-loop-member
invariant-loop-member l = l.fresh.items ≡ map (new_file l.flat.files) (take l.member-index l.members)
