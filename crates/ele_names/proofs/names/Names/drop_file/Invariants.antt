use Rattle.ele_names.proofs.Lemmas.{◌≡◌, length, filter, not, is_of}
use Rattle.ele_names.proofs.names.Names.drop_file.Given as goal

abbrev pub invariant-loop-file : goal.invariant-loop-file
invariant-loop-file l =
    filter (λ row. not (is_of l.file row)) l.self ≡ filter (λ row. not (is_of l.file row)) l.initial.self

abbrev pub decreases-loop-file : goal.decreases-loop-file
decreases-loop-file l = length l.self
