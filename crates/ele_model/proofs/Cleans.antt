-- The reply to a clean and the world after it, if the first due version is known.
use Rattle.ele_model.proofs.Basics.{[], ◌∷◌, Option}
use Rattle.ele_model.proofs.Words.{Key, Take, DropIdle, Tell, Make, IfFound, outcome, World, Reply, Nothing, Removed}

abbrev pub clean_of : World → Option Key → Reply × World
clean_of w found = outcome w (IfFound found (Tell Nothing) (λ key. Make (Removed key) (Take key.file key.number ∷ DropIdle key.file ∷ [])))
