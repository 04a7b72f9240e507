use Rattle.std.proofs.Common.{refl}
use Rattle.ele_words.proofs.Progress.{looked_nowhere, shows_told, told_nothing}
use Rattle.ele_words.proofs.watched.fn.run_watched.scope.Goals as goal

pub returns-in-Err : goal.returns-in-Err
returns-in-Err g c =
    record {
      same = refl;
      looked = looked_nowhere _;
      stormed = rw c.in-Err.ensures.err at c.spawn_with.ensures;
      progress = shows_told _ _ _ (told_nothing _ _);
    }
