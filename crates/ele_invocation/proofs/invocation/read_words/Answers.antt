use Rattle.std.proofs.Common.{◌∙◌, List, ℕ, map, ap}
use Rattle.std.specs.Prelude.{string_bytes}
use Rattle.clap.specs.Words.{app_of, kind_of}
use Rattle.ele_invocation.specs.Program.{commands_for, program_app}
use Rattle.ele_invocation.proofs.OfClap.{first_word, read_error, read_matches}
use Rattle.ele_invocation.proofs.invocation.read_words.Goals as goal

pub returns-in-Err : goal.returns-in-Err
returns-in-Err c =
    read_error c.args.now (map string_bytes c.args.words.now) (app_of c.in-Ok.command) (kind_of c.in-Err.error) c.refused.result
    (c.in-Ok.ensures.app_is ∙ ap (λ (w : List ℕ). program_app (commands_for w)) (first_word _ _ _ _ c.word.ensures c.unwrap_or.ensures))
    c.in-Err.ensures.kinds c.refused.ensures.shown c.refused.ensures.memory

pub returns-in-Ok-try_get_matches_from : goal.returns-in-Ok-try_get_matches_from
returns-in-Ok-try_get_matches_from c =
    read_matches c.args.now (map string_bytes c.args.words.now) (app_of c.in-Ok.command) c.in-Ok-try_get_matches_from.matches c.understood-invocation.result
    (c.in-Ok.ensures.app_is ∙ ap (λ (w : List ℕ). program_app (commands_for w)) (first_word _ _ _ _ c.word.ensures c.unwrap_or.ensures))
    c.in-Ok-try_get_matches_from.ensures.kinds c.in-Ok-try_get_matches_from.ensures.matches c.understood-invocation.ensures
