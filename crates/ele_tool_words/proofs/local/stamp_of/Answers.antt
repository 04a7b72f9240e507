use Rattle.std.proofs.Common.{List, ℕ, take, ◌∷◌, ◌++◌, [], ap, ◌∙◌}
use Rattle.ele_tool_words.proofs.Locals.{put_between}
use Rattle.ele_tool_words.proofs.local.stamp_of.Goals as goal

pub returns : goal.returns
returns c =
    let date = c.copy_from_slice.ensures in
    let time = c.copy_from_slice-2.ensures in
    put_between c.copy_from_slice.new.self c.copy_from_slice-2.new.self date.len
    ∙ ap (λ (d : List ℕ). d ++ (84 ∷ c.copy_from_slice-2.new.self ++ 90 ∷ [])) date.after
    ∙ ap (λ (t : List ℕ). take 10 c.args.word.now ++ (84 ∷ t ++ 90 ∷ [])) time.after
