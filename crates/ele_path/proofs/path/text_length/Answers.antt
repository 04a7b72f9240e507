use Rattle.ele_path.proofs.Basics.{◌≡◌, ◌++◌, ◌∷◌, ◌+◌, ℕ, List, length, take, get_or, ap, subst, arith, length-append, All-more}
use Rattle.ele_path.proofs.Words.{IsName, path_text}
use Rattle.ele_path.proofs.Texts.{text_more}
use Rattle.ele_path.proofs.path.text_length.Goals as goal

pub loop-name-preserved : goal.loop-name-preserved
loop-name-preserved c =
    let names : List (List ℕ) = c.args.names.now in
    let i : ℕ = c.loop-name.name-index in
    let name : List ℕ = c.name-item.result in
    let more : length (path_text (take (i + 1) names)) ≡ length (path_text (take i names) ++ 47 ∷ get_or names i name) = ap (λ (text : List ℕ). length text) (text_more names i name c.loop-name-test.true) in
    let long : length c.bytes.result.now ≡ length name = ap (λ (name : List ℕ). length name) c.bytes.ensures.value in
    let same : length name ≡ length (get_or names i name) = ap (λ (name : List ℕ). length name) c.name-item.is in (
      omega (arith, c.loop-name.invariant.0, more, long, same, length-append (path_text (take i names)) (47 ∷ get_or names i name)),
      omega (arith, c.loop-name.invariant.1, long, c.bytes.ensures.name.short),
      All-more IsName names i name c.loop-name-test.true c.loop-name.invariant.2 (subst (λ n. IsName n) c.name-item.is c.bytes.ensures.name),
    )
