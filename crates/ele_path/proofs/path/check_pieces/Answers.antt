use Rattle.ele_path.proofs.Basics.{rules, tests, ◌≡◌, ◌==◌, ◌∙◌, length, ℕ, List, sym, map, length-map, subst, err_from_is_err_and, YieldsList-from_slice_split, YieldsList-at, YieldsList-so_far, YieldsList-turn, YieldsList-end}
use Rattle.ele_path.proofs.Words.{IsPath, pieces_of}
use Rattle.ele_path.proofs.Pieces.{next_fault}
use Rattle.ele_path.proofs.path.check_pieces.Goals as goal

pub returns-in_err-check_piece-clause-fault : goal.returns-in_err-check_piece-clause-fault
returns-in_err-check_piece-clause-fault c =
    let text = c.args.text.now in
    let names : List (List ℕ) = map (λ piece. piece.now) c.loop-piece.yielded in
    let turn = YieldsList-turn (YieldsList-at c.into_iter-piece-iterator.ensures.into_iter_gives (YieldsList-from_slice_split _ (λ byte. byte == 47) text c.split-piece-items.ensures.rest c.split-piece-items.ensures.done c.split-piece-items.ensures.closure (λ x b q h. search (rules, tests)))) c.loop-piece.yielded _ c.loop-piece.yielded_by _ _ c.in-Some.piece c.in-Some.is c.next.ensures.steps in
    let so_far = YieldsList-so_far (YieldsList-at c.into_iter-piece-iterator.ensures.into_iter_gives (YieldsList-from_slice_split _ (λ byte. byte == 47) text c.split-piece-items.ensures.rest c.split-piece-items.ensures.done c.split-piece-items.ensures.closure (λ x b q h. search (rules, tests)))) c.loop-piece.yielded _ c.loop-piece.yielded_by in
    let count : length names ≡ c.loop-piece.before = length-map c.loop-piece.yielded (λ piece. piece.now) ∙ sym c.loop-piece.invariant.0 in
    let p = err_from_is_err_and c.from_residual.result c.from_residual.ensures.1 in
    rw (p.1, p.2) (next_fault (pieces_of text) names _ _ _ c.loop-piece.invariant.1 so_far turn.0 turn.1 (rw count c.in_err-check_piece.ensures.fault))

pub returns-clause-are : goal.returns-clause-are
returns-clause-are c =
    subst (λ (pieces : List (List ℕ)). IsPath pieces) (YieldsList-end (YieldsList-at c.into_iter-piece-iterator.ensures.into_iter_gives (YieldsList-from_slice_split _ (λ byte. byte == 47) c.args.text.now c.split-piece-items.ensures.rest c.split-piece-items.ensures.done c.split-piece-items.ensures.closure (λ x b q h. search (rules, tests)))) c.loop-piece.yielded _ c.loop-piece.yielded_by _ _ c.in-None.is c.next.ensures.steps).0 c.loop-piece.invariant.1
