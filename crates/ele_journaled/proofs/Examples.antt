-- A store by hand.
use Rattle.std.proofs.Common.{ℕ, List, [], ◌∷◌, ◌++◌, ap, lit≤, refl, sym}
use Rattle.std.proofs.lemmas.List.{append-nil}
use Rattle.ele_journal.specs.Changes.{change_text}
use Rattle.ele_journal.specs.Journal.{first_check, start}
use Rattle.ele_model.specs.Bounds.{AreBounds, largest_bounds}
use Rattle.ele_model.proofs.Reached.{fresh_is_start}
use Rattle.ele_journaled.specs.Example.{IsExample, kept_file, begun_world, making, kept_state, kept_world}
use Rattle.ele_journaled.specs.Keeps.{Keeps}
use Rattle.ele_journaled.proofs.Kept.{will_append}

bounds : AreBounds largest_bounds
bounds = record { events = lit≤ tt; files = lit≤ tt; directories = lit≤ tt; names = lit≤ tt; versions = lit≤ tt; handles = lit≤ tt; groups = lit≤ tt; members = lit≤ tt; marks = lit≤ tt }

kept : Keeps kept_file kept_world kept_state
kept = record {
  base = begun_world;
  changes = (making ∷ []) ∷ [];
  begins = fresh_is_start largest_bounds bounds;
  text = ap (λ (t : List ℕ). start begun_world ++ t) (sym (append-nil (change_text (first_check begun_world) (making ∷ []))));
  check = refl;
  world = refl;
}

pub is_example : IsExample
is_example = record {
  kept = kept;
  refused = (refl, refl);
  asked = refl;
  after = refl;
  longer = will_append kept_file kept_world kept_state kept _ refl;
}
