-- The file that a path named last, entry after entry.
use Rattle.ele_audit.proofs.Basics.{List, [], ap, sym, subst, ℕ, ◌++◌, ◌∷◌, ◌≡◌, ◌≤◌, ◌<◌, ◌+◌, ◌∙◌, Option, Some, None, option_or, drop, get_or, length}
use Rattle.ele_audit.proofs.Gathers.{left_more, left_none}
use Rattle.ele_name_paths.proofs.Lasts.{or_assoc, or_none}
use Rattle.ele_audit.specs.Removals.{removal_in, removals}
use Rattle.ele_audit.specs.Seen.{IsSeen}
use Rattle.ele_audit.specs.Story.{seen_in, seen_last}
use Rattle.ele_audit.specs.declared.seen.Seen.{Seen}
use Rattle.ele_due.specs.declared.key.Key.{Key}
use Rattle.ele_model.specs.declared.entry.Entry.{Entry}
use Rattle.ele_model.specs.Step.{step}
use Rattle.ele_model.specs.World.{World}

last_append : (path : List (List ℕ)) (xs ys : List (World × Key)) → seen_last path (xs ++ ys) ≡ option_or (seen_last path ys) (seen_last path xs)
last_append path [] ys = sym (or_none (seen_last path ys))
last_append path (x ∷ xs) ys = ap (λ o. option_or o (seen_in path x.0)) (last_append path xs ys) ∙ or_assoc (seen_last path ys) (seen_last path xs) (seen_in path x.0)

seen_or : (a b : Option (World × ℕ)) (x y : Option Seen) → IsSeen a x → IsSeen b y → IsSeen (option_or a b) (option_or x y)
seen_or None b None y is be = be
seen_or None b (Some x) y is be = absurd is
seen_or (Some a) b None y is be = absurd is
seen_or (Some a) b (Some x) y is be = is

-- what was seen so far is the last, if no other removal is seen after it
pub record Sees (path : List (List ℕ)) (all left : List (World × Key)) (seen : Option Seen) : Type 0 where
  pub here : Option (World × ℕ)
  pub is : IsSeen here seen
  pub same : option_or (seen_last path left) here ≡ seen_last path all

pub sees_none : (path : List (List ℕ)) (start w : World) (entries : List Entry) → w ≡ start → Sees path (removals start entries) (removals w entries) None
sees_none path start w entries is = record { here = None; is = tt; same = rw is (or_none (seen_last path (removals start entries))) }

pub sees_more : (path : List (List ℕ)) (all : List (World × Key)) (w next : World) (entries : List Entry) (i : ℕ) (entry : Entry) (here seen more : Option Seen)
    → i < length entries → entry ≡ get_or entries i entry → next ≡ (step w entry.event).1 → IsSeen (seen_last path (removal_in w entry.reply)) here → more ≡ option_or here seen
    → Sees path all (removals w (drop i entries)) seen → Sees path all (removals next (drop (i + 1) entries)) more
sees_more path all w next entries i entry here seen more lt at next_is found more_is so = record {
  here = option_or (seen_last path (removal_in w entry.reply)) so.here;
  is = rw more_is (seen_or (seen_last path (removal_in w entry.reply)) so.here here seen found so.is);
  same = rw next_is (sym (or_assoc (seen_last path rest) (seen_last path (removal_in w entry.reply)) so.here)
      ∙ (ap (λ o. option_or o so.here) (sym (last_append path (removal_in w entry.reply) rest) ∙ sym (ap (λ (left : List Entry). seen_last path (removals w left)) (left_more entries i entry lt at))) ∙ so.same));
} where
  rest : List (World × Key)
  rest = removals ((step w entry.event).1) (drop (i + 1) entries)

pub sees_done : (path : List (List ℕ)) (all : List (World × Key)) (w : World) (entries : List Entry) (i : ℕ) (seen : Option Seen) → length entries ≤ i
    → Sees path all (removals w (drop i entries)) seen → IsSeen (seen_last path all) seen
sees_done path all w entries i seen le so =
    subst (λ there. IsSeen there seen) (sym (ap (λ (left : List Entry). option_or (seen_last path (removals w left)) so.here) (left_none entries i le)) ∙ so.same) so.is
