-- What a pass is of the world.
use Rattle.std.proofs.Common.{◌≡◌, ℕ, ◌+◌, zero, suc, Option, Some, None, [], ◌∷◌, refl, ap, sym, subst, ◌∙◌, arith, length-append}
use Rattle.std.specs.Prelude.{IsSome}
use Rattle.ele_due.specs.declared.key.Key.{Key}
use Rattle.ele_model.specs.declared.entry.Entry.{Entry}
use Rattle.ele_model.specs.declared.event.Event.TheVariants.{CleanOne}
use Rattle.ele_model.specs.declared.pass.PassEnd.TheVariants.{Finished, Budget, Stopped}
use Rattle.ele_model.specs.declared.refusal.Stop.{Stop}
use Rattle.ele_model.specs.declared.refusal.Stop.TheVariants.{NoMemory, HistoryFull}
use Rattle.ele_model.specs.declared.reply.Reply.{Reply}
use Rattle.ele_model.specs.declared.reply.Reply.TheVariants.{Nothing, Removed}
use Rattle.ele_model.specs.Pass.{IsCleaned}
use Rattle.ele_model.specs.Scan.{first_due}
use Rattle.ele_model.specs.Step.{clean_step}
use Rattle.ele_model.specs.World.{World}
use Rattle.ele_model.proofs.Cleans.{clean_of}
use Rattle.ele_model.proofs.Formed.{in_parts}
use Rattle.ele_model.proofs.PassEnds.{budget_ends, cleaned_none, cleaned_more, pass_finishes}
use Rattle.ele_policy.specs.Lawful.{PoliciesAreLawful}
use Rattle.ele_history.specs.Pass.{Removes}
use Rattle.ele_history.specs.PassIsOfWorld.{PassEndsAsOfWorld, PassIsOfWorld, PassOfWorld}
use Rattle.ele_history.specs.Past.{Past, answered, count_of, recorded, reply_to, world_of}
use Rattle.ele_history.proofs.Growth.{world_of-extended}

due_of : (w : World) (key : Key) (due : Option Key) → Removed key ≡ (clean_of w due).0 → IsSome due
due_of w key None told = absurd cc
due_of w key (Some found) told = refl

nothing_of : (w : World) (due : Option Key) → Nothing ≡ (clean_of w due).0 → due ≡ None
nothing_of w None told = refl
nothing_of w (Some found) told = absurd cc

nothing_due : (w : World) → first_due w ≡ None → (clean_step w).1 ≡ w
nothing_due w none = ap (λ (due : Option Key). (clean_of w due).1) none

-- a clean event was taken
record IsClean (s t : Past) : Type 0 where
  world : world_of t ≡ (clean_step (world_of s)).1
  count : count_of t ≡ count_of s + 1
  base : t.base ≡ s.base

clean : (s t : Past) (reply : Reply) → (reply, t) ≡ answered s CleanOne → IsClean s t
clean s t reply told =
    let entry : Entry = record { event = CleanOne; reply = reply_to s CleanOne } in
    let after : t ≡ recorded s CleanOne = ap (λ (said : Reply × Past). said.1) told in
    rw after (record { world = world_of-extended s entry; count = omega (arith, length-append s.entries (entry ∷ [])); base = refl })

-- so many were, each of which removed a version
record SoMany (s : Past) (n : ℕ) (t : Past) : Type 0 where
  cleaned : IsCleaned (world_of s) n (world_of t)
  count : count_of t ≡ count_of s + n
  base : t.base ≡ s.base

so_many : (s t : Past) (n : ℕ) → Removes s n t → SoMany s n t
so_many s t zero same = rw same (record { cleaned = cleaned_none (world_of s); count = omega arith; base = refl })
so_many s t (suc n) r =
    let mid = r.0 in
    let ih = so_many s mid n r.1 in
    let told = r.2.1.1 in
    let one = clean mid t (Removed r.2.0) told in
    let some = due_of (world_of mid) r.2.0 (first_due (world_of mid)) (ap (λ (said : Reply × Past). said.0) told) in
    let more : n + 1 ≡ suc n = omega arith in
    record {
      cleaned = subst (λ (w : World). IsCleaned (world_of s) (suc n) w) (sym one.world)
          (subst (λ (m : ℕ). IsCleaned (world_of s) m ((clean_step (world_of mid)).1)) more (cleaned_more (world_of s) n (world_of mid) ih.cleaned some));
      count = omega (arith, ih.count, one.count);
      base = one.base ∙ ih.base;
    }

stopped : (s t u : Past) (n : ℕ) (stop : Stop) → Removes s n t → u ≡ t → PassOfWorld s (Stopped stop n) u
stopped s t u n stop r same =
    let many = so_many s t n r in
    rw same (record { world = many.cleaned; count = many.count; base = many.base })

finished : (s t u : Past) (n : ℕ) → Removes s n t → (Nothing, u) ≡ answered t CleanOne → PassOfWorld s (Finished n) u
finished s t u n r told =
    let many = so_many s t n r in
    let one = clean t u Nothing told in
    let none = nothing_of (world_of t) (first_due (world_of t)) (ap (λ (said : Reply × Past). said.0) told) in
    let same : world_of u ≡ world_of t = one.world ∙ nothing_due (world_of t) none in
    record {
      world = record { cleaned = subst (λ (w : World). IsCleaned (world_of s) n w) (sym same) many.cleaned; last = ap first_due same ∙ none };
      count = omega (arith, many.count, one.count);
      base = one.base ∙ many.base;
    }

pub pass_is_of_world : PassIsOfWorld
pass_is_of_world before after budget (Finished n) may = finished before may.1.0 after n may.1.1 may.1.2.1
pass_is_of_world before after budget (Budget n) may =
    let many = so_many before after n may.1 in
    record { world = many.cleaned; count = many.count; base = many.base }
pass_is_of_world before after budget (Stopped HistoryFull n) may = stopped before may.1.0 after n HistoryFull may.1.1 may.1.2.1
pass_is_of_world before after budget (Stopped NoMemory n) may = stopped before may.1.0 after n NoMemory may.1.1 may.1.2.1

pub pass_ends : PoliciesAreLawful → PassEndsAsOfWorld
pass_ends law before after budget (Finished n) formed may =
    let pass = (pass_is_of_world before after budget (Finished n) may).world in
    pass_finishes (world_of before) n (world_of after) budget (in_parts law (world_of before) formed) pass.cleaned pass.last may.0
pass_ends law before after budget (Budget n) formed may =
    (may.0, budget_ends (world_of before) n (world_of after) (in_parts law (world_of before) formed) (pass_is_of_world before after budget (Budget n) may).world)
pass_ends law before after budget (Stopped HistoryFull n) formed may =
    (may.0, budget_ends (world_of before) n (world_of after) (in_parts law (world_of before) formed) (pass_is_of_world before after budget (Stopped HistoryFull n) may).world)
pass_ends law before after budget (Stopped NoMemory n) formed may =
    (may.0, budget_ends (world_of before) n (world_of after) (in_parts law (world_of before) formed) (pass_is_of_world before after budget (Stopped NoMemory n) may).world)
