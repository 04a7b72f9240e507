-- Which ripe moments change when a file gets another policy: those of its own versions, and no other.
use Rattle.ele_model.proofs.Basics.{arith, nat_tests, ◌≡◌, ℕ, ◌<◌, ◌==◌, false, cond, Option, None, ap}
use Rattle.ele_model.proofs.Words.{is_file, set_policy, Policy, IsLawful, SetFilePolicy, after_change, ripe_at, file_view, ripe_numbered, cover_of, moment_under, rule_in, HasParts, World, is_live, is_open, next_of}
use Rattle.ele_model.proofs.Elements.{find-updated}
use Rattle.ele_model.proofs.Files.{policy_of-put_other}
use Rattle.ele_model.proofs.KeptNames.{put_under_keeps}
use Rattle.ele_model.proofs.Neighbours.{in_order_of, moment_is}

module _ (w : World) (file : ℕ) (policy : Policy) (k : HasParts w) where
  -- those of other files stay
  pub policy_others : (f n : ℕ) → (f == file) ≡ false → ripe_at (after_change w (SetFilePolicy file policy)) f n ≡ ripe_at w f n
  policy_others f n other = ap (λ (o : Option Policy). ripe_numbered (record (file_view w f) { policy = o }) n) (policy_of-put_other w.files file f policy other)

  -- the file's own are those under the policy
  pub policy_own : IsLawful policy → 0 < next_of w.files file → (n : ℕ) → ripe_at (after_change w (SetFilePolicy file policy)) file n ≡ cond (is_open w.handles file n) None (moment_under (cover_of w.groups file) (rule_in policy (is_live w file)) w.versions file n)
  policy_own is there n =
      let v = after_change w (SetFilePolicy file policy) in
      moment_is v (in_order_of v (put_under_keeps w file policy is.given k)) file n (rule_in policy (is_live w file)) (grind (arith, nat_tests, find-updated (is_file file) (set_policy policy) w.files, there))
