-- Groups and the names of each file's groups, after a change of both.
use Rattle.ele_groups.proofs.Basics.{◌≡◌, ℕ, true, false, cond, List, [], ◌∷◌, ◌++◌, Option, Some, None, is_some, refl, sym, ◌∙◌, arith, insert_entry, list_any, IsDistinct, keys_of, values_of, remove_entry, bytes_eq, nat_tests, map-append, all-push, true≢false, false≢true}
use Rattle.ele_groups.proofs.Words.{GroupRow, Memberships, AreKept, AreOf, IsNamed, changed_at, has, is_group, is_member, new_group, row_at}
use Rattle.ele_groups.proofs.Named.{Entries, any_found, changed_keys, changed_same, named_changed, named_new, named_without, pushed}
use Rattle.ele_groups.proofs.Placed.{placed_new}

-- no groups
pub kept_empty : (es : Entries) (memberships : Memberships) → es ≡ [] → ((q : ℕ) (n : List ℕ) → has memberships q n ≡ false) → AreKept es memberships
unfolding IsDistinct
kept_empty es memberships is none = record { apart = rw is tt; named = rw is tt; placed = record { each = λ q n. none q n ∙ rw is refl } }

module _ (es : Entries) (memberships : Memberships) (kept : AreKept es memberships) where
  -- a group changed that keeps its name
  pub kept_changed : (name : List ℕ) (f : GroupRow → GroupRow) (to : Memberships) → ((n : List ℕ) (row : GroupRow) → is_group n (f row) ≡ is_group n row) → AreOf (row_at (changed_at name f es)) to → AreKept (changed_at name f es) to
  kept_changed name f to same placed = record { apart = rw (changed_keys name f es) kept.apart; named = named_changed name f same es kept.named; placed = placed }

  -- and its files
  pub kept_marked : (name : List ℕ) (f : GroupRow → GroupRow) → ((n : List ℕ) (row : GroupRow) → is_group n (f row) ≡ is_group n row) → ((file : ℕ) (row : GroupRow) → is_member file (f row) ≡ is_member file row) → AreKept (changed_at name f es) memberships
  kept_marked name f names files = kept_changed name f memberships names (record { each = λ q n. kept.placed.each q n ∙ sym (changed_same name f (is_member q) (files q) es n) })

  -- the same groups, and names that say the same
  pub kept_over : (to : Memberships) → AreOf (row_at es) to → AreKept es to
  kept_over to placed = record { apart = kept.apart; named = kept.named; placed = placed }

  module _ (name : List ℕ) where
    pub unnamed : list_any (is_group name) (values_of es) ≡ false → row_at es name ≡ None
    unnamed none = grind (arith, nat_tests, true≢false, is_some, any_found name es kept.named)

    pub present : list_any (is_group name) (values_of es) ≡ true → (row : GroupRow) × (row_at es name ≡ Some row)
    present some = by (row_at es name) (sym (any_found name es kept.named) ∙ some) refl where
      by : (o : Option GroupRow) → is_some o ≡ true → row_at es name ≡ o → (row : GroupRow) × (row_at es name ≡ Some row)
      by None h is = absurd (false≢true h)
      by (Some row) h is = (row, is)

    pub pushed_rows : (row : GroupRow) → row ≡ new_group name → row_at es name ≡ None → values_of (insert_entry bytes_eq es name row) ≡ values_of es ++ new_group name ∷ []
    pushed_rows row is free = rw (pushed name row es free, map-append (λ (e : List ℕ × GroupRow). e.1) es ((name, row) ∷ []), is) refl

    -- a new group
    pub kept_pushed : (to : Entries) → to ≡ insert_entry bytes_eq es name (new_group name) → IsDistinct bytes_eq (keys_of to)
        → ((n : List ℕ) → row_at to n ≡ cond (bytes_eq name n) (Some (new_group name)) (row_at es n)) → row_at es name ≡ None
        → AreKept to memberships
    kept_pushed to is apart at free = record {
      apart = apart;
      named = rw (is, pushed name (new_group name) es free) (all-push IsNamed es (name, new_group name) kept.named (named_new name));
      placed = placed_new name memberships (row_at es) (row_at to) kept.placed free at;
    }

    -- a group taken out
    pub kept_without : (to : Entries) (left : Memberships) → to ≡ remove_entry (bytes_eq name) es → IsDistinct bytes_eq (keys_of to) → AreOf (row_at to) left → AreKept to left
    kept_without to left is apart placed = record { apart = apart; named = rw is (named_without name es kept.named); placed = placed }
