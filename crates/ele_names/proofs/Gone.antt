-- A row between others that dies, or leaves.
use Rattle.ele_names.proofs.Words.{◌≡◌, ℕ, ◌-◌, ◌≤◌, ◌<◌, ◌^◌, true, false, cond, not, List, [], ◌∷◌, ◌++◌, length, filter, Some, None, Option, is_none, refl, sym, subst, ap, ◌∙◌, arith, length_append, nat_cmp, is_at, insert_entry, keys_of, values_of, remove_entry, option_map_or, nat_tests, true≢false, nat_cmp_total, map-append, update_first, value_at, all-append, all-around, all-mid, all-exchange, later-around, later-without, later-exchange, update_first-at, all-weaker, lookup-insert_entry, filter-all, IsSplitAt, split_at, all_keys_without, all_from_each, found_key, last_moment, NameRow, Target, is_named, is_live_name, is_target_file, live_target, live_at, Live, LiveNames, place_in, Inside, Table, AreCounted, AreNumbered, Leaves, IsKept, rows_of, AreIndexed, AreListed, names_of, number_in, Follows, dies, IsLast, IsLastBelow, is_member, is_of, is_live_of, live_of, newest_in, target_eq, AreChained, same_from_push, filter-append}
use Rattle.ele_names.proofs.Added.{placed_same}
use Rattle.ele_names.proofs.Apart.{named_and_live, named_dead, named_live, same_name, row_known}
use Rattle.ele_names.proofs.Chained.{chained_same}
use Rattle.ele_names.proofs.Indexed.{births_change}
use Rattle.ele_names.proofs.Live.{leaves_without, leaves_dead, live_one, target_without, LiveRow, same_serial, stands_live}
use Rattle.ele_names.proofs.Numbers.{named_place}
use Rattle.ele_names.proofs.Numbering.{rises_without, gone_at}

-- the last entry leaves the values before it
pub last_gone : {X : Type 0} (rows : List X) (row : X) (es fs : List (ℕ × X)) (n : ℕ) (x : X) → es ≡ fs ++ (n, x) ∷ [] → values_of es ≡ rows ++ row ∷ [] → values_of fs ≡ rows
last_gone rows row es fs n x is are = (same_from_push (values_of fs) rows x row (sym (map-append (λ (e : ℕ × _). e.1) fs ((n, x) ∷ [])) ∙ sym (ap values_of is) ∙ are)).0

module _ (a : Inside) (kept : IsKept a.table a.live_names) where
  abbrev es : List (ℕ × NameRow)
  es = a.table.rows.entries

  abbrev names : List (ℕ × List ℕ)
  names = names_of a.live_names

  module _ (s : ℕ) (row : NameRow) (at : value_at es s ≡ Some row) where
    c : IsSplitAt es s row
    c = split_at es s row kept.is_table.rising at

    -- the live target of its name is its target
    pub live_target_is : (d : ℕ) (n : List ℕ) → is_live_name d n row ≡ true → live_target (rows_of a.table) d n ≡ Some row.target
    live_target_is d n live = rw c.values ((leaves_without row c.before c.behind (rw c.values at kept.is_table.apart)).its d n live)

    module _ (live : is_none row.death ≡ true) (moment : ℕ) where
      pub kept_dead : (t : Table) (live_names : LiveNames) → names_of live_names ≡ names → AreListed live_names → t.places.by_name ≡ a.table.places.by_name → (AreChained is_of (value_at es) a.table.places.of_file → AreChained is_of (value_at es) t.places.of_file)
          → t.rows.entries ≡ insert_entry nat_cmp es s (dies moment row)
          → ((was now : List NameRow) → Leaves row was now → AreCounted was a.live_names → AreCounted now live_names)
          → ((at to : ℕ → Option NameRow) (serial : ℕ) → at serial ≡ Some row → ((s : ℕ) → is_at (nat_cmp serial) s ≡ false → to s ≡ at s) → AreNumbered at a.live_names → AreNumbered to live_names)
          → ((target : Target) → live_of t.places target ≡ live_of a.table.places target - cond (target_eq row.target target) 1 0)
          → IsKept t live_names
      kept_dead t live_names same listed by_name chained is counts numbered live_now = record {
        is_table = rw same (record {
          rising = rw keys_are kept.is_table.rising;
          short = rw keys_are kept.is_table.short;
          born = rw rows_are (let born = rw c.values at kept.is_table.born in all-exchange (λ row. row.birth ≤ last_moment) c.before row (dies moment row) c.behind (all-mid (λ row. row.birth ≤ last_moment) c.before row c.behind born) born);
          apart = rw rows_are (later-exchange Follows c.before row (dies moment row) c.behind (λ b h. record { apart = h.apart; born = h.born }) (λ rows. all-weaker (Follows row) (Follows (dies moment row)) rows (λ b follows. grind (arith, nat_tests, is_none, true≢false))) (rw c.values at kept.is_table.apart));
          known = rw rows_are (let known = rw c.values at kept.is_table.known in all-exchange (λ row. number_in names row < length names) c.before row (dies moment row) c.behind (all-mid (λ row. number_in names row < length names) c.before row c.behind known) known);
          placed = record {
            named = rw by_name (births_change (value_at t.rows.entries) s row (dies moment row) a.table.places.by_name kept.is_table.placed.named at (λ q r. refl) now);
            chained = chained_same is_of (value_at es) (value_at t.rows.entries) t.places.of_file (λ g k. targets g k) (chained kept.is_table.placed.chained);
          };
        });
        listed = listed;
        counts = rw rows_are (counts (rows_of a.table) (c.before ++ dies moment row ∷ c.behind) leaves kept.counts);
        numbered = numbered (value_at es) (value_at t.rows.entries) s at (λ k e. now k ∙ rw e refl) kept.numbered;
        targets = rw rows_are (λ target. target_without target row (rows_of a.table) (c.before ++ dies moment row ∷ c.behind) leaves (live_of a.table.places target) (live_of t.places target) (kept.targets target)
            (live_now target ∙ ap (λ (m : ℕ). live_of a.table.places target - m) (sym (live_one (target_eq row.target target) (is_none row.death) live))));
      } where
        rows_are : rows_of t ≡ c.before ++ dies moment row ∷ c.behind
        rows_are = ap values_of is ∙ c.set (dies moment row)

        now : (k : ℕ) → value_at t.rows.entries k ≡ cond (is_at (nat_cmp s) k) (Some (dies moment row)) (value_at es k)
        now k = ap (λ entries. value_at entries k) is ∙ lookup-insert_entry nat_cmp_total k es s (dies moment row)

        leaves : Leaves row (rows_of a.table) (c.before ++ dies moment row ∷ c.behind)
        leaves = rw c.values (leaves_dead row c.before c.behind (rw c.values at kept.is_table.apart) (dies moment row) refl)

        targets : (g k : ℕ) → is_member is_of (value_at t.rows.entries) g k ≡ is_member is_of (value_at es) g k
        targets g k = grind (arith, nat_tests, now k, same_serial s k, at)

        keys_are : keys_of t.rows.entries ≡ keys_of es
        keys_are = ap keys_of is ∙ c.set_keys (dies moment row)

      pub killed : (d : ℕ) (n : List ℕ) → is_named d n row ≡ true → values_of (insert_entry nat_cmp es s (dies moment row)) ≡ update_first (is_live_name d n) (dies moment) (rows_of a.table)
      killed d n named =
          c.set (dies moment row)
          ∙ sym (rw c.values (update_first-at (is_live_name d n) (dies moment) c.before row c.behind
          (all-weaker (λ b. Follows b row) (λ b. is_live_name d n b ≡ false) c.before
          (λ b follows. named_dead d n b (λ is. let same = same_name d n b row is named in rw (follows.apart same.0 same.1).1 refl))
          (later-around Follows c.before row c.behind (rw c.values at kept.is_table.apart)).0)
          (named_live d n row named live)))

    pub kept_without : (t : Table) (live_names : LiveNames) → names_of live_names ≡ names → AreListed live_names → t.rows.entries ≡ remove_entry (is_at (nat_cmp s)) es
        → (AreIndexed names (value_at es) a.table.places → AreIndexed names (λ k. cond (is_at (nat_cmp s) k) None (value_at es k)) t.places)
        → ((was now : List NameRow) → Leaves row was now → AreCounted was a.live_names → AreCounted now live_names)
        → ((at to : ℕ → Option NameRow) (serial : ℕ) → at serial ≡ Some row → ((s : ℕ) → is_at (nat_cmp serial) s ≡ false → to s ≡ at s) → AreNumbered at a.live_names → AreNumbered to live_names)
        → ((target : Target) → live_of t.places target ≡ live_of a.table.places target - cond (is_live_of target row) 1 0)
        → IsKept t live_names
    kept_without t live_names same listed is placed counts numbered live_now = record {
      is_table = rw same (record {
        rising = rw is (rises_without (is_at (nat_cmp s)) es kept.is_table.rising);
        short = rw is (all_keys_without (λ k. k < 2 ^ 64) (is_at (nat_cmp s)) es kept.is_table.short);
        born = rw rows_are (let born = all-around (λ row. row.birth ≤ last_moment) c.before row c.behind (rw c.values at kept.is_table.born) in all-append (λ row. row.birth ≤ last_moment) c.before c.behind born.0 born.2);
        apart = rw rows_are (later-without Follows c.before row c.behind (rw c.values at kept.is_table.apart));
        known = rw rows_are (let known = all-around (λ row. number_in names row < length names) c.before row c.behind (rw c.values at kept.is_table.known) in all-append (λ row. number_in names row < length names) c.before c.behind known.0 known.2);
        placed = placed_same names (λ k. cond (is_at (nat_cmp s) k) None (value_at es k)) (value_at t.rows.entries) t.places now (placed kept.is_table.placed);
      });
      listed = listed;
      counts = rw rows_are (counts (rows_of a.table) (c.before ++ c.behind) leaves kept.counts);
      numbered = numbered (value_at es) (value_at t.rows.entries) s at (λ k e. now k ∙ rw e refl) kept.numbered;
      targets = rw rows_are (λ target. target_without target row (rows_of a.table) (c.before ++ c.behind) leaves (live_of a.table.places target) (live_of t.places target) (kept.targets target) (live_now target));
    } where
      leaves : Leaves row (rows_of a.table) (c.before ++ c.behind)
      leaves = rw c.values (leaves_without row c.before c.behind (rw c.values at kept.is_table.apart))

      now : (k : ℕ) → value_at t.rows.entries k ≡ cond (is_at (nat_cmp s) k) None (value_at es k)
      now k = ap (λ entries. value_at entries k) is ∙ gone_at s k es kept.is_table.rising

      rows_are : rows_of t ≡ c.before ++ c.behind
      rows_are = ap values_of is ∙ c.without

    pub fewer : length (values_of (remove_entry (is_at (nat_cmp s)) es)) < length (rows_of a.table)
    fewer = rw (c.without, c.values) (omega (arith, length_append c.before c.behind, length_append c.before (row ∷ c.behind)))

    pub others_stay : (file : ℕ) → is_of file row ≡ true → filter (λ row. not (is_of file row)) (values_of (remove_entry (is_at (nat_cmp s)) es)) ≡ filter (λ row. not (is_of file row)) (rows_of a.table)
    others_stay file its = rw (c.without, c.values) (rw (filter-append (λ row. not (is_of file row)) c.before c.behind, filter-append (λ row. not (is_of file row)) c.before (row ∷ c.behind), its) refl)

  -- the live row of a name
  module _ (d : ℕ) (n : List ℕ) (live : Live Target) (is : live_at a.live_names d n ≡ Some live) where
    pub found : LiveRow (value_at es) d n live.serial
    found = stands_live (value_at es) a.live_names kept.numbered d n live is

    pub its_name : (is_named d n found.row ≡ true) × (is_none found.row.death ≡ true)
    its_name = named_and_live d n found.row found.live

    pub found_known : place_in names d n < length names
    found_known = subst (λ p. p < length names) (named_place names d n found.row its_name.0) (row_known names a.table kept.is_table live.serial found.row found.there)

    pub found_target : live.target ≡ found.row.target
    found_target = grind (arith, nat_tests, is, kept.counts.named d n, live_target_is live.serial found.row found.there d n found.live)

  module _ (file : ℕ) (found : Option ℕ) (is : found ≡ newest_in a.table.places.of_file file) where
    last : IsLastBelow (is_member is_of (value_at es) file) (2 ^ 64) found
    last = rw is (kept.is_table.placed.chained.newest file)

    -- a row has a number that fits
    fits : (s : ℕ) (row : NameRow) → value_at es s ≡ Some row → s < 2 ^ 64
    fits s row at = found_key (λ k. k < 2 ^ 64) es s row kept.is_table.short at

    pub none_of_file : found ≡ None → filter (λ row. not (is_of file row)) (rows_of a.table) ≡ rows_of a.table
    none_of_file none = filter-all (λ row. not (is_of file row)) (rows_of a.table) (all_from_each (λ row. not (is_of file row) ≡ true) es kept.is_table.rising (λ s row at.
        ap not (sym (ap (λ o. option_map_or (is_of file) o false) at) ∙ (rw none at last) s (fits s row at))))

    module _ (s : ℕ) (there : found ≡ Some s) where
      newest : IsLast (is_member is_of (value_at es) file) (2 ^ 64) s
      newest = rw there at last

      module _ (row : NameRow) (at : value_at es s ≡ Some row) where
        pub its_file : is_of file row ≡ true
        its_file = sym (ap (λ o. option_map_or (is_of file) o false) at) ∙ newest.there

        pub is_newest : (f k : ℕ) → is_of f row ≡ true → s < k → is_member is_of (value_at es) f k ≡ false
        is_newest f k its over = grind (arith, nat_tests, its_file, over, fits, is_target_file)
