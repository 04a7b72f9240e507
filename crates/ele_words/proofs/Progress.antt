-- The reports of a watched storm, line by line.
use Rattle.std.proofs.Common.{◌≡◌, ℕ, ◌≤◌, List, [], ◌∷◌, ◌++◌, length, refl, sym, ap, subst, ◌∙◌, append_assoc, append-nil, length-append, arith, Option}
use Rattle.std.specs.Io.KnownBytes.{Appends}
use Rattle.std.proofs.KnownBytes.{Appends-nil, Appends-trans}
use Rattle.ele_output.specs.Front.{AppendsFront}
use Rattle.ele_shared_history.specs.Knowledge.{Knowledge, Looked, count_seen}
use Rattle.ele_words.specs.Progress.{Rise, ShowsProgress, progress_line, progress_text}

-- nothing new was seen
pub looked_nowhere : (a : Knowledge) → Looked a a
looked_nowhere a = record { object = refl; numbers = refl; known = refl; own = refl; view = ([], sym (append-nil a.view)) }

pub looked_further : (a b c : Knowledge) → Looked a b → Looked b c → Looked a c
looked_further a b c p q = record {
  object = q.object ∙ p.object;
  numbers = q.numbers ∙ p.numbers;
  known = q.known ∙ p.known;
  own = q.own ∙ p.own;
  view = (p.view.0 ++ q.view.0, q.view.1 ∙ ap (λ calls. calls ++ q.view.0) p.view.1 ∙ append_assoc a.view p.view.0 q.view.0);
}

-- no fewer events were seen
pub seen_more : (a b : Knowledge) → Looked a b → count_seen a ≤ count_seen b
seen_more a b p =
    let same : count_seen b ≡ count_seen (record b { object = a.object }) = rw p.object refl in
    omega (arith, same, ap length p.view.1, length-append a.view p.view.0)

rise_next : (from : ℕ) (counts : List ℕ) (upto next : ℕ) → Rise from counts upto → upto ≤ next → Rise from (counts ++ next ∷ []) next
rise_next from [] upto next rise more = (omega (arith, rise, more), omega arith)
rise_next from (count ∷ counts) upto next rise more = (rise.0, rise_next count counts upto next rise.1 more)

text_next : (counts : List ℕ) (next : ℕ) → progress_text (counts ++ next ∷ []) ≡ progress_text counts ++ progress_line next
text_next [] next = append-nil (progress_line next)
text_next (count ∷ counts) next =
    ap (λ rest. progress_line count ++ rest) (text_next counts next) ∙ sym (append_assoc (progress_line count) (progress_text counts) (progress_line next))

-- lines of rising counts, none above this one, were written in full
pub record Telling (before after : Option (List ℕ)) (most : ℕ) : Type 0 where
  pub counts : List ℕ
  pub rise : Rise 0 counts most
  pub written : Appends before after (progress_text counts)

pub told_nothing : (before : Option (List ℕ)) (most : ℕ) → Telling before before most
told_nothing before most = record { counts = []; rise = omega arith; written = Appends-nil before }

pub tells_next : (a b c : Option (List ℕ)) (upto next : ℕ) → Telling a b upto → upto ≤ next → Appends b c (progress_line next) → Telling a c next
tells_next a b c upto next told more line = record {
  counts = told.counts ++ next ∷ [];
  rise = rise_next 0 told.counts upto next told.rise more;
  written = subst (Appends a c) (sym (text_next told.counts next)) (Appends-trans a b c _ _ told.written line);
}

pub shows_told : (a b : Option (List ℕ)) (upto : ℕ) → Telling a b upto → ShowsProgress a b upto
shows_told a b upto told = record {
  counts = told.counts;
  rise = told.rise;
  written = record { front = progress_text told.counts; back = []; parts = sym (append-nil (progress_text told.counts)); written = told.written };
}

-- a line of which only a prefix was written is the last
pub shows_front : (a b c : Option (List ℕ)) (upto next : ℕ) → Telling a b upto → upto ≤ next → AppendsFront b c (progress_line next) → ShowsProgress a c next
shows_front a b c upto next told more line =
    let front : progress_text (told.counts ++ next ∷ []) ≡ (progress_text told.counts ++ line.front) ++ line.back =
    text_next told.counts next ∙ ap (λ rest. progress_text told.counts ++ rest) line.parts ∙ sym (append_assoc (progress_text told.counts) line.front line.back) in
    record {
      counts = told.counts ++ next ∷ [];
      rise = rise_next 0 told.counts upto next told.rise more;
      written = record {
        front = progress_text told.counts ++ line.front;
        back = line.back;
        parts = front;
        written = Appends-trans a b c _ _ told.written line.written;
      };
    }
