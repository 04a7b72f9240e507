-- What a writer holds and what is held for it, piece after piece.
use Rattle.ele_output.proofs.Basics.{Bool, true, false, ◌≡◌, ◌≤◌, ◌<◌, ◌+◌, ℕ, arith, length, length-append, List, [], ◌∷◌, ◌++◌, Option, Result, Ok, Err, refl, sym, ap, subst, ◌∙◌, append_assoc, append-nil, Appends, Appends-kept, Appends-nil, Keeps, Appends-trans, is_err}
use Rattle.ele_output.specs.Front.{AppendsFront, WritesText}
use Rattle.ele_output.specs.Outlet.{HandsOver, IsHandedOver, Outlet, Outputs, Puts, Reports, Sends, HasRoom, room}

-- nothing went out
outputs_nil : (a : Outlet) → Outputs a a []
outputs_nil a = record { same = refl; sent = []; rest = a.held; parts = append-nil a.held; written = Appends-nil a.known; stays = λ e. (refl, e); holds = λ e. refl }

-- bytes went out, and then others
pub outputs_then : {a b c : Outlet} {x y : List ℕ} → Outputs a b x → Outputs b c y → Outputs a c (x ++ y)
outputs_then {a} {b} {c} {x} {y} p q = by b.has_failed refl where
  by : (failed : Bool) → b.has_failed ≡ failed → Outputs a c (x ++ y)
  by true e =
      let more = q.stays e in
      let parts : a.held ++ (x ++ y) ≡ p.sent ++ (p.rest ++ y) = sym (append_assoc a.held x y) ∙ ap (λ (z : List ℕ). z ++ y) p.parts ∙ append_assoc p.sent p.rest y in
      let whole : p.sent ++ q.sent ≡ p.sent = ap (λ (z : List ℕ). p.sent ++ z) more.0 ∙ append-nil p.sent in
      record {
        same = q.same ∙ p.same;
        sent = p.sent;
        rest = p.rest ++ y;
        parts = parts;
        written = subst (λ (z : List ℕ). Appends a.known c.known z) whole (Appends-trans a.known b.known c.known p.sent q.sent p.written q.written);
        stays = λ f. ((p.stays f).0, more.1);
        holds = λ f. let no : true ≡ false = sym more.1 ∙ f in absurd cc;
      }
  by false e =
      let parts : a.held ++ (x ++ y) ≡ (p.sent ++ q.sent) ++ q.rest =
      sym (append_assoc a.held x y) ∙ ap (λ (z : List ℕ). z ++ y) (p.parts ∙ ap (λ (z : List ℕ). p.sent ++ z) (p.holds e)) ∙ append_assoc p.sent b.held y
      ∙ ap (λ (z : List ℕ). p.sent ++ z) q.parts ∙ sym (append_assoc p.sent q.sent q.rest) in
      record {
        same = q.same ∙ p.same;
        sent = p.sent ++ q.sent;
        rest = q.rest;
        parts = parts;
        written = Appends-trans a.known b.known c.known p.sent q.sent p.written q.written;
        stays = λ f. let no : true ≡ false = sym (p.stays f).1 ∙ e in absurd cc;
        holds = q.holds;
      }

-- the same bytes
outputs_as : {a b : Outlet} {x y : List ℕ} → x ≡ y → Outputs a b x → Outputs a b y
outputs_as {a} {b} e p = subst (λ (text : List ℕ). Outputs a b text) e p

-- all of it stays in the buffer, if it has room
abbrev Short : Outlet → Outlet → List ℕ → Type 0
Short a b bytes = a.has_failed ≡ false → length (a.held ++ bytes) ≤ room → (b.held ≡ a.held ++ bytes) × (b.has_failed ≡ false)

none_before : (xs ys : List ℕ) → length ys ≡ length xs + length ys → xs ≡ []
none_before [] ys e = refl
none_before (x ∷ xs) ys e = absurd (omega (arith, e))

stays_inside : {a b : Outlet} {bytes : List ℕ} (p : Outputs a b bytes) → Short a b bytes → a.has_failed ≡ false → HasRoom (p.sent ++ p.rest) → (p.sent ≡ []) × (b.has_failed ≡ false)
unfolding HasRoom
stays_inside {a} {b} {bytes} p short ok have =
    let is = short ok (rw p.parts have) in
    let same : p.rest ≡ p.sent ++ p.rest = p.holds is.1 ∙ is.0 ∙ p.parts in
    (none_before p.sent p.rest (ap length same ∙ length-append p.sent p.rest), is.1)

-- bytes that went out, and stay in the buffer if it has room, were put
puts_of : {a b : Outlet} {bytes : List ℕ} → Outputs a b bytes → Short a b bytes → Puts a b bytes
puts_of p short =
    record { same = p.same; sent = p.sent; rest = p.rest; parts = p.parts; written = p.written; stays = p.stays; holds = p.holds; inside = stays_inside p short }

pub outputs_of : {a b : Outlet} {bytes : List ℕ} → Puts a b bytes → Outputs a b bytes
outputs_of p = record { same = p.same; sent = p.sent; rest = p.rest; parts = p.parts; written = p.written; stays = p.stays; holds = p.holds }

-- what has room in the buffer is there, and the printer has not failed
pub puts_short : {a b : Outlet} {bytes : List ℕ} → Puts a b bytes → a.has_failed ≡ false → length (a.held ++ bytes) ≤ room → (b.held ≡ a.held ++ bytes) × (b.has_failed ≡ false)
unfolding HasRoom
puts_short {a} {b} {bytes} p ok have =
    let is = p.inside ok (rw (sym p.parts) have) in
    (sym (p.parts ∙ ap (λ (z : List ℕ). z ++ p.rest) is.0 ∙ p.holds is.1), is.1)

-- nothing was put
pub puts_nil : (a : Outlet) → Puts a a []
puts_nil a = puts_of (outputs_nil a) (λ ok have. (sym (append-nil a.held), ok))

-- bytes were put, and then others
pub puts_then : {a b c : Outlet} {x y : List ℕ} → Puts a b x → Puts b c y → Puts a c (x ++ y)
puts_then {a} {b} {c} {x} {y} p q = puts_of (outputs_then (outputs_of p) (outputs_of q)) short where
  short : Short a c (x ++ y)
  short ok have =
      let sum : length (a.held ++ (x ++ y)) ≡ length (a.held ++ x) + length y = ap length (sym (append_assoc a.held x y)) ∙ length-append (a.held ++ x) y in
      let first = puts_short p ok (omega arith) in
      let both : length (b.held ++ y) ≤ room = rw (ap (λ (z : List ℕ). z ++ y) first.0 ∙ append_assoc a.held x y) have in
      let last = puts_short q first.1 both in
      (last.0 ∙ ap (λ (z : List ℕ). z ++ y) first.0 ∙ append_assoc a.held x y, last.1)

-- the same bytes
pub puts_as : {a b : Outlet} {x y : List ℕ} → x ≡ y → Puts a b x → Puts a b y
puts_as {a} {b} e p = subst (λ (text : List ℕ). Puts a b text) e p

-- bytes were only held
pub outputs_held : (a b : Outlet) (bytes : List ℕ) → b.writer ≡ a.writer → b.known ≡ a.known → b.has_failed ≡ a.has_failed → b.held ≡ a.held ++ bytes → Outputs a b bytes
outputs_held a b bytes w k f e =
    record { same = w; sent = []; rest = a.held ++ bytes; parts = refl; written = rw k (Appends-nil a.known); stays = λ g. (refl, f ∙ g); holds = λ g. sym e }

pub puts_held : (a b : Outlet) (bytes : List ℕ) → b.writer ≡ a.writer → b.known ≡ a.known → b.has_failed ≡ a.has_failed → b.held ≡ a.held ++ bytes → Puts a b bytes
puts_held a b bytes w k f e = puts_of (outputs_held a b bytes w k f e) (λ ok have. (e, f ∙ ok))

-- bytes went out that had no room in the buffer
pub puts_over_room : {a b : Outlet} {bytes : List ℕ} → room < length (a.held ++ bytes) → Outputs a b bytes → Puts a b bytes
puts_over_room {a} {b} {bytes} long p = puts_of p (λ ok have. absurd (omega arith))

-- all that was held was handed over, or as much of it as the writer took
pub puts_sent : (a b : Outlet) → b.writer ≡ a.writer → Sends a.known b.known a.held a.has_failed b.has_failed → b.held ≡ [] → Outputs a b []
puts_sent a b w s none =
    record { same = w; sent = s.sent; rest = s.rest; parts = append-nil a.held ∙ s.parts; written = s.written; stays = s.stays; holds = λ g. s.whole g ∙ sym none }

-- bytes are written at once, if the buffer is empty
pub puts_direct : (a b : Outlet) (bytes : List ℕ) → b.writer ≡ a.writer → a.held ≡ [] → Sends a.known b.known bytes a.has_failed b.has_failed → b.held ≡ [] → Outputs a b bytes
puts_direct a b bytes w from s none =
    record { same = w; sent = s.sent; rest = s.rest; parts = ap (λ (z : List ℕ). z ++ bytes) from ∙ s.parts; written = s.written; stays = s.stays; holds = λ g. s.whole g ∙ sym none }

-- some of the whole was put, and the rest is left
pub record HasPut (old new : Outlet) (whole rest : List ℕ) : Type 0 where
  pub front : List ℕ
  pub parts : whole ≡ front ++ rest
  pub done : Puts old new front

-- the rest is all of it, in another form
pub put_none : {a : Outlet} {whole rest : List ℕ} → whole ≡ rest → HasPut a a whole rest
put_none {a} e = record { front = []; parts = e; done = puts_nil a }

-- the rest in another form
pub put_as : {a b : Outlet} {whole rest more : List ℕ} → HasPut a b whole rest → rest ≡ more → HasPut a b whole more
put_as h e = record { front = h.front; parts = h.parts ∙ ap (λ (z : List ℕ). h.front ++ z) e; done = h.done }

-- a piece was put, and the rest is left
pub put_first : {a b : Outlet} {whole x y : List ℕ} → whole ≡ x ++ y → Puts a b x → HasPut a b whole y
put_first {x = x} e p = record { front = x; parts = e; done = p }

-- a piece of the rest is put
pub put_more : {a b c : Outlet} {whole rest x y : List ℕ} → HasPut a b whole rest → rest ≡ x ++ y → Puts b c x → HasPut a c whole y
put_more {x = x} {y = y} h e p =
    let parts = h.parts ∙ ap (λ (z : List ℕ). h.front ++ z) e ∙ sym (append_assoc h.front x y) in
    record { front = h.front ++ x; parts = parts; done = puts_then h.done p }

-- the last of it is put
pub put_last : {a b c : Outlet} {whole rest : List ℕ} → HasPut a b whole rest → Puts b c rest → Puts a c whole
put_last h p = puts_as (sym h.parts) (puts_then h.done p)

-- nothing is left
pub put_all : {a b : Outlet} {whole rest : List ℕ} → HasPut a b whole rest → rest ≡ [] → Puts a b whole
put_all h e = puts_as (sym (h.parts ∙ ap (λ (z : List ℕ). h.front ++ z) e ∙ append-nil h.front)) h.done

-- all output is written, if the buffer was empty before and is written now
pub all_written : {a b : Outlet} {text : List ℕ} → a.held ≡ [] → Outputs a b text → IsHandedOver b → Appends a.known b.known text
all_written {a} {b} {text} none p over =
    let same : text ≡ p.sent = ap (λ (z : List ℕ). z ++ text) (sym none) ∙ p.parts ∙ ap (λ (z : List ℕ). p.sent ++ z) (p.holds over.1 ∙ over.0) ∙ append-nil p.sent in
    rw same p.written

-- and otherwise a prefix of it
pub front_written : {a b : Outlet} {text : List ℕ} → a.held ≡ [] → Outputs a b text → AppendsFront a.known b.known text
front_written {a} {b} {text} none p =
    record { front = p.sent; back = p.rest; parts = ap (λ (z : List ℕ). z ++ text) (sym none) ∙ p.parts; written = p.written }

-- nothing more went out
pub outputs_no_more : {a b c : Outlet} {x : List ℕ} → Outputs a b x → Outputs b c [] → Outputs a c x
outputs_no_more {x = x} p q = outputs_as (append-nil x) (outputs_then p q)

pub puts_no_more : {a b c : Outlet} {x : List ℕ} → Puts a b x → Outputs b c [] → Outputs a c x
puts_no_more p q = outputs_no_more (outputs_of p) q

-- bytes were put, and then all was handed over
pub puts_over : {A E : Type 0} {a b : Outlet} {x : List ℕ} (c : Outlet) (r : Result A E) → Puts a b x → HandsOver b c [] r → HandsOver a c x r
puts_over c (Ok v) p h = (puts_no_more p h.0, h.1)
puts_over c (Err e) p h = puts_no_more p h

-- so they are written, or a prefix of them if that fails
pub handed_over : {A E : Type 0} (a b c : Outlet) {old new : Option (List ℕ)} {text : List ℕ} (r : Result A E)
    → a.held ≡ [] → Puts a b text → HandsOver b c [] r → a.known ≡ old → c.known ≡ new → WritesText text old new r
handed_over a b c (Ok x) none p h was is = rw (sym was, sym is) (all_written none (puts_no_more p h.0) h.1)
handed_over a b c (Err e) none p h was is = rw (sym was, sym is) (front_written none (puts_no_more p h))

-- bytes were printed, and then the buffer was written
pub reports_all : {a b c : Outlet} {x : List ℕ} → Puts a b x → Reports b c [] → Reports a c x
reports_all p q = (puts_no_more p q.0, q.1)

-- prefixes of what is written: all of it
pub whole_front : (old new : Option (List ℕ)) (bytes : List ℕ) → Appends old new bytes → AppendsFront old new bytes
whole_front old new bytes is = record { front = bytes; back = []; parts = sym (append-nil bytes); written = is }

-- bytes, and then a prefix of more
pub front_behind : (old mid new : Option (List ℕ)) (bytes more : List ℕ) → Appends old mid bytes → AppendsFront mid new more → AppendsFront old new (bytes ++ more)
front_behind old mid new bytes more all is =
    record { front = bytes ++ is.front; back = is.back; parts = ap (λ (ys : List ℕ). bytes ++ ys) is.parts ∙ sym (append_assoc bytes is.front is.back); written = Appends-trans old mid new bytes is.front all is.written }

-- a prefix of bytes is one of these and more
pub front_of_more : (old new : Option (List ℕ)) (bytes more : List ℕ) → AppendsFront old new bytes → AppendsFront old new (bytes ++ more)
front_of_more old new bytes more is =
    record { front = is.front; back = is.back ++ more; parts = ap (λ (ys : List ℕ). ys ++ more) is.parts ∙ append_assoc is.front is.back more; written = is.written }

-- a text that was written, or a prefix of it
pub text_front : {A E : Type 0} (old new : Option (List ℕ)) (text : List ℕ) (r : Result A E) → WritesText text old new r → AppendsFront old new text
text_front old new text (Ok x) h = whole_front old new text h
text_front old new text (Err e) h = h

-- the whole, if there is no fault
pub text_whole : {A E : Type 0} (old new : Option (List ℕ)) (text : List ℕ) (r : Result A E) → WritesText text old new r → is_err r ≡ false → Appends old new text
text_whole old new text (Ok x) h ok = h
text_whole old new text (Err e) h ok = absurd cc

-- what the writer holds stays as it is flushed
pub front_kept : (old mid new : Option (List ℕ)) (text : List ℕ) → AppendsFront old mid text → Keeps mid new → AppendsFront old new text
front_kept old mid new text is same = record { front = is.front; back = is.back; parts = is.parts; written = Appends-kept old mid new is.front is.written same }

pub front_flushed : {A E : Type 0} (old mid new : Option (List ℕ)) (text : List ℕ) (r : Result A E) → WritesText text old mid r → Keeps mid new → AppendsFront old new text
front_flushed old mid new text r told same = front_kept old mid new text (text_front old mid text r told) same
