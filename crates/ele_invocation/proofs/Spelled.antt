-- Words one after another, and what each spells.
use Rattle.std.proofs.Common.{◌≡◌, ◌<◌, ◌∙◌, Bor, option_map, unwrap_or, Bool, ℕ, zero, suc, List, [], ◌∷◌, length, get_or, map, Option, Result, Ok, Err, Some, None, is_some, MatchBool, is_ok, IfNone, ◌||◌, refl, ap, sym, true, arith}
use Rattle.std.specs.List.{AllZip, list_any}
use Rattle.std.proofs.lemmas.Bool.{false≢true}
use Rattle.std.proofs.lemmas.Option.{same_Some}
use Rattle.ele_outlook.specs.declared.options.Form.{Form}
use Rattle.ele_policy.specs.declared.policy.Policy.{Policy}
use Rattle.ele_printer.specs.declared.fault.LineFault.{LineFault}
use Rattle.ele_script.specs.PolicyWord.{ReadsPolicy}
use Rattle.ele_tool_words.specs.Length.{SpellsLength}
use Rattle.ele_tool_words.specs.Zone.{SpellsZone}
use Rattle.ele_tool_words.specs.declared.zone.Offset.{Offset}
use Rattle.ele_invocation.specs.Forecasts.{IsClock, IsForeign, IsOverTime, IsPlain, over_time}
use Rattle.ele_invocation.specs.Unread.{NoneAsks}
use Rattle.ele_invocation.specs.declared.reading.Unread.{Unread}
use Rattle.ele_invocation.specs.declared.reading.Unread.TheVariants.{Because, BadRule, NoMemory}

-- a test of what elements give
pub any_map : {A B : Type 0} (p : B → Bool) (f : A → B) (xs : List A) → list_any p (map f xs) ≡ list_any (λ x. p (f x)) xs
any_map p f [] = refl
any_map p f (x ∷ xs) = ap (λ (b : Bool). p (f x) || b) (any_map p f xs)

-- a word that spells no offset gives no clock
pub no_clock : (word : List ℕ) → ((offset : Offset) → ¬ SpellsZone word offset) → (clock : Option Offset) → ¬ IsClock (Some word) clock
no_clock word none None is = is
no_clock word none (Some offset) is = none offset is

-- a word that spells nothing
pub none_zips : {A B C : Type 0} (f : C → A) (R : A → B → Type 0) (xs : List C) (ys : List B) (i : ℕ) (d : C) → i < length xs → ((y : B) → ¬ R (f (get_or xs i d)) y) → ¬ AllZip R (map f xs) ys
none_zips f R [] ys i d lt bad all = absurd (omega (arith, lt))
none_zips f R (w ∷ xs) [] i d lt bad all = all
none_zips f R (w ∷ xs) (y ∷ ys) zero d lt bad all = bad y all.0
none_zips f R (w ∷ xs) (y ∷ ys) (suc i) d lt bad all = none_zips f R xs ys i d (omega (arith, lt)) bad all.1

-- a word that asks for nothing
pub none_zipped : {A B C : Type 0} (f : C → A) (R : A → B → Type 0) (xs : List C) (i : ℕ) (d : C) (why : Unread) → i < length xs → NoneAsks (R (f (get_or xs i d))) why → NoneAsks (AllZip R (map f xs)) why
none_zipped f R xs i d (Because text) lt none = λ ys. none_zips f R xs ys i d lt none
none_zipped f R xs i d (BadRule fault) lt none = λ ys. none_zips f R xs ys i d lt none
none_zipped f R xs i d NoMemory lt none = tt

-- what a script reads in a word
pub read_or_not : (word : List ℕ) (r : Result Policy LineFault) → ReadsPolicy word r → MatchBool (is_ok r) (IsPlain word) (IsForeign word)
read_or_not word (Ok policy) reads = (policy, reads)
read_or_not word (Err fault) reads = (fault, reads)

-- the only length that a word spells gives the only form
pub only_form : (csv : Bool) (word : List ℕ) (step : ℕ) (form : Form) → ((n : ℕ) → SpellsLength word n → ◌≡◌ {A = Option ℕ} (Some step) (Some n)) → IsOverTime csv word form → ◌≡◌ {A = Result Form Unread} (Ok (over_time csv step)) (Ok form)
only_form csv word step form only is =
    ap (λ (n : ℕ). Ok (over_time csv n)) (same_Some step is.step (only is.step is.spelled)) ∙ ap (λ (f : Form). Ok f) (sym is.form_is)

-- there is no value, if it leads to nothing
pub if_none : {T : Type 0} (o : Option T) (Q : Type 0) → ((is_some o ≡ true → ⊥) → Q) → IfNone o Q
if_none None Q f = f (λ e. absurd (false≢true e))
if_none (Some x) Q f = tt

-- what asks for more is asked for no more
pub none_weaker : {X Y : Type 0} (P : X → Type 0) (Q : Y → Type 0) (why : Unread) → ((y : Y) → Q y → (x : X) × P x) → NoneAsks P why → NoneAsks Q why
none_weaker P Q (Because text) f none = λ y q. none (f y q).0 (f y q).1
none_weaker P Q (BadRule fault) f none = λ y q. none (f y q).0 (f y q).1
none_weaker P Q NoMemory f none = tt

-- the values of an option, or none
pub values_are : (o : Option (Bor (List (Bor (List ℕ))))) (d r : Bor (List (Bor (List ℕ)))) (got : Option (List (List ℕ))) → option_map (λ v. map (λ (w : Bor (List ℕ)). w.now) v.now) o ≡ got
    → r ≡ unwrap_or o d → d.now ≡ [] → unwrap_or got [] ≡ map (λ (w : Bor (List ℕ)). w.now) r.now
values_are None d r got e f n =
    ap (λ (g : Option (List (List ℕ))). unwrap_or g []) (sym e) ∙ sym (ap (λ (b : Bor (List (Bor (List ℕ)))). map (λ (w : Bor (List ℕ)). w.now) b.now) f ∙ ap (map (λ (w : Bor (List ℕ)). w.now)) n)
values_are (Some v) d r got e f n =
    ap (λ (g : Option (List (List ℕ))). unwrap_or g []) (sym e) ∙ sym (ap (λ (b : Bor (List (Bor (List ℕ)))). map (λ (w : Bor (List ℕ)). w.now) b.now) f)

-- nothing is asked for, whatever the reason
pub none_at_all : {X : Type 0} (P : X → Type 0) (why : Unread) → ((x : X) → ¬ P x) → NoneAsks P why
none_at_all P (Because text) none = none
none_at_all P (BadRule fault) none = none
none_at_all P NoMemory none = tt
