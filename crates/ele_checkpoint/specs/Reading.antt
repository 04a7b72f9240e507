-- Reading from left to right, with the first mistake that is met. Only the calls that read parts cite this module.
use Rattle.std.specs.Prelude.{◌≡◌, ℕ, Result, Ok, Err}
use Rattle.ele_checkpoint.specs.declared.fault.Flaw.{Flaw}
use Rattle.ele_checkpoint.specs.declared.fault.Mistake.{Mistake}
use Rattle.ele_checkpoint.specs.declared.fault.Stop.{Stop}
use Rattle.ele_checkpoint.specs.declared.fault.Stop.TheVariants as stop

-- a flaw, with so many bytes from its place on
abbrev pub mistake : ℕ → Flaw → Mistake
mistake left flaw = record { left = left; flaw = flaw }

infixl 10 ◌>>=◌
abbrev pub ◌>>=◌ : {A B : Type 0} → Result A Mistake → (A → Result B Mistake) → Result B Mistake
(Ok x) >>= f = f x
(Err e) >>= f = Err e

-- why nothing was read: no memory, or the mistake that reading meets
abbrev pub Fails : {Y : Type 0} → Stop → Result Y Mistake → Type 0
Fails stop.Memory read = Unit {0}
Fails (stop.At m) read = read ≡ Err m

-- what a function returned, seen by view, is what reading gives, unless memory was refused
abbrev pub Gives : {X Y : Type 0} → (X → Y) → Result X Stop → Result Y Mistake → Type 0
Gives view (Ok x) read = read ≡ Ok (view x)
Gives view (Err e) read = Fails e read
