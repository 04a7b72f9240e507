-- What ends without threads ends so with them.
use Rattle.std.proofs.Common.{ℕ, Bool, List, Option}
use Rattle.std.proofs.KnownBytes.{Keeps-refl}
use Rattle.ele_output.specs.Outlet.{Outlet}
use Rattle.ele_words.specs.Ends.{EndsAlone, EndsWith}
use Rattle.ele_invocation.specs.declared.invocation.Invocation.{Invocation}
use Rattle.ele_invocation.specs.declared.invocation.Invocation.TheVariants as invocation

pub ends_alone : (asked : Invocation) (watched : Bool) (input rest old new shown : Option (List ℕ)) (before after : Outlet) (status : ℕ) → EndsAlone asked input rest old new before after status
    → EndsWith asked watched input rest old new shown shown before after status
ends_alone (invocation.Run limits options) watched input rest old new shown before after status ends = (Keeps-refl _, ends)
ends_alone (invocation.Storm plan) watched input rest old new shown before after status ends = absurd ends
ends_alone (invocation.Forecast ask file) watched input rest old new shown before after status ends = (Keeps-refl _, ends)
ends_alone invocation.Evidence watched input rest old new shown before after status ends = (Keeps-refl _, ends)
ends_alone invocation.Verify watched input rest old new shown before after status ends = (Keeps-refl _, ends)
ends_alone (invocation.Help text) watched input rest old new shown before after status ends = (Keeps-refl _, ends)
ends_alone (invocation.NotUnderstood text) watched input rest old new shown before after status ends = (Keeps-refl _, ends)
ends_alone invocation.NoMemory watched input rest old new shown before after status ends = (Keeps-refl _, ends)
