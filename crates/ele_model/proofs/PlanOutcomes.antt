-- What is true of all possible outcomes of a plan is true of its outcome.
use Rattle.ele_model.proofs.Basics.{arith, ◌≡◌, true, false, List, [], Some, None, Ok, refl, rules, nat_tests, Bool, ◌||◌, ◌∷◌, false≢true}
use Rattle.ele_model.proofs.Words.{Change, after_changes, Plan, Tell, Make, Unless, When, Need, IfFound, refused, outcome, World, Refusal, Reply, asks, plan, step, Event, Read, Refused}
use Rattle.ele_model.specs.ReadersStay.{ReadersStay, needs_memory}

-- of each answer with its changes, if the checks pass
abbrev pub InAll : (Reply → List Change → Type 0) → Plan → Type 0
InAll Q (Tell reply) = Q reply []
InAll Q (Make reply changes) = Q reply changes
InAll Q (Unless test refusal next) = test ≡ false → InAll Q next
InAll Q (When test passing otherwise) = (test ≡ true → InAll Q passing) × (test ≡ false → InAll Q otherwise)
InAll Q (Need found next) = (x : _) → found ≡ Ok x → InAll Q (next x)
InAll Q (IfFound found otherwise next) = (found ≡ None → InAll Q otherwise) × ((x : _) → found ≡ Some x → InAll Q (next x))

pub outcome_of : (w : World) (Q : Reply → List Change → Type 0) (R : Reply × World → Type 0) → ((reply : Reply) (changes : List Change) → Q reply changes → R (reply, after_changes w changes)) → ((refusal : Refusal) → R (refused w refusal)) → (plan : Plan) → InAll Q plan → R (outcome w plan)
outcome_of w Q R to none (Tell reply) all = to reply [] all
outcome_of w Q R to none (Make reply changes) all = to reply changes all
outcome_of w Q R to none (Unless false refusal next) all = outcome_of w Q R to none next (all refl)
outcome_of w Q R to none (When test passing otherwise) all = grind (arith, outcome_of w Q R to none passing, outcome_of w Q R to none otherwise)
outcome_of w Q R to none (Need (Ok x) next) all = outcome_of w Q R to none (next x) (all x refl)
outcome_of w Q R to none (IfFound None otherwise next) all = outcome_of w Q R to none otherwise (all.0 refl)
outcome_of w Q R to none (IfFound (Some x) otherwise next) all = outcome_of w Q R to none (next x) (all.1 x refl)
outcome_of w Q R to none plan all = none _

-- of each answer with the world after
abbrev pub AfterAll : World → (Reply × World → Type 0) → Plan → Type 0
AfterAll w Q plan = InAll (λ reply changes. Q (reply, after_changes w changes)) plan

pub in_all : (w : World) (Q : Reply × World → Type 0) (plan : Plan) → ((refusal : Refusal) → Q (refused w refusal)) → AfterAll w Q plan → Q (outcome w plan)
in_all w Q plan none all = outcome_of w (λ reply changes. Q (reply, after_changes w changes)) Q (λ reply changes so. so) none plan all

-- ---- an event that is refused, or only asks, leaves the world

abbrev is_refusal : Reply → Bool
is_refusal (Refused refusal) = true
is_refusal _ = false

-- what makes changes is no refusal, and isn't only asked
abbrev IsFair : Event → Reply → List Change → Type 0
IsFair event reply [] = Unit {0}
IsFair event reply (change ∷ changes) = (is_refusal reply || asks event) ≡ false

fair : (w : World) (event : Event) → InAll (IsFair event) (plan w event)
fair w (Read source) = grind (arith, nat_tests)
fair w event = search (rules)

stays : (w : World) (event : Event) → (is_refusal ((step w event).0) || asks event) ≡ true → (step w event).1 ≡ w
stays w event = outcome_of w (IsFair event) (λ answer. (is_refusal (answer.0) || asks event) ≡ true → answer.1 ≡ w) (λ reply changes fair is. grind (arith, nat_tests, false≢true)) (λ refusal is. refl) (plan w event) (fair w event)

pub refused_stays : (w : World) (event : Event) (refusal : Refusal) → (step w event).0 ≡ Refused refusal → (step w event).1 ≡ w
refused_stays w event refusal e = stays w event (rw e refl)

pub asking_stays : (w : World) (event : Event) → asks event ≡ true → (step w event).1 ≡ w
asking_stays w event is = grind (arith, nat_tests, stays w event)

-- ---- an event whose reply takes memory to copy leaves the world

-- what makes changes is answered without a list
abbrev IsCalm : Reply → List Change → Type 0
IsCalm reply [] = Unit {0}
IsCalm reply (change ∷ changes) = needs_memory reply ≡ false

calm : (w : World) (event : Event) → InAll IsCalm (plan w event)
calm w (Read source) = grind (arith, nat_tests)
calm w event = search (rules)

pub readers_stay : ReadersStay
readers_stay w event = outcome_of w IsCalm (λ answer. needs_memory (answer.0) ≡ true → answer.1 ≡ w) (λ reply changes calm is. grind (arith, nat_tests, false≢true)) (λ refusal is. refl) (plan w event) (calm w event)
