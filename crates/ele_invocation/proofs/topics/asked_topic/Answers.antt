use Rattle.std.proofs.Common.{Bool, true, false}
use Rattle.ele_invocation.specs.Invocation.{IsHelp}
use Rattle.ele_invocation.specs.declared.invocation.Invocation.TheVariants.{NoMemory}
use Rattle.ele_invocation.proofs.topics.asked_topic.Goals as goal

-- memory may be refused whether the words have help or not
no_memory : (has : Bool) → IsHelp has NoMemory
no_memory true = tt
no_memory false = tt

pub returns-in-Err : goal.returns-in-Err
returns-in-Err c = no_memory _
