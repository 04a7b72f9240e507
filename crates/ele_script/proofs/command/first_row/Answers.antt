use Rattle.ele_script.proofs.Basics.{refl, arith}
use Rattle.ele_script.proofs.Letters.{none_begin}
use Rattle.ele_script.specs.CommandOf.{command_of}
use Rattle.ele_script.proofs.command.first_row.Goals as goal

pub returns-in-97-clause-finds : goal.returns-in-97-clause-finds
unfolding command_of
returns-in-97-clause-finds c = λ word words. rw c.in-97.is refl

pub returns-in-99-clause-finds : goal.returns-in-99-clause-finds
unfolding command_of
returns-in-99-clause-finds c = λ word words. rw c.in-99.is refl

pub returns-in-100-clause-finds : goal.returns-in-100-clause-finds
unfolding command_of
returns-in-100-clause-finds c = λ word words. rw c.in-100.is refl

pub returns-in-101-clause-finds : goal.returns-in-101-clause-finds
unfolding command_of
returns-in-101-clause-finds c = λ word words. rw c.in-101.is refl

pub returns-in-103-clause-finds : goal.returns-in-103-clause-finds
unfolding command_of
returns-in-103-clause-finds c = λ word words. rw c.in-103.is refl

pub returns-in-104-clause-finds : goal.returns-in-104-clause-finds
unfolding command_of
returns-in-104-clause-finds c = λ word words. rw c.in-104.is refl

pub returns-in-108-clause-finds : goal.returns-in-108-clause-finds
unfolding command_of
returns-in-108-clause-finds c = λ word words. rw c.in-108.is refl

pub returns-in-109-clause-finds : goal.returns-in-109-clause-finds
unfolding command_of
returns-in-109-clause-finds c = λ word words. rw c.in-109.is refl

pub returns-in-110-clause-finds : goal.returns-in-110-clause-finds
unfolding command_of
returns-in-110-clause-finds c = λ word words. rw c.in-110.is refl

pub returns-in-111-clause-finds : goal.returns-in-111-clause-finds
unfolding command_of
returns-in-111-clause-finds c = λ word words. rw c.in-111.is refl

pub returns-in-112-clause-finds : goal.returns-in-112-clause-finds
unfolding command_of
returns-in-112-clause-finds c = λ word words. rw c.in-112.is refl

pub returns-in-114-clause-finds : goal.returns-in-114-clause-finds
unfolding command_of
returns-in-114-clause-finds c = λ word words. rw c.in-114.is refl

pub returns-in-115-clause-finds : goal.returns-in-115-clause-finds
unfolding command_of
returns-in-115-clause-finds c = λ word words. rw c.in-115.is refl

pub returns-in-116-clause-finds : goal.returns-in-116-clause-finds
unfolding command_of
returns-in-116-clause-finds c = λ word words. rw c.in-116.is refl

pub returns-in-117-clause-finds : goal.returns-in-117-clause-finds
unfolding command_of
returns-in-117-clause-finds c = λ word words. rw c.in-117.is refl

pub returns-in-118-clause-finds : goal.returns-in-118-clause-finds
unfolding command_of
returns-in-118-clause-finds c = λ word words. rw c.in-118.is refl

pub returns-in-119-clause-finds : goal.returns-in-119-clause-finds
unfolding command_of
returns-in-119-clause-finds c = λ word words. rw c.in-119.is refl

pub returns-in_default-clause-finds : goal.returns-in_default-clause-finds
returns-in_default-clause-finds c =
    none_begin c.args.letter (omega arith) (omega arith) (omega arith) (omega arith) (omega arith) (omega arith) (omega arith) (omega arith) (omega arith) (omega arith) (omega arith) (omega arith) (omega arith) (omega arith) (omega arith) (omega arith) (omega arith)
