use Rattle.ele_tool_words.proofs.Words.{landmarks_alone, name_alone, safe_alone}
use Rattle.ele_tool_words.proofs.policy.read_policy.Goals as goal

pub returns-in-Some-clause-only : goal.returns-in-Some-clause-only
returns-in-Some-clause-only c policy is =
    c.read_safe.ensures.only policy (safe_alone c.args.word.now c.in-Some.text.now policy c.in-Some.ensures is)

pub returns-in-Some-behind-clause-only : goal.returns-in-Some-behind-clause-only
returns-in-Some-behind-clause-only c policy is =
    c.read_landmarks.ensures.only policy (landmarks_alone c.args.word.now c.in-Some-behind.text.now policy c.in-Some-behind.ensures is)

pub returns-clause-only : goal.returns-clause-only
returns-clause-only c policy is =
    c.read_name.ensures.only policy (name_alone c.args.word.now policy c.in_default.ensures c.in_default-behind.ensures is)
