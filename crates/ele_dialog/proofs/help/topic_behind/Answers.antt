use Rattle.ele_dialog.proofs.help.topic_behind.Goals as goal

pub returns-in-Some : goal.returns-in-Some
returns-in-Some c = (c.in-Some.words.now, c.in-Some.ensures, c.first_word.ensures)
