use Rattle.ele_outlook.proofs.against.put_against_drawing.Goals as goal

pub returns-in-Some : goal.returns-in-Some
returns-in-Some g c = rw c.in-Some.is (rw (c.word_here-word.ensures, c.versions_of.ensures) at c.put_compared_drawing.ensures)
