use Rattle.ele_svg.proofs.columns.curve_moments.Goals as goal

pub returns : goal.returns
returns c = rw c.summary_page-page.ensures at c.moments_until.ensures
