use Rattle.ele_state.proofs.Words.{Groups, refl, sym, ◌∙◌}
use Rattle.ele_state.proofs.Fated.{beside_closing, fate_made, fate_told, fate_ungoverned}
use Rattle.ele_model.specs.declared.fate.Fate.TheVariants.{Current, Open, Marked}
use Rattle.ele_state.proofs.fate.fate_of.Goals as goal

pub returns-in_default : goal.returns-in_default
returns-in_default c = fate_told c.args.rows.now c.args.file c.args.info.now c.requires.held Current c.in_default.is

pub returns-then-is_open : goal.returns-then-is_open
returns-then-is_open c = fate_told c.args.rows.now c.args.file c.args.info.now c.requires.held Open (rw c.in-Some.is refl, sym c.is_open.ensures ∙ c.if-is_open.true)

pub first_mark-requires : goal.first_mark-requires
first_mark-requires c = record { named = (c.requires.sound.formed.holds Groups).named; cover = c.cover-cover.ensures }

pub returns-in-Some-first_mark : goal.returns-in-Some-first_mark
returns-in-Some-first_mark c =
    let marked = rw (← c.in-Some.is) at c.in-Some-first_mark.ensures.some in
    fate_told c.args.rows.now c.args.file c.args.info.now c.requires.held (Marked _ _) (rw c.in-Some.is refl, sym c.is_open.ensures ∙ c.if-is_open.false, marked)

pub unreachable-requires : goal.unreachable-requires
unreachable-requires c = fate_ungoverned c.args.rows.now c.requires.sound c.args.file c.args.info.now c.requires.held (rw c.in_default-beside.ensures.none refl)

pub free_fate-requires : goal.free_fate-requires
free_fate-requires c = rw c.newer_of-next.ensures (beside_closing c.args.rows.now.files c.args.file c.args.info.now c.is_live-is_live.result c.in-Some-beside.beside c.in-Some-beside.ensures.some)

pub returns : goal.returns
returns c =
    let is = c.in-Some-beside.ensures.some in
    fate_made c.args.rows.now c.requires.sound c.args.file c.args.info.now c.requires.held (record {
      ended = c.in-Some.ended;
      ends = c.in-Some.is;
      unread = sym c.is_open.ensures ∙ c.if-is_open.false;
      unmarked = c.in_default-first_mark.ensures.none;
      rule = is.rule;
      ruled = rw c.is_live-is_live.ensures at is.ruled;
    }) c.free_fate.result (rw (c.cover-cover.ensures, c.newer_of-next.ensures, is.next, is.case) at c.free_fate.ensures)
