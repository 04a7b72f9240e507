use Rattle.ele_renewal.proofs.Firsts.{cells_renewed}
use Rattle.ele_renewal.proofs.Words.{new_file, new_version, refl, renewed_cells, ◌∙◌, ◌≡◌}
use Rattle.ele_renewal.proofs.rows.renewed_version.Goals as goal

pub returns : goal.returns
returns c =
    let w = c.args.flat.now in
    let row = c.args.row.now in
    let cells : c.in_ok-cells_by.field-0 ≡ renewed_cells w.versions row.file 0 row.cells = (rw c.as_slice-3.ensures at c.in_ok-cells_by.ensures) ∙ cells_renewed w.versions c.args.known.now c.requires.first row.file 0 row.cells in
    let file : c.new_file.result ≡ new_file w.files row.file = rw c.as_slice.ensures at c.new_file.ensures in
    let number : c.new_version.result ≡ new_version w.versions row.file row.number = rw c.as_slice-2.ensures at c.new_version.ensures.number in
    rw (file, number, cells) refl
