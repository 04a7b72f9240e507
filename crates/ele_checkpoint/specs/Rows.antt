-- Rows of directories, files, names, handles and groups: their bytes.
use Rattle.std.specs.Prelude.{ℕ, List, ◌++◌}
use Rattle.ele_model.specs.declared.rows.DirectoryRow.{DirectoryRow}
use Rattle.ele_model.specs.declared.rows.FileRow.{FileRow}
use Rattle.ele_model.specs.declared.rows.NameRow.{NameRow}
use Rattle.ele_model.specs.declared.rows.HandleRow.{HandleRow}
use Rattle.ele_model.specs.declared.rows.MarkRow.{MarkRow}
use Rattle.ele_model.specs.declared.rows.GroupRow.{GroupRow}
use Rattle.ele_checkpoint.specs.Number.{number_text}
use Rattle.ele_checkpoint.specs.Lists.{list_text}
use Rattle.ele_checkpoint.specs.Values.{string_text, maybe_text, policy_text, target_text, reads_text}

abbrev pub directory_text : DirectoryRow → List ℕ
directory_text row = number_text row.id ++ policy_text row.default

abbrev pub file_text : FileRow → List ℕ
file_text row = number_text row.id ++ policy_text row.policy ++ number_text row.next

abbrev pub name_text : NameRow → List ℕ
name_text row = number_text row.directory ++ string_text row.name ++ target_text row.target ++ number_text row.birth ++ maybe_text row.death

abbrev pub handle_text : HandleRow → List ℕ
handle_text row = number_text row.number ++ reads_text row.reads

abbrev pub mark_text : MarkRow → List ℕ
mark_text row = number_text row.at ++ maybe_text row.until

abbrev pub group_text : GroupRow → List ℕ
group_text row = string_text row.name ++ list_text number_text row.members ++ list_text mark_text row.marks
