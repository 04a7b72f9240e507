use Rattle.ele_printer.proofs.Basics.{refl}
use Rattle.ele_printer.proofs.reply.put_answer.Goals as goal

pub returns-in-Done : goal.returns-in-Done
returns-in-Done g c = rw c.in-Done.is (_, refl, c.put.ensures)

pub returns-in-Nothing : goal.returns-in-Nothing
returns-in-Nothing g c =
    rw c.in-Nothing.is (_, refl, c.put-in-Nothing.ensures)

pub returns-in-Now : goal.returns-in-Now
returns-in-Now g c = rw c.in-Now.is (_, (_, c.text.ensures.spells, refl), c.put_line_of.ensures)

pub returns-in-Directory : goal.returns-in-Directory
returns-in-Directory g c = rw c.in-Directory.is (_, refl, rw c.id.view_is at c.put_line_of-in-Directory.ensures)

pub returns-in-File : goal.returns-in-File
returns-in-File g c = rw c.in-File.is (_, refl, rw c.file.view_is at c.put_line_of-in-File.ensures)

pub returns-in-Handle : goal.returns-in-Handle
returns-in-Handle g c = rw c.in-Handle.is (_, refl, rw c.handle.view_is at c.put_line_of-in-Handle.ensures)

pub returns-in-Version : goal.returns-in-Version
returns-in-Version g c = rw c.in-Version.is (_, refl, rw c.number.view_is at c.put_line_of-in-Version.ensures)

pub returns-in-Closed : goal.returns-in-Closed
returns-in-Closed g c = rw c.in-Closed.is (_, refl, c.put_closed.ensures)

pub returns-in-Removed : goal.returns-in-Removed
returns-in-Removed g c = rw c.in-Removed.is (_, refl, c.put_key.ensures)

pub returns-in-RestoreList : goal.returns-in-RestoreList
returns-in-RestoreList g c = rw c.in-RestoreList.is (_, refl, rw c.as_slice-in-RestoreList.ensures at c.put_rows-in-RestoreList.ensures)

pub returns-in-DueList : goal.returns-in-DueList
returns-in-DueList g c = rw c.in-DueList.is (_, refl, rw c.as_slice-in-DueList.ensures at c.put_rows-in-DueList.ensures)

pub returns-in-Refused : goal.returns-in-Refused
returns-in-Refused g c = rw c.in-Refused.is (_, refl, c.put_refusal.ensures)

pub returns-in-Bytes : goal.returns-in-Bytes
returns-in-Bytes g c = rw c.in-Bytes.is (_, refl, rw c.as_slice.ensures at c.put_bytes.ensures)

pub returns-in-UsageList : goal.returns-in-UsageList
returns-in-UsageList g c = rw c.in-UsageList.is (_, refl, rw c.get-in-UsageList.ensures at c.put_usages.ensures)

pub returns-in-FileStat : goal.returns-in-FileStat
returns-in-FileStat g c = rw c.in-FileStat.is (_, refl, rw c.get.ensures at c.put_file.ensures)

pub returns-in-DirStat : goal.returns-in-DirStat
returns-in-DirStat g c = rw c.in-DirStat.is (_, refl, rw c.get-in-DirStat.ensures at c.put_directory.ensures)

pub returns-in-Rows : goal.returns-in-Rows
returns-in-Rows g c = rw c.in-Rows.is (_, refl, rw c.as_slice-in-Rows.ensures at c.put_rows.ensures)

pub returns-in-NameList : goal.returns-in-NameList
returns-in-NameList g c = rw c.in-NameList.is (_, refl, rw c.as_slice-in-NameList.ensures at c.put_rows-in-NameList.ensures)

pub returns-in-GroupList : goal.returns-in-GroupList
returns-in-GroupList g c = rw c.in-GroupList.is (_, refl, rw c.as_slice-in-GroupList.ensures at c.put_rows-in-GroupList.ensures)
