use Rattle.ele_commands.proofs.event.put_event.Goals as goal

pub returns-in-GroupMake-clause-text : goal.returns-in-GroupMake-clause-text
returns-in-GroupMake-clause-text g c = rw c.in-GroupMake.is c.put_parts-in-GroupMake.ensures.text

pub returns-in-GroupDrop-clause-text : goal.returns-in-GroupDrop-clause-text
returns-in-GroupDrop-clause-text g c = rw c.in-GroupDrop.is c.put_parts-in-GroupDrop.ensures.text
