-- the rows that one part marks, from the newest on
pub mod PartSteps
-- the parts that options spell
pub mod RuleParts
