pub mod Judged
pub mod ReasonText
pub mod RuledTable
pub mod RuledCsv
pub mod RuledJson
