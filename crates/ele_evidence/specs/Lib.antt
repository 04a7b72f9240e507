pub mod Checked
pub mod EvidenceText
pub mod Verdict
pub mod VerdictText
