-- the version that a question or a revert means
pub mod Meant
-- a handle that begins a draft
pub mod Opened
-- the version that a path had at a moment
pub mod HadVersions
