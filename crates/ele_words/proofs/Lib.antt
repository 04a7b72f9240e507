pub mod Flushed
pub mod Progress
pub mod Told
pub mod Watching
-- ends without threads
pub mod Alone
