pub mod PathChanges
