pub mod FilesKeep
