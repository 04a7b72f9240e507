pub mod LivePath
