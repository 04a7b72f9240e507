pub mod Whenever
