-- what a finished pass leaves
mod Whenever
