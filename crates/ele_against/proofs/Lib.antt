-- names and lines, one after another
pub mod NamesMore
