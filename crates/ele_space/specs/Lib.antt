pub mod Amounts
pub mod AmountsText
pub mod Removals
