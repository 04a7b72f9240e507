-- The words of std that proofs here use, in one place.
pub use Rattle.std.proofs.Common.{arith, drop}
