pub mod Raising
pub mod Flattening
pub mod Whole
pub mod Counting
pub mod Showing
pub mod Taking
pub mod Living
pub mod Trying
pub mod Losing
pub use Rattle.kc_machine_invariants.proofs.kc_machine as kc_machine
