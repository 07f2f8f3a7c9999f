pub mod Raised
pub mod Flat
pub mod Counts
pub mod Shown
pub mod Lives
pub mod Tried
pub use Rattle.kc_machine_invariants.specs.kc_machine as kc_machine
pub use Rattle.kc_machine_invariants.specs.kc_machine_steps as kc_machine_steps
