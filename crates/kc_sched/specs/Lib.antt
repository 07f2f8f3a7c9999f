pub mod Sched
