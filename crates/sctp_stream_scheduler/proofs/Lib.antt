pub mod SchedulerLemmas
