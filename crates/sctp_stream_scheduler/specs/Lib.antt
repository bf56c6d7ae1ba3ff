pub mod StreamScheduler
