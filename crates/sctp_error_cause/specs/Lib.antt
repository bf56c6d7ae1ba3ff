pub mod CauseViews
