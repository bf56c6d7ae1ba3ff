pub mod ParameterViews
