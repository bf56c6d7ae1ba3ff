pub mod MisuseView
