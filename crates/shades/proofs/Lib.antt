pub mod ShadeLaws
