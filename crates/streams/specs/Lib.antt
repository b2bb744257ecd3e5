pub mod InnerStretch
