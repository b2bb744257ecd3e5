pub mod BitLaws
pub mod EightLaws
pub mod FilledLaws
pub mod NumberLaws
pub mod OutsideLaws
pub mod PanelLaws
