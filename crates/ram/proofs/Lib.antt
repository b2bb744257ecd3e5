pub mod ByteLaws
pub mod AreaLaws
pub mod BytewiseLaws
pub mod PlaneLaws
pub mod WriteLaws
pub mod CopyLaws
