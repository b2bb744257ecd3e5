pub mod LittleLaws
pub mod EventLaws
pub mod RunLaws
pub mod OneGigahertz
