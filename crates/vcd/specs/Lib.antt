pub mod Dump
pub mod Writer
pub mod Judging
pub mod Played
pub mod Captured
