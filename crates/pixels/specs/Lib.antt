pub mod Lists
pub mod States
pub mod Drive
pub mod InnerReady
pub mod Draw
pub mod InnerGuess
