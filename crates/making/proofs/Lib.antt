pub mod FirstWorld
