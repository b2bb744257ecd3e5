pub mod RefusalLaws
pub mod X3Laws
