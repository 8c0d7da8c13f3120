pub mod BackLaws
pub mod RefusalLaws
