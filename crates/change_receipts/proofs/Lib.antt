pub mod BlockLaws
pub mod ReceiptLaws
