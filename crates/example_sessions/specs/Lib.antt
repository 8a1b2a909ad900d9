pub mod SessionKeys
