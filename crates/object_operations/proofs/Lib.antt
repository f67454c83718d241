pub mod KeyLaws
pub mod KeptLaws
