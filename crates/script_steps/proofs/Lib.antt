pub mod RowLaws
pub mod KeptLaws
pub mod StoredLaws
pub mod SuitLaws
pub mod ObjectLaws
pub mod OperationLaws
pub mod AnyLaws
