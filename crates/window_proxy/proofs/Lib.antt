pub mod HoldLaws
pub mod MessageLaws
