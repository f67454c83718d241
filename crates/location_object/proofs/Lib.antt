pub mod BlankLaws
pub mod HoldLaws
