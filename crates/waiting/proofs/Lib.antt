pub mod OperatorLaws
pub mod HoldLaws
pub mod PutLaws
pub mod CloseLaws
