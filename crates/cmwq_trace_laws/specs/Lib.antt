pub mod EventLaws
pub mod FileLaws
pub mod PhaseLaws
