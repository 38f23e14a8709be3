pub mod Engine
pub mod FullIssues
pub mod History
pub mod Issuing
pub mod Laws
pub mod Shared
