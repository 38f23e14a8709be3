pub mod Examples
pub mod Json
pub mod JsonParts
pub mod Lines
pub mod ObjectExamples
