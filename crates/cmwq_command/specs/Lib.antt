pub mod Advised
pub mod Carried
pub mod ExploredFiles
pub mod Opening
pub mod StrictRuns
pub mod SweptFiles
pub mod Tasks
pub mod Undone
