pub mod Entries
pub mod Examples
pub mod FileReading
pub mod HeadParts
pub mod PageParts
pub mod Pages
pub mod Reading
pub mod TraceData
