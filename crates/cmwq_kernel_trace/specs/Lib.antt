pub mod DataTrace
pub mod Examples
pub mod KernelText
pub mod Recording
pub mod TextParts
