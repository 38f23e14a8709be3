pub mod Drawn
pub mod Hints
pub mod Picking
pub mod Rendered
pub mod SpanEnd
pub mod WorksFound
