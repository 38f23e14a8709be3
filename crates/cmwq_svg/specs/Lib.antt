pub mod BarTitles
pub mod Bars
pub mod Examples
pub mod Hinted
pub mod Laws
pub mod Layout
pub mod Svg
