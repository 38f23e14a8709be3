pub mod WhyText
