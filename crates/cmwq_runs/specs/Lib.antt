pub mod RunInstructions
