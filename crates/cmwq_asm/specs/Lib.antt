pub mod CommentLines
pub mod Header
pub mod LineAnswers
pub mod LineSteps
pub mod TextStages
pub mod Texts
