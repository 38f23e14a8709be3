pub mod TallyContents
