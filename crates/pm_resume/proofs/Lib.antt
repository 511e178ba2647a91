pub mod Pairs
pub mod Shapes
pub mod Resumes
pub mod Reaches
pub mod Makes
pub mod RowLaws
pub mod Answered
