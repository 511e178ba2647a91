pub mod LexingLaws
pub mod LinesLaws
pub mod NamesLaws
