pub mod Cutting
pub mod Failing
pub mod HitLemmas
pub mod KeptLaws
pub mod Numbers
pub mod Searches
pub mod SpotLemmas
pub mod Walks
