pub mod PaceLemmas
pub mod BellLemmas
