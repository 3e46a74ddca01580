pub mod AsciiLemmas
pub mod CdataLemmas
pub mod Course
pub mod Refinement
pub mod SpareLemmas
pub mod TableLemmas
pub mod Termination
