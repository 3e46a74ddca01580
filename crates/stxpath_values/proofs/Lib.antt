pub mod OutcomeLemmas
pub mod NumeralLemmas
pub mod PlacesLemmas
pub mod OccurrenceLemmas
pub mod WordsLemmas
pub mod NumberTextLemmas
pub mod EqualTextLemmas
