mod Bools
mod Endings
mod Walks
mod Fitting
mod Lawful
