pub mod Run
pub mod Taking
pub mod Asks
pub mod Pieces
pub mod Fitting
pub mod More
pub mod Does
pub mod inside
