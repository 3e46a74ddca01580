mod Answers
mod Folds
mod Items
mod Led
mod Loops
mod Reached
mod Shapes
