mod Conditions
mod Finding
mod Outermost
mod Rising
