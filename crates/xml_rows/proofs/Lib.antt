mod Content
mod Laid
