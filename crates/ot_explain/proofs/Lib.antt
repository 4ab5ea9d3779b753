mod Clients
mod Sentences
mod LineByLine
mod Progress
mod Sizes
mod Texts
mod Joins
