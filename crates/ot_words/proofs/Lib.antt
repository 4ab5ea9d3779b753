mod Options
mod Parts
mod Requested
mod Shapes
