mod Division
mod Slices
