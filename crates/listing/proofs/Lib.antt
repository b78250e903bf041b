mod Columns
mod Standing
