pub mod Pages
mod Figures
mod Letters
mod Lines
mod Meanings
