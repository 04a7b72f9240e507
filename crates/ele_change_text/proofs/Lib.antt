mod Basics
mod Lines
