mod Basics
mod Lines
mod Replays
