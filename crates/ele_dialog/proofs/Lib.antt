mod Basics
-- the first byte of a kind
mod Lines
mod Headed
-- dates behind lines
mod Dated
mod Helped
-- bytes, line after line
mod Read
mod Reasons
mod Next
-- what was typed and answered so far
mod Typed
