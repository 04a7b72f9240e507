mod Basics
mod BothMoments
