mod Ranks
mod Shuffles
mod Round
mod Writing
mod Entering
mod Pixels
