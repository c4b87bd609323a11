mod Rows
mod Loads
mod Entering
