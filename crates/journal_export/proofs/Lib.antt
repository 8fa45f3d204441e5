mod Starts
mod Endings
