mod Printing
mod Running
