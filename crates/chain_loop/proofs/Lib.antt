mod Looping
mod WholeTables
