mod Answering
mod MadeEntries
