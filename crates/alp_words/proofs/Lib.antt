mod Matches
mod Refusals
mod TopLevel
mod Numbers
mod Options
mod Taken
mod Named
