mod Checks
mod Alone
