mod Parsed
mod Searched
mod Stepped
