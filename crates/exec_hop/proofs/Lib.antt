mod Places
mod Landed
mod Taken
mod Stepped
mod Did
