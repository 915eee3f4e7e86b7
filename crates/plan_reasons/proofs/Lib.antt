mod Counted
mod Joined
mod Keys
mod Chosen
