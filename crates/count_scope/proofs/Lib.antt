pub mod Rising
mod Trying
mod Leaving
mod Associating
mod Starting
mod Lasting
mod CallLists
