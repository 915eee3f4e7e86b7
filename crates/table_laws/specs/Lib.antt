pub mod Listed
pub mod Laws
pub mod Bounds
pub mod Lasting
pub mod CallLists
pub mod Noted
