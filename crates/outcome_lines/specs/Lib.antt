pub mod Line
pub mod OneToOne
pub mod Pieces
pub mod Summary
