pub mod ShortErrors
pub mod InPlace
pub mod Operands
pub mod Together
pub mod Arms
pub mod LetArms
pub mod AllArms
pub mod Root
