pub mod Bool
pub mod Lists
pub mod Options
pub mod Totals
