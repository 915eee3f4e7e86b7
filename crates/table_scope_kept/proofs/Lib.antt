pub mod ScopeRuns
pub mod ScopeKinds
pub mod ScopeAllowed
pub mod EnterRuns
pub mod ScopeLeft
