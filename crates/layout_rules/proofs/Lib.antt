pub mod Freshness
pub mod OneKind
