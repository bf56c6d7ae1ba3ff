pub mod CapabilitiesLemmas
pub mod CookieLemmas
mod CookieRows
