pub mod Ring
pub mod Around
pub mod RingLaws
pub mod Put
pub mod Ways
