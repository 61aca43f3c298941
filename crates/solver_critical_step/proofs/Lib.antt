pub mod CriticalLaw
pub mod SpinodalsLaw
pub mod Ranges
pub mod StoredBack
