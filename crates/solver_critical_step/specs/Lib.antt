pub mod CriticalStep
pub mod SpinodalsStep
pub mod Stored
