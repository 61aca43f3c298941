pub mod RecordLaws
pub mod SpanLaws
pub mod Demand2
pub mod Statuses
pub mod NotFinite
