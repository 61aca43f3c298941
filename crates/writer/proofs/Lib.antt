pub mod PackedLaws
pub mod PutLaws
pub mod WriterLaws
pub mod Cases
