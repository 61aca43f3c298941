pub mod TextLaws
pub mod SayLaws
