pub mod Text
pub mod Names
pub mod View
pub mod Grammar
