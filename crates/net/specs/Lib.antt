-- The net of a field, lent.
pub mod Table
pub mod Fill
