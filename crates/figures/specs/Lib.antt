-- The starred figures of document 01 as one statement over one list of cases.
pub mod Figures
pub mod Refused
pub mod Printed
pub mod Mended
