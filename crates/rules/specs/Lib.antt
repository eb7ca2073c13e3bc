-- Document 01 as definitions that compute: what a reader must believe. Each stands under the sentence that it states, in quotes.
-- They know nothing of code: no slices, no workspace, no loops but counting ones.
pub mod Base
pub mod Field
pub mod Net
pub mod Refusals
pub mod Distance
pub mod Rows
pub mod Growth
pub mod Contour
pub mod Records
pub mod Filter
pub mod Merge
pub mod Numbering
pub mod Outcomes
pub mod File
pub mod Listing
pub mod Open
pub mod Mend
pub mod Refresh
pub mod Reasons
pub mod Plain
pub mod Load
pub mod Stored
pub mod Sizes
