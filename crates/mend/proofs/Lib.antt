-- The code's walk is the rule (Walked), what mending gives (Mended), and the entry's ends are its outcome (Ends), of which there is one (OneAnswer).
pub mod Before
pub mod StepLaws
pub mod WalkLaws
pub mod Keeping
pub mod Walked
pub mod Mended
pub mod Ends
pub mod OneAnswer
pub mod Calls
