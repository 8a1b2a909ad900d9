pub mod Ends
pub mod OneRun
pub mod Assembled
pub mod OneClient
pub mod LegalTexts
