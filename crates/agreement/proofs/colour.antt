-- Colour: from a landmark on two charts have the same hit patterns, intervals, values and means.
pub mod HitsAgree
pub mod LandmarkLaws
pub mod Claimed
pub mod Calls
pub mod RiseLaws
mod PartLaws
mod LevelLaws
mod AgreementLaws
mod ValueAgree
mod StretchAgree
mod LessonAgree
mod Examples
mod FalseReadings
