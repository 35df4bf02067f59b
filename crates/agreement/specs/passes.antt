-- What only the proofs and the computed examples need: the landmarks as tests, and what is carried from a landmark on.
pub mod Tests
pub mod LandmarkTest
pub mod RhythmLandmarkTest
pub mod Agreement
