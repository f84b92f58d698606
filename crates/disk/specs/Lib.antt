pub mod Steps
pub mod Ways
pub mod Meaning
pub mod StepLaws
pub mod SoundLaws
pub mod Grown
pub mod MeaningLaws
pub mod FileLaws
