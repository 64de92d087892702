-- What the checks of a copy say where they find no fault.
pub mod BlockLaws
pub mod SharingLaws
pub mod ReadableLaws
