-- From the judge's walk to one step, to one run, and to whole lists of calls; and an example.
pub mod StepLaws
pub mod AheadLaws
pub mod DueLaws
pub mod DoneLaws
pub mod BetweenLaws
pub mod ReplyLaws
pub mod Theorem
pub mod Example
