-- What the judge relies on once a call is admitted.
pub mod FreshLaws
