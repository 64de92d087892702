-- Laws of the calls on a store.
pub mod PartLaws
pub mod StoreLaws
