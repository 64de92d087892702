-- Laws of what is asked before a fault is looked for, and of BIT_BLT_M's faults.
pub mod CheckingLaws
pub mod CopyLaws
