-- What a line of a script says (01, "The script program").
pub mod Lines
