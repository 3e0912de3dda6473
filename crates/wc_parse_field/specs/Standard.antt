-- What the kept tokens of fields say, by the grammar's productions.
pub mod Productions
