-- What the draft of a field holds: what one more kept token adds to it, and which field it is at its end.
pub mod Fields
pub mod Finished
pub mod Following
pub mod Wholes
