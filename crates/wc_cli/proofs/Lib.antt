pub mod Endings
pub mod Looking
pub mod Outgoing
pub mod Told
pub mod Turning
pub mod ErrorKinds
