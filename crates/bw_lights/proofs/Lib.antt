pub mod OneLights
pub mod Parted
pub mod Printed
pub mod SomeLights
