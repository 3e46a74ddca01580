pub mod Before
pub mod Copy
pub mod Laws
pub mod MemHost
pub mod Outside
pub mod RealHost
pub mod Rooms
pub mod Table
