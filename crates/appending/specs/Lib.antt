pub mod Room
pub mod RoomWays
pub mod Calls
pub mod CallWays
pub mod Laws
