pub mod OpenRooms
