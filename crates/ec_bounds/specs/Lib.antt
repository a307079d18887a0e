pub mod Examples
pub mod IsMeanTick
pub mod Laws
pub mod Left
pub mod RoomLaws
pub mod Shown
