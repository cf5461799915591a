pub mod ReuseLaws
pub mod RiceLaws
pub mod TbLaws
pub mod RunLaws
pub mod Worked
