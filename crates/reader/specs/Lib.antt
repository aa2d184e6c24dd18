pub mod Machinery
