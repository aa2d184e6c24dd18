pub mod TreeClasses
pub mod Related
pub mod Agreement
