pub mod RespacedLaws
