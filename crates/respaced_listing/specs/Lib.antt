pub mod RespacedListing
