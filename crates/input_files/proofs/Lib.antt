pub mod Staging
