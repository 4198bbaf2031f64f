pub mod NormalFiles
