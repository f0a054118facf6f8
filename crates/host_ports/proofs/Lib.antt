mod Copies
mod Examples
mod FileStores
mod KnownBytes
