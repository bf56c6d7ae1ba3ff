pub mod Crc32c
