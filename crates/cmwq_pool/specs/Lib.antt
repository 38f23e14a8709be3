pub mod PoolContents
