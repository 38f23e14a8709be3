mod AcceptingLemmas
mod BodyLemmas
mod DepthLemmas
mod LeavingLemmas
mod LengthLemmas
mod PoolLemmas
mod RepeatingLemmas
mod Stepping
