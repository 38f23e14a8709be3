-- What a caller cites: bytes that go out one part after another.
pub use Rattle.cmwq_streams.proofs.SendingLemmas.{appends_both, appends_none, block_out, front_more, front_of_block, front_of_more, front_then, sends_all, sends_then}
