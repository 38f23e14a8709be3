use Rattle.std.proofs.Common.{◌≡◌, ℕ, ◌<◌, [], slice_index_or, vec_capacity, vec_len}
use Rattle.cmwq_lock.specs.Tokens.{opener_view}
use Rattle.cmwq_lock.specs.Views.{next_of, out_of, records_of}
use Rattle.cmwq_engine.specs.Shared.{IsOpenerOf}
use Rattle.cmwq_actors.proofs.part.ActorStage.start.Given as goal

abbrev pub invariant-loop-number : goal.invariant-loop-number
invariant-loop-number g l = record {
  token : IsOpenerOf l.self.shared l.opener;
  next : next_of (opener_view l.opener) ≡ l.number;
  out : out_of (opener_view l.opener) ≡ l.number;
  none_retired : records_of (opener_view l.opener) ≡ [];
  started : vec_len l.threads ≡ l.number;
  room : vec_capacity l.threads ≡ vec_capacity l.fn.threads;
  parts : (i : ℕ) (t : _) (a : _) → i < l.number
      → ((slice_index_or l.threads.items i t).promise.gate.value ≡ l.self.gate.now)
      × ((slice_index_or l.threads.items i t).promise.shared.value ≡ l.self.shared)
      × ((slice_index_or l.threads.items i t).promise.actor ≡ i)
      × ((slice_index_or l.threads.items i t).promise.lines.value.items ≡ (slice_index_or l.actors i a).lines);
}
