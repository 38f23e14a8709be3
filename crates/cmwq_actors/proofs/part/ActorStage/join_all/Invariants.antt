use Rattle.std.proofs.Common.{◌≡◌, ℕ, ◌+◌, ◌-◌, ◌<◌, ◌≤◌, [], Some, length, slice_index_or, vec_capacity, vec_len}
use Rattle.std.specs.Vec.Iter.{into_iter_items, into_iter_len}
use Rattle.cmwq_types.specs.Scenario.{expand_lines}
use Rattle.cmwq_lock.specs.Tokens.{opener_view}
use Rattle.cmwq_lock.specs.Views.{out_of, records_of}
use Rattle.cmwq_engine.specs.Shared.{IsOpenerOf, setting_of}
use Rattle.cmwq_actors.specs.Playing.{HasPlayed}
use Rattle.cmwq_actors.proofs.part.ActorStage.join_all.Given as goal

abbrev pub invariant-loop-thread : goal.invariant-loop-thread
invariant-loop-thread g l =
    let left = into_iter_len l.thread-iterator in
    let all = l.fn.threads in
    let records = records_of (opener_view l.opener) in record {
      can_next : (goal.iterator-loop-thread g).can_next l.thread-iterator;
      is_finite : (goal.iterator-loop-thread g).is_finite l.thread-iterator;
      token : IsOpenerOf l.self.shared l.opener;
      out : out_of (opener_view l.opener) ≡ left;
      within : left ≤ vec_len all;
      rest : (i : ℕ) (t : _) → i < left
          → slice_index_or (into_iter_items l.thread-iterator) i t ≡ slice_index_or all.items ((vec_len all - left) + i) t;
      few : vec_len l.endings + left ≤ vec_len all;
      room : vec_capacity l.endings ≡ vec_capacity l.fn.endings;
      counted : records_of (opener_view l.fn.opener) ≡ [] → length records + left ≡ vec_len all;
      played : records_of (opener_view l.fn.opener) ≡ [] → vec_len l.endings + left ≡ vec_len all
          → (i : ℕ) (t : _) (e : _) (k : _) → i < vec_len l.endings
          → HasPlayed (g.G.Gate.has_passed l.self.gate.now) (setting_of l.self.shared).capacity i (expand_lines (slice_index_or all.items i t).promise.lines.value.items)
          (Some (slice_index_or l.endings.items i e)) (slice_index_or records i k);
    }
