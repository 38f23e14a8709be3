use Rattle.std.proofs.Common.{◌≡◌, ℕ, arith, refl, below_more, below_none, replicate}
use Rattle.cmwq_types.specs.declared.reply.Reply.TheVariants.{Already}
use Rattle.cmwq_table.specs.Repeats.{after_times, reply_behind}
use Rattle.cmwq_table.specs.State.{State}
use Rattle.cmwq_table.specs.Table.{run, table}
use Rattle.cmwq_table_laws.specs.Examples.{each_kind, queue_on_1}
use Rattle.cmwq_table_laws.proofs.examples.what_is_pending_stays_so.Goals as goal

pub returns-clause-again : goal.returns-clause-again
unfolding table
returns-clause-again c =
    let s : State = run each_kind (replicate 2 (queue_on_1 1)) in
    let still : ℕ → Type 0 = λ k. (after_times each_kind s (queue_on_1 1) k).time ≡ s.time in
    let told : ℕ → Type 0 = λ k. reply_behind each_kind s (queue_on_1 1) k ≡ Already in
    record {
      few = (omega arith);
      state = refl;
      time = λ times within. below_more still 3 (below_more still 2 (below_more still 1 (below_more still 0 (below_none still) refl) refl) refl) refl times (omega arith);
      replies = λ earlier below. below_more told 2 (below_more told 1 (below_more told 0 (below_none told) refl) refl) refl earlier below;
    }
