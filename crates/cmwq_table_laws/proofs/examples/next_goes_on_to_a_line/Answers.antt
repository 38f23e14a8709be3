use Rattle.std.proofs.Common.{◌≡◌, ℕ, [], true, arith, refl, below_more, below_none}
use Rattle.cmwq_types.specs.declared.instr.Instr.TheVariants.{Next}
use Rattle.cmwq_table.specs.Events.{is_silent}
use Rattle.cmwq_table.specs.Repeats.{reply_behind}
use Rattle.cmwq_table.specs.Table.{run, table}
use Rattle.cmwq_table_laws.specs.Examples.{a_burns, each_kind}
use Rattle.cmwq_table_laws.proofs.examples.next_goes_on_to_a_line.Goals as goal

pub returns-clause-gone : goal.returns-clause-gone
unfolding table
returns-clause-gone c =
    let silent : ℕ → Type 0 = λ k. is_silent (reply_behind each_kind (run each_kind a_burns) Next k) ≡ true in
    record {
      some = (omega arith);
      few = (omega arith);
      state = refl;
      last = refl;
      silent = λ earlier below. below_more silent 1 (below_more silent 0 (below_none silent) refl) refl earlier (omega arith);
      whole = λ quiet. absurd cc;
    }

pub returns-clause-whole : goal.returns-clause-whole
unfolding table
returns-clause-whole c =
    let silent : ℕ → Type 0 = λ k. is_silent (reply_behind each_kind (run each_kind []) Next k) ≡ true in
    record {
      some = (omega arith);
      few = (omega arith);
      state = refl;
      last = refl;
      silent = λ earlier below. below_more silent 0 (below_none silent) refl earlier (omega arith);
      whole = λ quiet. refl;
    }
