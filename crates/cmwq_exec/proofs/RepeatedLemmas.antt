-- What comes out the same, as it was found by its instruction and its reply; and that a machine which repeats something stays one.
use Rattle.std.proofs.Common.{◌≡◌, ℕ, Bool, true, false, ◌&&◌, Option, Some, None, refl, sym, subst}
use Rattle.cmwq_types.specs.Contents.{ScenarioContents}
use Rattle.cmwq_types.specs.declared.instr.Instr.{Instr}
use Rattle.cmwq_types.specs.declared.reply.Reply.{Reply}
use Rattle.cmwq_types.specs.declared.reply.Reply.TheVariants.{Done}
use Rattle.cmwq_table.specs.Ready.{IsKept, Loaded}
use Rattle.cmwq_table.specs.Repeats.{HasAnswered, HasRepeated, after_times}
use Rattle.cmwq_table.specs.State.{State}
use Rattle.cmwq_table.specs.Table.{is_met, operands}
use Rattle.std.specs.Prelude.{is_none, replicate}
use Rattle.cmwq_table.proofs.CounterLemmas.{all-counters}
use Rattle.cmwq_table.proofs.RepeatLemmas.{met_repeats}

-- the same of an instruction and a reply that are equal to these
pub repeated-as : (S : ScenarioContents) (s after : State) (i j : Instr) (r q : Reply) (most count : ℕ) → i ≡ j → r ≡ q → HasAnswered S s i r
    → (HasAnswered S s j q → HasRepeated S s j q most count after) → HasRepeated S s i r most count after
repeated-as S s after i j r q most count instr reply answered repeats =
    subst (λ (x : Instr). HasRepeated S s x r most count after) (sym instr) (
    subst (λ (x : Reply). HasRepeated S s j x most count after) (sym reply)
    (repeats (subst (λ (x : Reply). HasAnswered S s j x) reply (subst (λ (x : Instr). HasAnswered S s x r) instr answered))))

none-if : {A : Type 0} (o : Option A) → is_none o ≡ true → o ≡ None
none-if (Some x) e = cc
none-if None e = refl

both : (a b : Bool) → (a && b) ≡ true → (a ≡ true) × (b ≡ true)
both true b e = (refl, e)
both false b e = cc

-- what has come is answered as done
pub met-again : (S : ScenarioContents) (s : State) (i : Instr) (r : Reply) (most : ℕ) → (is_met S s i && is_none (operands S s i)) ≡ true → r ≡ Done
    → HasRepeated S s i r most most s
met-again S s i r most come done =
    let parts = both (is_met S s i) (is_none (operands S s i)) come in
    subst (λ (x : Reply). HasRepeated S s i x most most s) (sym done) (met_repeats S s i most (none-if (operands S s i) parts.1) parts.0)

pub kept-times : (old new : Loaded) (i : Instr) (count : ℕ) → IsKept old → new.scenario ≡ old.scenario
    → new.state ≡ after_times old.scenario old.state i count → IsKept new
kept-times old new i count kept same is = record {
  setting = rw same kept.setting;
  counters = rw (same, is) (all-counters old.scenario old.state (replicate count i) kept.setting kept.counters);
}
