-- What goes on until something has come.
use Rattle.std.proofs.Common.{◌≡◌, ℕ, zero, suc, ◌<◌, Bool, true, false, ◌||◌, List, [], ◌∷◌, length, Option, Some, None, arith, refl, sym, ap, ◌∙◌}
use Rattle.std.proofs.lemmas.Bool.{lt-ltb}
use Rattle.std.specs.Prelude.{nat_lt, slice_index_or}
use Rattle.cmwq_types.specs.Contents.{ScenarioContents}
use Rattle.cmwq_types.specs.declared.instr.Instr.{Instr}
use Rattle.cmwq_types.specs.declared.instr.Instr.TheVariants as instr
use Rattle.cmwq_types.specs.declared.reply.Refusal.{Refusal}
use Rattle.cmwq_types.specs.declared.reply.Refusal.TheVariants.{Spent}
use Rattle.cmwq_types.specs.declared.reply.Reply.{Reply}
use Rattle.cmwq_types.specs.declared.reply.Reply.TheVariants as reply
use Rattle.cmwq_table.specs.declared.state.FlushTarget.{FlushTarget}
use Rattle.cmwq_table.specs.declared.state.FlushTarget.TheVariants.{Nothing}
use Rattle.cmwq_table.specs.Counts.{is_done, or_else}
use Rattle.cmwq_table.specs.Laws.{AtEveryInstruction, ChangesNothingMet, GoesOnAsNext, IsDoneMet, goes_on}
use Rattle.cmwq_table.specs.State.{State}
use Rattle.cmwq_table.specs.Table.{answer, effect, is_free, is_met, is_question, next_unless, operands, refusal, refuse_unless, run, situation, spending, table}
use Rattle.cmwq_table.proofs.LawLemmas.Refusals.{free-same}

-- The line of an instruction, once it is known whether it is free.

abbrev judged : State → Option Refusal → Bool → State × Reply → State × Reply
judged s (Some why) free after = (s, reply.Refused why)
judged s None free after = spending free after

answer-judged : (S : ScenarioContents) (s : State) (i : Instr) (o : Option Refusal) (after : State × Reply) → answer S s i o after ≡ judged s o (is_free S s i) after
answer-judged S s i (Some why) after = refl
answer-judged S s i None after = refl

abbrev line : ScenarioContents → State → Option Refusal → Option Refusal → Bool → State × Reply → State × Reply
line S s operands situation free after = judged s (or_else operands (or_else (refuse_unless (free || nat_lt s.spent S.steps) Spent) situation)) free after

table-line : (S : ScenarioContents) (s : State) (i : Instr) (free : Bool) (after : State × Reply) → operands S s i ≡ None → situation S s i ≡ None
    → is_free S s i ≡ free → effect S s i ≡ after → table S s i ≡ line S s None None free after
unfolding table
table-line S s i free after there fits is does =
    answer-judged S s i (refusal S s i) (effect S s i) ∙ (λ j. line S s (there j) (fits j) (is j) (does j))

-- Met.

-- what has what it goes on for does nothing, and is Done
pub table-met : (S : ScenarioContents) (s : State) (i : Instr) → operands S s i ≡ None → is_met S s i ≡ true → table S s i ≡ (s, reply.Done)
table-met S s i there met = done i there met ∙ ap (λ (spent : ℕ). (record s { spent = spent }, reply.Done)) (omega arith) where
  done : (i : Instr) → operands S s i ≡ None → is_met S s i ≡ true → table S s i ≡ line S s None None true (s, reply.Done)
  done (instr.Until time) there met = table-line S s (instr.Until time) true (s, reply.Done) there refl met (ap (next_unless S s) met)
  done (instr.Wait flush) there met = table-line S s (instr.Wait flush) true (s, reply.Done) there refl met (ap (next_unless S s) met)
  done instr.Quiet there met = table-line S s instr.Quiet true (s, reply.Done) there refl met (ap (next_unless S s) met)
  done i there met = cc

-- Unmet.

declared : (S : ScenarioContents) (s : State) (flushes : List FlushTarget) (flush : ℕ) → is_done S s (slice_index_or flushes flush Nothing) ≡ false
    → flush < length flushes
declared S s [] flush waits = cc
declared S s (f ∷ flushes) zero waits = omega arith
declared S s (f ∷ flushes) (suc flush) waits = let below = declared S s flushes flush waits in omega (arith, below)

-- a flush that isn't done was given
given : (S : ScenarioContents) (s : State) (flush : ℕ) → is_met S s (instr.Wait flush) ≡ false → operands S s (instr.Wait flush) ≡ None
given S s flush unmet = rw (lt-ltb flush (length s.flushes) (declared S s s.flushes flush unmet)) refl

-- what doesn't have it does and answers as Next
pub table-unmet : (S : ScenarioContents) (s : State) (i : Instr) → goes_on i ≡ true → is_met S s i ≡ false → table S s i ≡ table S s instr.Next
table-unmet S s i goes unmet = as_next i goes unmet ∙ sym (table-line S s instr.Next false (effect S s instr.Next) refl refl refl refl) where
  as_next : (i : Instr) → goes_on i ≡ true → is_met S s i ≡ false → table S s i ≡ line S s None None false (effect S s instr.Next)
  as_next (instr.Until time) goes unmet = table-line S s (instr.Until time) false (effect S s instr.Next) refl refl unmet (ap (next_unless S s) unmet)
  as_next (instr.Wait flush) goes unmet = table-line S s (instr.Wait flush) false (effect S s instr.Next) (given S s flush unmet) refl unmet (ap (next_unless S s) unmet)
  as_next instr.Quiet goes unmet = table-line S s instr.Quiet false (effect S s instr.Next) refl refl unmet (ap (next_unless S s) unmet)
  as_next i goes unmet = cc

-- The laws.

second-true : (a b : Bool) → b ≡ true → (a || b) ≡ true
second-true true b e = refl
second-true false b e = e

pub changes_nothing_met : AtEveryInstruction ChangesNothingMet
unfolding ChangesNothingMet table
changes_nothing_met S valid instrs i met =
    let s = run S instrs in
    free-same S s i (second-true (is_question i) (is_met S s i) met) (refusal S s i)

pub is_done_met : AtEveryInstruction IsDoneMet
unfolding IsDoneMet
is_done_met S valid instrs i there met = ap (λ (after : State × Reply). after.1) (table-met S (run S instrs) i there met)

pub goes_on_as_next : AtEveryInstruction GoesOnAsNext
unfolding GoesOnAsNext
goes_on_as_next S valid instrs i goes unmet = table-unmet S (run S instrs) i goes unmet
