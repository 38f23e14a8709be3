-- How the time goes on at an instruction: by a tick, or not.
use Rattle.std.proofs.Common.{◌≡◌, ◌+◌, true, false, arith, inl, inr, ◌⊎◌}
use Rattle.std.proofs.lemmas.Bool.{le-ltb, lt-ltb}
use Rattle.cmwq_types.specs.Contents.{ScenarioContents}
use Rattle.cmwq_types.specs.declared.instr.Instr.{Instr}
use Rattle.cmwq_types.specs.declared.reply.Reply.{Reply}
use Rattle.cmwq_table.specs.Laws.{reply_to, state_after}
use Rattle.cmwq_table.specs.State.{State}
use Rattle.cmwq_burning.proofs.Happening.{Happens, table-does}
use Rattle.cmwq_ledger.specs.Ledger.{lets_pass}

-- a tick passes, or none does
abbrev pub Passes : State → State → Type 0
Passes s t = ((lets_pass s t ≡ false) × (t.time ≡ s.time)) ⊎ ((lets_pass s t ≡ true) × (t.time ≡ s.time + 1))

stands : (s t : State) → t.time ≡ s.time → Passes s t
stands s t e = inl (le-ltb s.time t.time (omega arith), e)

happens-passes : (S : ScenarioContents) (s t : State) (r : Reply) → Happens S s t.running t.time r → Passes s t
happens-passes S s t r (Happens.nothing same still silent) = stands s t still
happens-passes S s t r (Happens.passes settled ticked later silent) = inr (lt-ltb s.time t.time (omega arith), later)
happens-passes S s t r (Happens.moves w e q there set still told changes) = stands s t still

pub table-passes : (S : ScenarioContents) (s : State) (i : Instr) → Passes s (state_after S s i)
table-passes S s i = happens-passes S s (state_after S s i) (reply_to S s i) (table-does S s i)

-- what time it is, by whether a tick passes
pub stood : (s t : State) → Passes s t → lets_pass s t ≡ false → t.time ≡ s.time
stood s t (inl still) e = still.1
stood s t (inr passes) e = absurd (cc (passes.0, e))

pub went : (s t : State) → Passes s t → lets_pass s t ≡ true → t.time ≡ s.time + 1
went s t (inl still) e = absurd (cc (still.0, e))
went s t (inr passes) e = passes.1
