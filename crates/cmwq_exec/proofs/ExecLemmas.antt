-- What is accepted can be spent.
use Rattle.std.proofs.Common.{◌≡◌, ◌<◌, ◌||◌, Bool, true, false, Option, Some, None, arith, refl, sym, ap, ◌∙◌}
use Rattle.std.specs.Prelude.{nat_lt}
use Rattle.std.proofs.lemmas.Bool.{ltb-true}
use Rattle.cmwq_types.specs.Contents.{ScenarioContents}
use Rattle.cmwq_types.specs.Setting.{IsSetting}
use Rattle.cmwq_types.specs.declared.instr.Instr.{Instr}
use Rattle.cmwq_types.specs.declared.reply.Refusal.{Refusal}
use Rattle.cmwq_types.specs.declared.reply.Refusal.TheVariants.{Spent}
use Rattle.cmwq_types.specs.declared.reply.Reply.{Reply}
use Rattle.cmwq_table.specs.Counts.{or_else}
use Rattle.cmwq_table.specs.State.{State}
use Rattle.cmwq_table.specs.Table.{effect, is_free, operands, refuse_unless, situation, spent_all}
use Rattle.cmwq_table.proofs.CounterLemmas.{effect-spent}
use Rattle.cmwq_exec.specs.Performing.{performed, unless_refused}

unless_refused-spent : (s : State) (o : Option Refusal) (after : State × Reply) → after.0.spent ≡ s.spent → (unless_refused s o after).0.spent ≡ s.spent
unless_refused-spent s (Some why) after same = refl
unless_refused-spent s None after same = same

left-if : (b : Bool) → refuse_unless b Spent ≡ None → b ≡ true
left-if true none = refl
left-if false none = cc

step-left : (b : Bool) (s : State) (S : ScenarioContents) → b ≡ false → refuse_unless (b || nat_lt s.spent S.steps) Spent ≡ None → s.spent < S.steps
step-left true s S asks none = cc
step-left false s S asks none = ltb-true s.spent S.steps (left-if (nat_lt s.spent S.steps) none)

second-none : (a b : Option Refusal) → or_else a b ≡ None → b ≡ None
second-none (Some why) b none = cc
second-none None b none = none

-- what wasn't refused at once, by a test that told whether it is free
pub accepted : (S : ScenarioContents) (s : State) (i : Instr) (free : Bool) (r : Option Refusal) → free ≡ is_free S s i
    → r ≡ or_else (operands S s i) (refuse_unless (free || nat_lt s.spent S.steps) Spent) → r ≡ None → or_else (operands S s i) (spent_all S s i) ≡ None
accepted S s i free r is judged none =
    sym (ap (λ (b : Bool). or_else (operands S s i) (refuse_unless (b || nat_lt s.spent S.steps) Spent)) is) ∙ (sym judged ∙ none)

pub spend-left : (S : ScenarioContents) (s : State) (i : Instr) → IsSetting S → or_else (operands S s i) (spent_all S s i) ≡ None → is_free S s i ≡ false
    → (performed S s i).0.spent < S.steps
spend-left S s i setting none costs =
    let left : s.spent < S.steps = step-left (is_free S s i) s S costs (second-none (operands S s i) (spent_all S s i) none) in
    let same : (performed S s i).0.spent ≡ s.spent = unless_refused-spent s (situation S s i) (effect S s i) (effect-spent S s i setting) in
    omega (arith, left, same)
