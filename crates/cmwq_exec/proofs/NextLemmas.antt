-- One `next`: what it comes to while a step is left, and where none is.
use Rattle.std.proofs.Common.{◌≡◌, ℕ, ◌+◌, ◌<◌, ◌≤◌, arith, refl, sym, ap, ◌∙◌, subst}
use Rattle.std.proofs.lemmas.Bool.{le-ltb, lt-ltb}
use Rattle.cmwq_types.specs.declared.instr.Instr.TheVariants.{Next}
use Rattle.cmwq_types.specs.declared.reply.Refusal.TheVariants.{Spent}
use Rattle.cmwq_types.specs.declared.reply.Reply.{Reply}
use Rattle.cmwq_types.specs.declared.reply.Reply.TheVariants.{Refused}
use Rattle.cmwq_table.specs.Counts.{first_due}
use Rattle.cmwq_table.specs.Ready.{Loaded, holding}
use Rattle.cmwq_table.specs.State.{State}
use Rattle.cmwq_table.specs.Table.{next, table}
use Rattle.cmwq_table.proofs.RepeatLemmas.{with_spent}
use Rattle.cmwq_exec.specs.Advances.{HasAdvanced}

-- what `next` does to a machine and answers, before it is counted as spent
abbrev nexted : Loaded → State × Reply
nexted m = next m.scenario m.state (first_due m.scenario m.state)

abbrev spent_once : Loaded → Loaded
spent_once m = holding m.scenario (with_spent m.state (m.state.spent + 1))

-- while a step is left, it is carried out and spent
next-spends : (m : Loaded) → m.state.spent < m.scenario.steps
    → ((spent_once (holding m.scenario (nexted m).0)).state, (nexted m).1) ≡ table m.scenario m.state Next
unfolding table
next-spends m left = rw (lt-ltb m.state.spent m.scenario.steps left) refl

-- where none is left, it is refused
next-refused : (m : Loaded) → m.scenario.steps ≤ m.state.spent → (m.state, Refused Spent) ≡ table m.scenario m.state Next
unfolding table
next-refused m spent = rw (le-ltb m.state.spent m.scenario.steps spent) refl

advanced-once : (old : Loaded) (most : ℕ) (after : State) (reply : Reply) → 0 < most → (after, reply) ≡ table old.scenario old.state Next
    → HasAdvanced old most 1 (holding old.scenario after) reply
advanced-once old most after reply some told = record {
  some = (omega arith);
  few = (omega arith);
  state = ap (λ (p : State × Reply). holding old.scenario p.0) told;
  last = ap (λ (p : State × Reply). p.1) told;
  silent = λ earlier below. absurd (omega (arith, below));
}

-- who carries out one `next` and counts it as spent has advanced by it
pub next-advances : (old moved new : Loaded) (most : ℕ) (reply : Reply) → 0 < most → old.state.spent + most ≤ old.scenario.steps
    → moved ≡ holding old.scenario (nexted old).0 → reply ≡ (nexted old).1 → new ≡ spent_once moved
    → HasAdvanced old most 1 new reply
next-advances old moved new most reply some left does tells spends =
    subst (λ (m : Loaded). HasAdvanced old most 1 m reply) (sym (spends ∙ ap spent_once does))
    (subst (λ (r : Reply). HasAdvanced old most 1 (spent_once (holding old.scenario (nexted old).0)) r) (sym tells)
    (advanced-once old most (spent_once (holding old.scenario (nexted old).0)).state (nexted old).1 some (next-spends old (omega (arith, left, some)))))

-- and who has no step left, by being refused
pub refused-advances : (old : Loaded) (most : ℕ) → 0 < most → old.scenario.steps ≤ old.state.spent → HasAdvanced old most 1 old (Refused Spent)
refused-advances old most some spent = advanced-once old most old.state (Refused Spent) some (next-refused old spent)

-- who has advanced at most so often has at most more often
pub advanced-within : (old new : Loaded) (less most count : ℕ) (reply : Reply) → less ≤ most → HasAdvanced old less count new reply
    → HasAdvanced old most count new reply
advanced-within old new less most count reply within advanced =
    let few = advanced.few in
    record {
      some = advanced.some;
      few = (omega (arith, few, within));
      state = advanced.state;
      last = advanced.last;
      silent = advanced.silent;
    }
