use Rattle.std.proofs.Common.{◌≡◌, ℕ, ◌+◌, ◌<◌, ◌≤◌, arith, sym, ap, ◌∙◌, subst}
use Rattle.cmwq_types.specs.declared.reply.Reply.TheVariants.{Done}
use Rattle.cmwq_types.specs.declared.instr.Instr.TheVariants.{Next}
use Rattle.cmwq_table.specs.Ready.{Loaded, holding}
use Rattle.cmwq_table.proofs.CounterLemmas.{effect-spent}
use Rattle.cmwq_table.proofs.RepeatLemmas.{with_spent}
use Rattle.cmwq_parts.specs.SettledTicks.{AreSettled, ticks}
use Rattle.cmwq_exec.specs.Advances.{HasAdvanced}
use Rattle.cmwq_exec.specs.Answered.{event_reply}
use Rattle.cmwq_exec.proofs.NextLemmas.{next-advances}
use Rattle.cmwq_exec.proofs.SettledLemmas.{passes, ticks-spent}
use Rattle.cmwq_exec.proofs.repeating.advance.Goals as goal

pub spend-requires : goal.spend-requires
spend-requires g c =
    let old = c.args.going.now in
    let moved = c.happen.new.going in
    let spent : moved.state.spent ≡ old.state.spent = ap (λ (m : Loaded). m.state.spent) c.in-Some.ensures.state ∙ effect-spent old.scenario old.state Next c.requires.kept.setting in
    let steps : moved.scenario.steps ≡ old.scenario.steps = ap (λ (m : Loaded). m.scenario.steps) c.in-Some.ensures.state in
    omega (arith, spent, steps, c.requires.left, c.requires.some)

pub returns-in-Some-clause-advanced : goal.returns-in-Some-clause-advanced
returns-in-Some-clause-advanced g c =
    next-advances c.args.going.now c.happen.new.going c.spend.new.going c.args.most (event_reply c.in-Some.happened) c.requires.some c.requires.left c.in-Some.ensures.state c.in-Some.ensures.happened c.spend.ensures

pub returns-in-Some-clause-spent : goal.returns-in-Some-clause-spent
returns-in-Some-clause-spent g c =
    let old = c.args.going.now in
    ap (λ (m : Loaded). m.state.spent) c.spend.ensures
    ∙ ap (λ (m : Loaded). m.state.spent + 1) c.in-Some.ensures.state
    ∙ ap (λ (k : ℕ). k + 1) (effect-spent old.scenario old.state Next c.requires.kept.setting)

-- what passes ticks has spent nothing by them
spent-then : (old passed : Loaded) (count : ℕ) → passed ≡ holding old.scenario (ticks old.scenario old.state count) → passed.state.spent ≡ old.state.spent
spent-then old passed count is = ap (λ (m : Loaded). m.state.spent) is ∙ ticks-spent old.scenario count old.state

-- and where that is spent then, it has advanced by them
passed-advances : (old passed new : Loaded) (most count : ℕ) → 0 < count → count ≤ most → AreSettled old.scenario old.state count → old.state.spent + most ≤ old.scenario.steps
    → passed ≡ holding old.scenario (ticks old.scenario old.state count) → new ≡ holding passed.scenario (with_spent passed.state (passed.state.spent + count)) → HasAdvanced old most count new Done
passed-advances old passed new most count some few settled left is spends =
    let S = old.scenario in
    let s = old.state in
    let after : new ≡ holding S (with_spent (ticks S s count) (s.spent + count)) =
    spends
    ∙ ap (λ (m : Loaded). holding m.scenario (with_spent m.state (m.state.spent + count))) is
    ∙ ap (λ (k : ℕ). holding S (with_spent (ticks S s count) (k + count))) (ticks-spent S count s)
    in
    subst (λ (m : Loaded). HasAdvanced old most count m Done) (sym after) (passes old most count some few settled (omega (arith, left, few)))

pub spend-requires-in-None : goal.spend-requires-in-None
spend-requires-in-None g c =
    let old = c.args.going.now in
    let now = holding (g.P.Reads.loaded c.pass-passed.new.self) (g.P.Reads.state c.pass-passed.new.self) in
    let was = holding (g.P.Reads.loaded c.going.inside.parts) (g.P.Reads.state c.going.inside.parts) in
    let same : was ≡ old = c.going.view_is ∙ c.in-None.ensures.same in
    let passed : now ≡ holding was.scenario (ticks was.scenario was.state c.pass-passed.result) = c.pass-passed.ensures.passed in
    let spent : now.state.spent ≡ was.state.spent = spent-then was now c.pass-passed.result passed in
    let steps : now.scenario.steps ≡ was.scenario.steps = ap (λ (m : Loaded). m.scenario.steps) passed in
    let left : was.state.spent + c.args.most ≤ was.scenario.steps = subst (λ (m : Loaded). m.state.spent + c.args.most ≤ m.scenario.steps) (sym same) c.requires.left in
    omega (arith, spent, steps, left, c.pass-passed.ensures.few)

pub returns-in-None-clause-advanced : goal.returns-in-None-clause-advanced
returns-in-None-clause-advanced g c =
    let old = c.args.going.now in
    let now = holding (g.P.Reads.loaded c.pass-passed.new.self) (g.P.Reads.state c.pass-passed.new.self) in
    let was = holding (g.P.Reads.loaded c.going.inside.parts) (g.P.Reads.state c.going.inside.parts) in
    let same : was ≡ old = c.going.view_is ∙ c.in-None.ensures.same in
    let left : was.state.spent + c.args.most ≤ was.scenario.steps = subst (λ (m : Loaded). m.state.spent + c.args.most ≤ m.scenario.steps) (sym same) c.requires.left in
    subst (λ (m : Loaded). HasAdvanced m c.args.most c.pass-passed.result c.spend-in-None.new.going Done) same
    (passed-advances was now c.spend-in-None.new.going c.args.most c.pass-passed.result c.pass-passed.ensures.some c.pass-passed.ensures.few c.pass-passed.ensures.settled left c.pass-passed.ensures.passed c.spend-in-None.ensures)

pub returns-in-None-clause-spent : goal.returns-in-None-clause-spent
returns-in-None-clause-spent g c =
    let old = c.args.going.now in
    let now = holding (g.P.Reads.loaded c.pass-passed.new.self) (g.P.Reads.state c.pass-passed.new.self) in
    let was = holding (g.P.Reads.loaded c.going.inside.parts) (g.P.Reads.state c.going.inside.parts) in
    let same : was ≡ old = c.going.view_is ∙ c.in-None.ensures.same in
    ap (λ (m : Loaded). m.state.spent) c.spend-in-None.ensures
    ∙ ap (λ (k : ℕ). k + c.pass-passed.result) (spent-then was now c.pass-passed.result c.pass-passed.ensures.passed)
    ∙ ap (λ (m : Loaded). m.state.spent + c.pass-passed.result) same
