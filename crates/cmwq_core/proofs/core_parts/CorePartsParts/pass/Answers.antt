use Rattle.std.proofs.Common.{◌≡◌, ℕ, ◌<◌, ◌≤◌, ◌-◌, Bool, false, ◌||◌, IfSome, None, length, arith, refl, sym, ap, subst, ◌∙◌}
use Rattle.std.specs.Vec.{vec_capacity}
use Rattle.cmwq_types.specs.Contents.{ScenarioContents}
use Rattle.cmwq_parts.specs.PoolSets.{has_pool}
use Rattle.cmwq_parts.specs.SettledTicks.{IsSettled, ticks}
use Rattle.cmwq_parts.specs.declared.pool_set.PoolSet.{PoolSet}
use Rattle.cmwq_table.specs.Moves.{first_moving, next_move}
use Rattle.cmwq_table.specs.Ready.{Loaded, holding}
use Rattle.cmwq_table.specs.State.{State}
use Rattle.cmwq_idle.specs.Idle.{WorkersContents}
use Rattle.cmwq_queued.specs.QueuedContents.{QueuedContents, next_due}
use Rattle.cmwq_running.specs.RunningContents.{RunningContents}
use Rattle.cmwq_running.specs.Ticks.{MoveAlike}
use Rattle.cmwq_core.specs.Moving.{IsCovered, moving_state}
use Rattle.cmwq_core.specs.Staff.{runs_at}
use Rattle.cmwq_core.specs.contracts.core_parts.CoreParts.{the_view}
use Rattle.cmwq_core.proofs.CoverLemmas.{neither}
use Rattle.cmwq_core.proofs.LayoutLemmas.{laid_onward}
use Rattle.cmwq_core.proofs.TickLemmas.{none_due_then, ticks_long, ticks_stems}
use Rattle.cmwq_core.proofs.core_parts.CorePartsParts.pass.Goals as goal

-- pools that were noted, or in which something ended
covered_then : (q : QueuedContents) (r after : RunningContents) (k : WorkersContents) (pressed : Bool) (pools ended later : PoolSet) → IsCovered q r k pressed pools → ((pool : ℕ) → pool < 64 → has_pool later pool ≡ (has_pool pools pool || has_pool ended pool))
    → ((pool : ℕ) → pool < 64 → has_pool ended pool ≡ false → next_move q.scenario (moving_state q after k pressed) pool ≡ next_move q.scenario (moving_state q r k pressed) pool) → IsCovered q after k pressed later
covered_then q r after k pressed pools ended later is grown same pool small clear =
    let outside = neither (has_pool pools pool) (has_pool ended pool) (sym (grown pool small) ∙ clear) in
    same pool small outside.1 ∙ is pool small outside.0

pub returns-clause-settled : goal.returns-clause-settled
returns-clause-settled c earlier below =
    let inside = c.self.inside in
    let seen : Loaded = the_view inside in
    let due = subst (λ (m : Loaded). IfSome (next_due m.scenario m.state.pending) (λ due. c.until_due-until_due.result ≤ due - m.state.time)) (sym c.self.view_is) c.until_due-until_due.ensures.due in
    let alike = subst (λ (S : ScenarioContents). MoveAlike S seen.state (ticks S seen.state earlier)) c.self.invariant.laid.sized.same
    (c.pass-count.ensures.alike seen.state (record { time = refl; running = refl }) earlier below) in
    let still = subst (λ (m : Loaded). first_moving m.scenario m.state ≡ None) (sym c.self.view_is) c.requires.settled.1 in
    subst (λ (m : Loaded). IsSettled m.scenario (ticks m.scenario m.state earlier)) c.self.view_is (
      none_due_then seen.scenario seen.state earlier c.until_due-until_due.result due (omega (arith, below, c.pass-count.ensures.few)),
      alike.moving ∙ still,
    )

pub returns-clause-passed : goal.returns-clause-passed
returns-clause-passed c =
    let inside = c.self.inside in
    let seen : Loaded = the_view inside in
    ap (holding inside.queued.scenario) (sym (c.pass-count.ensures.passed seen.state (record { time = refl; running = refl })))
    ∙ ap (λ (S : ScenarioContents). holding inside.queued.scenario (ticks S seen.state c.pass-count.result.0)) c.self.invariant.laid.sized.same
    ∙ ap (λ (m : Loaded). holding m.scenario (ticks m.scenario m.state c.pass-count.result.0)) c.self.view_is

pub invariant_of-self : goal.invariant_of-self
invariant_of-self c =
    let inside = c.self.inside in
    let was = inside.running in
    let after = c.pass-count.new.self in
    let now = moving_state inside.queued was inside.workers inside.pressed in
    let count = c.pass-count.result.0 in
    let ended = c.pass-count.result.1 in
    let passed = c.pass-count.ensures.passed now (record { time = refl; running = refl }) in
    let elsewhere = subst (λ (S : ScenarioContents). (pool : ℕ) → pool < 64 → has_pool ended pool ≡ false → next_move S (moving_state inside.queued after inside.workers inside.pressed) pool ≡ next_move S now pool) c.self.invariant.laid.sized.same
    (subst (λ (t : State). (pool : ℕ) → pool < 64 → has_pool ended pool ≡ false → next_move was.scenario t pool ≡ next_move was.scenario now pool) passed (c.pass-count.ensures.elsewhere now (record { time = refl; running = refl }))) in
    record {
      laid = laid_onward inside.queued was after inside.workers inside.next inside.max.items inside.depth.items (vec_capacity inside.flushes) c.self.invariant.laid c.pass-count.ensures.scenario
          (ap (λ (s : State). length s.running) (sym passed) ∙ ticks_long was.scenario now count) (λ w q e. ticks_stems was.scenario now count w q (ap (λ (s : State). runs_at s.running w) passed ∙ e));
      covered = covered_then inside.queued was after inside.workers inside.pressed inside.moving ended c.union-self-inside.result c.self.invariant.covered c.union-self-inside.ensures elsewhere;
    }
