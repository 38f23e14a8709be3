use Rattle.std.proofs.Common.{◌≡◌, ℕ, ◌<◌, Bool, Option, Some, IfSome, length, sym, ap, subst, ◌∙◌}
use Rattle.cmwq_types.specs.Contents.{ScenarioContents}
use Rattle.cmwq_types.specs.declared.limits.TheConstants.{MAX_WORKS}
use Rattle.cmwq_types.specs.First.{by_least, first_below}
use Rattle.cmwq_queued.specs.QueuedContents.{QueuedContents, pending_at}
use Rattle.cmwq_running.specs.RunningContents.{RunningContents}
use Rattle.cmwq_table.specs.Counts.{first_rescued, is_listed, pending_stamp, pends}
use Rattle.cmwq_core.specs.Rescuing.{is_untaken, rescue_state}
use Rattle.cmwq_core.proofs.RescueLemmas.{HasCome, both, steps_left, walk_begins, walk_ends, walk_finds, walk_goes_on, walk_shortens}
use Rattle.cmwq_core.proofs.rescuing.first_rescued.Goals as goal

abbrev stamp_in : QueuedContents → ℕ → ℕ
stamp_in queued v = pending_stamp (pending_at queued.pending v)

abbrev is_on : QueuedContents → ℕ → ℕ → Bool
is_on queued pool v = pends (λ place. is_listed place pool) (pending_at queued.pending v)

abbrev may_be_taken : RunningContents → ℕ → Bool
may_be_taken running v = is_untaken running.scenario running.running v

-- the walk looks for what the table means
sought : (queued : QueuedContents) (running : RunningContents) (pool : ℕ) → running.scenario ≡ queued.scenario
    → first_below (by_least (stamp_in queued)) (both (is_on queued pool) (may_be_taken running)) (length queued.scenario.works) ≡ first_rescued queued.scenario (rescue_state queued running) pool
sought queued running pool same = ap (λ (S : ScenarioContents). first_below (by_least (stamp_in queued)) (both (is_on queued pool) (λ v. is_untaken S running.running v)) (length queued.scenario.works)) same

abbrev HasComeTo : QueuedContents → RunningContents → ℕ → Option ℕ → Type 0
HasComeTo queued running pool o = HasCome (stamp_in queued) (is_on queued pool) (may_be_taken running) (length queued.scenario.works) o

pub loop-at-init : goal.loop-at-init
loop-at-init c = record {
  come = subst (λ (o : Option ℕ). HasComeTo c.args.queued.now c.args.running.now c.args.pool o) (sym c.first_listed-at.ensures.first)
      (walk_begins (stamp_in c.args.queued.now) (is_on c.args.queued.now c.args.pool) (may_be_taken c.args.running.now) (length c.args.queued.now.scenario.works) c.own_stamps.ensures);
  few = c.first_listed-at.ensures.few;
}

pub is_untaken-requires : goal.is_untaken-requires
is_untaken-requires c =
    let at = subst (λ (o : Option ℕ). HasComeTo c.args.queued.now c.args.running.now c.args.pool o) c.in-Some.is c.loop-at.invariant.come in
    record { work = subst (λ (S : ScenarioContents). c.in-Some.w < length S.works) (sym c.requires.same) at.in_range }

pub returns-then-is_untaken-clause-first : goal.returns-then-is_untaken-clause-first
returns-then-is_untaken-clause-first c =
    sym (walk_finds (stamp_in c.args.queued.now) (is_on c.args.queued.now c.args.pool) (may_be_taken c.args.running.now) (length c.args.queued.now.scenario.works) c.own_stamps.ensures c.in-Some.w (subst (λ (o : Option ℕ). HasComeTo c.args.queued.now c.args.running.now c.args.pool o) c.in-Some.is c.loop-at.invariant.come) (sym c.is_untaken.ensures ∙ c.if-is_untaken.true))
    ∙ sought c.args.queued.now c.args.running.now c.args.pool c.requires.same

pub returns-then-is_untaken-clause-in_range : goal.returns-then-is_untaken-clause-in_range
returns-then-is_untaken-clause-in_range c = (subst (λ (o : Option ℕ). HasComeTo c.args.queued.now c.args.running.now c.args.pool o) c.in-Some.is c.loop-at.invariant.come).in_range

pub returns-then-is_untaken-clause-few : goal.returns-then-is_untaken-clause-few
returns-then-is_untaken-clause-few c = subst (λ (o : Option ℕ). IfSome o (λ w. w < MAX_WORKS)) c.in-Some.is c.loop-at.invariant.few

pub listed_behind-at-requires-clause-listed : goal.listed_behind-at-requires-clause-listed
listed_behind-at-requires-clause-listed c = (subst (λ (o : Option ℕ). HasComeTo c.args.queued.now c.args.running.now c.args.pool o) c.in-Some.is c.loop-at.invariant.come).here

pub loop-at-preserved : goal.loop-at-preserved
loop-at-preserved c = record {
  come = subst (λ (o : Option ℕ). HasComeTo c.args.queued.now c.args.running.now c.args.pool o) (sym c.listed_behind-at.ensures.next)
      (walk_goes_on (stamp_in c.args.queued.now) (is_on c.args.queued.now c.args.pool) (may_be_taken c.args.running.now) (length c.args.queued.now.scenario.works) c.own_stamps.ensures c.in-Some.w (subst (λ (o : Option ℕ). HasComeTo c.args.queued.now c.args.running.now c.args.pool o) c.in-Some.is c.loop-at.invariant.come) (sym c.is_untaken.ensures ∙ c.if-is_untaken.false));
  few = c.listed_behind-at.ensures.few;
}

pub loop-at-smaller : goal.loop-at-smaller
loop-at-smaller c =
    subst (λ (o : Option ℕ). steps_left (stamp_in c.args.queued.now) (is_on c.args.queued.now c.args.pool) (length c.args.queued.now.scenario.works) c.listed_behind-at.result < steps_left (stamp_in c.args.queued.now) (is_on c.args.queued.now c.args.pool) (length c.args.queued.now.scenario.works) o) (sym c.in-Some.is)
    (subst (λ (o : Option ℕ). steps_left (stamp_in c.args.queued.now) (is_on c.args.queued.now c.args.pool) (length c.args.queued.now.scenario.works) o < steps_left (stamp_in c.args.queued.now) (is_on c.args.queued.now c.args.pool) (length c.args.queued.now.scenario.works) (Some c.in-Some.w)) (sym c.listed_behind-at.ensures.next)
    (walk_shortens (stamp_in c.args.queued.now) (is_on c.args.queued.now c.args.pool) (may_be_taken c.args.running.now) (length c.args.queued.now.scenario.works) c.own_stamps.ensures c.in-Some.w))

pub returns-clause-first : goal.returns-clause-first
returns-clause-first c =
    sym (walk_ends (stamp_in c.args.queued.now) (is_on c.args.queued.now c.args.pool) (may_be_taken c.args.running.now) (length c.args.queued.now.scenario.works) c.own_stamps.ensures
    (subst (λ (o : Option ℕ). HasComeTo c.args.queued.now c.args.running.now c.args.pool o) c.in_default.is c.loop-at.invariant.come))
    ∙ sought c.args.queued.now c.args.running.now c.args.pool c.requires.same
