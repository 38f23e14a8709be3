-- A work that is queued has a new stamp.
use Rattle.std.proofs.Common.{◌≡◌, ℕ, ◌<◌, List, Option, Some, None, arith, refl, sym, ap, ◌∙◌, subst, inl, inr, ◌⊎◌}
use Rattle.std.specs.Prelude.{slice_index_or, slice_set}
use Rattle.cmwq_types.specs.declared.reply.Place.TheVariants.{Deferred}
use Rattle.cmwq_table.specs.Laws.{AtEveryInstruction}
use Rattle.cmwq_table.specs.State.{State, pending_at, running_at}
use Rattle.cmwq_table.specs.Table.{run, table}
use Rattle.cmwq_table.specs.declared.state.Pending.{Pending}
use Rattle.cmwq_tell.proofs.Becoming.{Becomes, Goes, set_cases, table-goes}
use Rattle.cmwq_tell.proofs.BelowLemmas.{AllBelow, IsBelow, run-below}
use Rattle.cmwq_events.specs.KernelEvents.{doer_of}
use Rattle.cmwq_trace_laws.specs.EventLaws.{TellsQueued, is_queued, is_queueing}
use Rattle.cmwq_trace_laws.proofs.CountLemmas.{IsNewIfBorn, end-count, instr-counts, queued-one, runs-none}

becomes-new : (before after : ℕ) (o q : Option Pending) → IsBelow before o → Becomes before after o q → IsNewIfBorn before q
becomes-new before after (Some p) q below (Becomes.stays _) = λ old. below.0
becomes-new before after None q below (Becomes.stays _) = tt
becomes-new before after o q below (Becomes.gone _) = tt
becomes-new before after o q below (Becomes.fresh _ p born born_below stamp stamp_below) = λ old. absurd (omega (arith, old, stamp))
becomes-new before after o q below (Becomes.activated p stamp pool is new new_below) = λ old. below.0

deferred-new : (s t : State) (w v : ℕ) (p q : Pending) → t.pending ≡ slice_set s.pending w (Some q) → q.born ≡ p.born → pending_at s w ≡ Some p → AllBelow s → IsNewIfBorn s.next (pending_at t v)
deferred-new s t w v p q set born is below = at (set_cases s.pending w v (Some q)) where
  old : (o : Option Pending) → IsBelow s.next o → IsNewIfBorn s.next o
  old (Some x) x_below = λ h. x_below.0
  old None x_below = tt

  at : (slice_index_or (slice_set s.pending w (Some q)) v None ≡ pending_at s v) ⊎ ((v ≡ w) × (slice_index_or (slice_set s.pending w (Some q)) v None ≡ Some q)) → IsNewIfBorn s.next (pending_at t v)
  at (inl same) =
      subst (λ (o : Option Pending). IsNewIfBorn s.next o) (sym (ap (λ (pending : List (Option Pending)). slice_index_or pending v None) set ∙ same)) (old (pending_at s v) (below v))
  at (inr here) =
      let was : (p.born < s.next) × (p.stamp < s.next) = subst (λ (o : Option Pending). IsBelow s.next o) is (below w) in
      subst (λ (o : Option Pending). IsNewIfBorn s.next o) (sym (ap (λ (pending : List (Option Pending)). slice_index_or pending v None) set ∙ here.1)) (λ h. omega (arith, was.0, born))

goes-new : (s t : State) → AllBelow s → Goes s t → (w : ℕ) → IsNewIfBorn s.next (pending_at t w)
goes-new s t below (inl moves) w = becomes-new s.next t.next (pending_at s w) (pending_at t w) (below w) (moves.works w)
goes-new s t below (inr d) w = deferred-new s t d.w w d.p (record d.p { place = Deferred d.pool }) d.pending refl d.was below

pub tells_queued : AtEveryInstruction TellsQueued
unfolding TellsQueued
tells_queued S valid instrs i =
    let s = run S instrs in
    let after = table S s i in
    let doer = doer_of S s i after in
    let all = instr-counts S s after.0 i after.1 is_queueing (λ w. is_queued s.next (pending_at after.0 w)) (λ w.
    let pends = queued-one doer s.next after.1 w (pending_at after.0 w) (goes-new s after.0 (run-below S instrs) (table-goes S s i) w) in
    let runs = runs-none doer s.next after.1 is_queueing refl w (running_at after.0 w) in
    omega (arith, pends, runs)) in
    let none = end-count doer s.next after.1 is_queueing refl in
    omega (arith, all, none)
