-- Each move of a pool makes a chain of changes.
use Rattle.std.proofs.Common.{◌≡◌, ℕ, ◌+◌, ◌<◌, ◌≤◌, Bool, true, false, not, cond, ◌&&◌, List, length, Option, Some, None, arith, refl, sym, ap, ◌∙◌, subst}
use Rattle.std.proofs.lemmas.Bool.{and_parts, eqb-true, ltb-true}
use Rattle.std.specs.Prelude.{slice_index_or, slice_set, is_some, nat_lt, ◌==◌}
use Rattle.cmwq_types.specs.Contents.{ScenarioContents}
use Rattle.cmwq_types.specs.Scenario.{local_cpu, op_at, queue_of}
use Rattle.cmwq_types.specs.declared.instr.WorkId.{WorkId}
use Rattle.cmwq_types.specs.declared.limits.TheConstants.{MAX_WORKERS, RESCUER}
use Rattle.cmwq_types.specs.declared.moves.Move.{Move}
use Rattle.cmwq_types.specs.declared.moves.Move.TheVariants.{Advance, Wake, Start, Defer, Rescue}
use Rattle.cmwq_types.specs.declared.reply.Mode.TheVariants.{Runnable, Asleep}
use Rattle.cmwq_types.specs.declared.reply.Place.{Place}
use Rattle.cmwq_types.specs.declared.reply.Place.TheVariants.{Timer, Inactive, Listed, Deferred}
use Rattle.cmwq_types.specs.declared.scenario.Op.{Op}
use Rattle.cmwq_types.specs.declared.scenario.Op.TheVariants as op
use Rattle.cmwq_types.proofs.FirstLemmas.{by_greatest-order, first_below-is_first}
use Rattle.cmwq_table.specs.declared.state.Pending.{Pending}
use Rattle.cmwq_table.specs.declared.state.Running.{Running}
use Rattle.cmwq_table.specs.State.{State, seat, pending_at, running_at, depth_at, is_disabled, idle_at, made_at}
use Rattle.cmwq_table.specs.Counts.{free_worker, has_free_rescuer, idle_stamp, is_deferred, is_listed, is_rescuer, is_runnable, last_idle, may_start, new_worker, or_else, pends, runs}
use Rattle.cmwq_table.specs.Changes.{MoveFits}
use Rattle.cmwq_table.specs.Laws.{is_wake}
use Rattle.cmwq_table.specs.Moves.{advance, become_idle, begin_again, begin_on, begun, carry_out, come_to_end, deferred, delay_from_body, finish, mod_from_body, moved, onward, place_after, queue_from_body, rescued, retire, started, started_on, taken_off, with_running, woken}
use Rattle.cmwq_types.proofs.SettingLemmas.{local_cpu-in_range}
use Rattle.cmwq_table.proofs.Choosing.{IfThere, found-first, ready-runnable}
use Rattle.cmwq_table.proofs.CounterLemmas.{set-within}
use Rattle.cmwq_table.proofs.LawLemmas.Setting.{IsOpInRange, IsSetting}
use Rattle.cmwq_table.proofs.LawLemmas.Changes.{Kind, Change, Follows, Follows-then}
use Rattle.cmwq_table.proofs.LawLemmas.Disabled.{Follows-depth, enabled-zero}
use Rattle.cmwq_table.proofs.LawLemmas.Makers.{alters-pending, alters-running, alters-both}
use Rattle.cmwq_table.proofs.LawLemmas.Sound.{IsSound, Change-sound, Follows-sound}
use Rattle.cmwq_table.proofs.LawLemmas.Steps.{Stops, changed, leaving, one, place-follows, place_after-follows, stops-taken_off, take_off-follows}

-- Carrying out.

goes : (S : ScenarioContents) (wakes : Bool) (s : State) (w : ℕ) (r q : Running) → IsSound S s → w < length S.works → running_at s w ≡ Some r
    → q.born ≡ r.born → q.pool ≡ r.pool → q.worker ≡ r.worker → (is_runnable q.mode ≡ true → is_runnable r.mode ≡ true)
    → Change S true wakes None s (with_running s w (Some q)) w
goes S wakes s w r q sound h is same_born same_pool same_worker mode =
    changed S true wakes None s (with_running s w (Some q)) w (pending_at s w) (Some r) (pending_at s w) (Some q) refl is
    (alters-running S s w (Some q) s.next s.idle sound.long h) (Kind.goes_on (pending_at s w) r q same_born same_pool same_worker mode)

retire-change : (S : ScenarioContents) (wakes : Bool) (s : State) (w : ℕ) (r : Running) → IsSound S s → w < length S.works → running_at s w ≡ Some r
    → pends is_deferred (pending_at s w) ≡ false → Change S true wakes (Some r.pool) s (retire s w r) w
retire-change S wakes s w r sound h is still = retire-change-if S wakes s w r sound h is still (is_rescuer r.worker)
  where
    retire-change-if : (S : ScenarioContents) (wakes : Bool) (s : State) (w : ℕ) (r : Running) → IsSound S s → w < length S.works → running_at s w ≡ Some r
        → pends is_deferred (pending_at s w) ≡ false → (b : Bool) → Change S true wakes (Some r.pool) s (cond {A = State} b (with_running s w None) (become_idle s w r)) w
    retire-change-if S wakes s w r sound h is still true =
        changed S true wakes (Some r.pool) s (with_running s w None) w (pending_at s w) (Some r) (pending_at s w) None refl is
        (alters-running S s w None s.next s.idle sound.long h) (Kind.retired (pending_at s w) r s.next still (omega arith))
    retire-change-if S wakes s w r sound h is still false =
        changed S true wakes (Some r.pool) s (become_idle s w r) w (pending_at s w) (Some r) (pending_at s w) None refl is
        (alters-running S s w None (s.next + 1) (slice_set s.idle (seat r.pool r.worker) (Some s.next)) sound.long h)
        (Kind.retired (pending_at s w) r (s.next + 1) still (omega arith))

again-change : (S : ScenarioContents) (wakes : Bool) (s : State) (w : ℕ) (r : Running) (p : Pending) (at : ℕ) → IsSound S s → w < length S.works
    → running_at s w ≡ Some r → is_runnable r.mode ≡ true → pending_at s w ≡ Some (record { born = p.born; stamp = p.stamp; place = Deferred at })
    → Change S true wakes (Some r.pool) s (begin_again s w r p) w
again-change S wakes s w r p at sound h is runs is_pending =
    changed S true wakes (Some r.pool) s (begin_again s w r p) w (Some (record { born = p.born; stamp = p.stamp; place = Deferred at })) (Some r) None (Some (begun p.born r.pool r.worker s.next)) is_pending is
    (alters-both S s w None (Some (begun p.born r.pool r.worker s.next)) (s.next + 1) s.idle s.made sound.long h (λ within. within))
    (Kind.again p.born p.stamp at r runs)

ends-in : (S : ScenarioContents) (wakes : Bool) (s : State) (w : ℕ) (r : Running) (p : Pending) (at : Place) → IsSound S s → w < length S.works
    → running_at s w ≡ Some r → is_runnable r.mode ≡ true → pending_at s w ≡ Some (record { born = p.born; stamp = p.stamp; place = at })
    → Change S true wakes (Some r.pool) s (come_to_end s w r (Some (record { born = p.born; stamp = p.stamp; place = at }))).0 w
ends-in S wakes s w r p (Deferred at) sound h is runs is_pending = again-change S wakes s w r p at sound h is runs is_pending
ends-in S wakes s w r p (Timer due cpu) sound h is runs is_pending = retire-change S wakes s w r sound h is (ap (pends is_deferred) is_pending)
ends-in S wakes s w r p (Inactive at) sound h is runs is_pending = retire-change S wakes s w r sound h is (ap (pends is_deferred) is_pending)
ends-in S wakes s w r p (Listed at) sound h is runs is_pending = retire-change S wakes s w r sound h is (ap (pends is_deferred) is_pending)

ends : (S : ScenarioContents) (wakes : Bool) (s : State) (w : ℕ) (r : Running) (o : Option Pending) → IsSound S s → w < length S.works
    → running_at s w ≡ Some r → is_runnable r.mode ≡ true → pending_at s w ≡ o → Change S true wakes (Some r.pool) s (come_to_end s w r o).0 w
ends S wakes s w r (Some p) sound h is runs is_pending = ends-in S wakes s w r p p.place sound h is runs is_pending
ends S wakes s w r None sound h is runs is_pending = retire-change S wakes s w r sound h is (ap (pends is_deferred) is_pending)

finish-follows : (S : ScenarioContents) (wakes : Bool) (s : State) (w : ℕ) (r : Running) → IsSound S s → w < length S.works → running_at s w ≡ Some r
    → is_runnable r.mode ≡ true → Follows S true wakes s (finish S s w r).0
finish-follows S wakes s w r sound h is runs =
    leaving S true wakes s (come_to_end s w r (pending_at s w)).0 w r.pool (ends S wakes s w r (pending_at s w) sound h is runs refl)

queues-follows : (S : ScenarioContents) (wakes : Bool) (s : State) (other : WorkId) (cpu : ℕ) (o : Option Pending) → IsSound S s
    → other.0 < length S.works → cpu < S.cpus → pending_at s other.0 ≡ o → (b : Bool) → is_disabled s other.0 ≡ b
    → Follows S true wakes s (queue_from_body S s other cpu b o).0
queues-follows S wakes s other cpu o sound h there is true deep = Follows.stays true wakes s
queues-follows S wakes s other cpu (Some p) sound h there is false shallow = Follows.stays true wakes s
queues-follows S wakes s other cpu None sound h there is false shallow =
    place-follows S wakes s other.0 cpu sound h there is (enabled-zero (depth_at s other.0) (ap not shallow))

delays-follows : (S : ScenarioContents) (wakes : Bool) (s : State) (other : WorkId) (cpu ticks : ℕ) (o : Option Pending) → IsSound S s
    → other.0 < length S.works → cpu < S.cpus → pending_at s other.0 ≡ o → (b : Bool) → is_disabled s other.0 ≡ b
    → Follows S true wakes s (delay_from_body S s other cpu ticks b o).0
delays-follows S wakes s other cpu ticks o sound h there is true deep = Follows.stays true wakes s
delays-follows S wakes s other cpu ticks (Some p) sound h there is false shallow = Follows.stays true wakes s
delays-follows S wakes s other cpu ticks None sound h there is false shallow =
    place_after-follows S wakes s other.0 cpu ticks sound h there is (enabled-zero (depth_at s other.0) (ap not shallow))

-- a work is taken off, if it is pending, and placed anew
anew-follows : (S : ScenarioContents) (wakes : Bool) (s : State) (w cpu ticks : ℕ) (o : Option Pending) → IsSound S s → w < length S.works → cpu < S.cpus
    → pending_at s w ≡ o → depth_at s w ≡ 0 → Follows S true wakes s (place_after S (taken_off S s w o) w cpu ticks)
anew-follows S wakes s w cpu ticks (Some p) sound h there is enabled =
    let off = taken_off S s w (Some p) in
    let stops : Stops S wakes s off w = stops-taken_off S wakes s w p sound h is in
    Follows-then S true wakes s off (place_after S off w cpu ticks) stops.follows
    (place_after-follows S wakes off w cpu ticks (Follows-sound S true wakes s off stops.follows sound) h there stops.stopped (ap (λ (depth : List ℕ). slice_index_or depth w 0) (Follows-depth S true wakes s off stops.follows) ∙ enabled))
anew-follows S wakes s w cpu ticks None sound h there is enabled = place_after-follows S wakes s w cpu ticks sound h there is enabled

mods-follows : (S : ScenarioContents) (wakes : Bool) (s : State) (other : WorkId) (cpu ticks : ℕ) (o : Option Pending) → IsSound S s
    → other.0 < length S.works → cpu < S.cpus → pending_at s other.0 ≡ o → (b : Bool) → is_disabled s other.0 ≡ b
    → Follows S true wakes s (mod_from_body S s other cpu ticks b o).0
mods-follows S wakes s other cpu ticks o sound h there is true deep = Follows.stays true wakes s
mods-follows S wakes s other cpu ticks o sound h there is false shallow =
    anew-follows S wakes s other.0 cpu ticks o sound h there is (enabled-zero (depth_at s other.0) (ap not shallow))

carries-out : (S : ScenarioContents) (wakes : Bool) (s : State) (w : ℕ) (r : Running) (o : Op) → IsSetting S → IsSound S s → w < length S.works
    → running_at s w ≡ Some r → is_runnable r.mode ≡ true → IsOpInRange S o → Follows S true wakes s (carry_out S s w r o).0
carries-out S wakes s w r (op.Burn ticks) setting sound h is runs in_range =
    let q = record r { pc = r.pc + 1; left = ticks } in
    one S true wakes s (with_running s w (Some q)) w (goes S wakes s w r q sound h is refl refl refl (λ e. e))
carries-out S wakes s w r (op.Sleep ticks) setting sound h is runs in_range =
    let q = record r { pc = r.pc + 1; mode = Asleep (s.time + ticks) } in
    one S true wakes s (with_running s w (Some q)) w (goes S wakes s w r q sound h is refl refl refl (λ e. runs))
carries-out S wakes s w r (op.Queue other cpu) setting sound h is runs in_range =
    let change : Change S true wakes None s (onward s w r) w = goes S wakes s w r (record r { pc = r.pc + 1 }) sound h is refl refl refl (λ e. e) in
    Follows.changes true wakes s (onward s w r) (queue_from_body S (onward s w r) other cpu (is_disabled s other.0) (pending_at s other.0)).0 w change
    (queues-follows S wakes (onward s w r) other cpu (pending_at s other.0) (Change-sound S true wakes None s (onward s w r) w change sound) in_range.0 in_range.1 refl (is_disabled s other.0) refl)
carries-out S wakes s w r op.Finish setting sound h is runs in_range = finish-follows S wakes s w r sound h is runs
carries-out S wakes s w r (op.Delay other ticks) setting sound h is runs in_range =
    let change : Change S true wakes None s (onward s w r) w = goes S wakes s w r (record r { pc = r.pc + 1 }) sound h is refl refl refl (λ e. e) in
    Follows.changes true wakes s (onward s w r) (delay_from_body S (onward s w r) other (local_cpu S r.pool) ticks (is_disabled s other.0) (pending_at s other.0)).0 w change
    (delays-follows S wakes (onward s w r) other (local_cpu S r.pool) ticks (pending_at s other.0) (Change-sound S true wakes None s (onward s w r) w change sound) in_range (local_cpu-in_range S r.pool setting.some) refl (is_disabled s other.0) refl)
carries-out S wakes s w r (op.Mod other ticks) setting sound h is runs in_range =
    let change : Change S true wakes None s (onward s w r) w = goes S wakes s w r (record r { pc = r.pc + 1 }) sound h is refl refl refl (λ e. e) in
    Follows.changes true wakes s (onward s w r) (mod_from_body S (onward s w r) other (local_cpu S r.pool) ticks (is_disabled s other.0) (pending_at s other.0)).0 w change
    (mods-follows S wakes (onward s w r) other (local_cpu S r.pool) ticks (pending_at s other.0) (Change-sound S true wakes None s (onward s w r) w change sound) in_range (local_cpu-in_range S r.pool setting.some) refl (is_disabled s other.0) refl)
carries-out S wakes s w r (op.Cancel other) setting sound h is runs in_range =
    let change : Change S true wakes None s (onward s w r) w = goes S wakes s w r (record r { pc = r.pc + 1 }) sound h is refl refl refl (λ e. e) in
    Follows.changes true wakes s (onward s w r) (taken_off S (onward s w r) other.0 (pending_at s other.0)) w change
    (take_off-follows S wakes (onward s w r) other.0 (pending_at s other.0) (Change-sound S true wakes None s (onward s w r) w change sound) in_range refl)

advances : (S : ScenarioContents) (wakes : Bool) (s : State) (w : ℕ) (o : Option Running) → IsSetting S → IsSound S s → w < length S.works
    → running_at s w ≡ o → runs (λ r. is_runnable r.mode) o ≡ true → Follows S true wakes s (advance S s w o).0
advances S wakes s w (Some r) setting sound h is runs = carries-out S wakes s w r (op_at S w r.pc) setting sound h is runs (setting.ops w r.pc)
advances S wakes s w None setting sound h is runs = Follows.stays true wakes s

wakes-follows : (S : ScenarioContents) (s : State) (w : ℕ) (o : Option Running) → IsSound S s → w < length S.works → running_at s w ≡ o
    → Follows S true true s (woken s w o)
wakes-follows S s w (Some r) sound h is =
    let q = record r { mode = Runnable; stamp = s.next } in
    one S true true s (woken s w (Some r)) w
    (changed S true true None s (woken s w (Some r)) w (pending_at s w) (Some r) (pending_at s w) (Some q) refl is
    (alters-running S s w (Some q) (s.next + 1) s.idle sound.long h) (Kind.woken (pending_at s w) r q refl refl refl refl))
wakes-follows S s w None sound h is = Follows.stays true true s

-- where the free worker is one of the pool's, the pool doesn't make too many

idle-first : (S : ScenarioContents) (s : State) (pool : ℕ) → IfThere (λ worker. worker < S.workers) (last_idle S s pool)
idle-first S s pool =
    found-first (λ v w. nat_lt (idle_stamp (idle_at s pool w)) (idle_stamp (idle_at s pool v))) (λ worker. is_some (idle_at s pool worker)) S.workers (λ worker. worker < S.workers)
    (λ w h e. h)
    (last_idle S s pool)
    (first_below-is_first (λ v w. nat_lt (idle_stamp (idle_at s pool w)) (idle_stamp (idle_at s pool v))) (λ worker. is_some (idle_at s pool worker)) S.workers (by_greatest-order (λ worker. idle_stamp (idle_at s pool worker))))

new-below : (S : ScenarioContents) (made : ℕ) (b : Bool) → (b ≡ true → made < S.workers) → IfThere (λ worker. worker < S.workers) (cond b (Some made) None)
new-below S made true below = below refl
new-below S made false below = tt

or-below : (S : ScenarioContents) (x y : Option ℕ) → IfThere (λ worker. worker < S.workers) x → IfThere (λ worker. worker < S.workers) y
    → IfThere (λ worker. worker < S.workers) (or_else x y)
or-below S (Some x) y here there = here
or-below S None y here there = there

free-below : (S : ScenarioContents) (s : State) (pool : ℕ) → IfThere (λ worker. worker < S.workers) (free_worker S s pool)
free-below S s pool =
    or-below S (last_idle S s pool) (new_worker S s pool) (idle-first S s pool)
    (new-below S (made_at s pool) (not s.pressed && nat_lt (made_at s pool) S.workers)
    (λ e. ltb-true (made_at s pool) S.workers (and_parts (not s.pressed) (nat_lt (made_at s pool) S.workers) e).1))

-- no worker of a pool is a rescuer
not-rescuer : (S : ScenarioContents) (worker : ℕ) → S.workers ≤ MAX_WORKERS → worker < S.workers → is_rescuer worker ≡ true → ⊥
not-rescuer S worker few seated e = let same : worker ≡ RESCUER = eqb-true worker RESCUER e in absurd (omega arith)

made-one_more : (worker made most : ℕ) (b : Bool) → worker < most → made ≤ most → cond b (worker + 1) made ≤ most
made-one_more worker made most true h within = omega arith
made-one_more worker made most false h within = within

start-place : (S : ScenarioContents) (wakes : Bool) (s : State) (pool w worker : ℕ) (p : Pending) (at : Place) → S.workers ≤ MAX_WORKERS → IsSound S s → w < length S.works
    → worker < S.workers → running_at s w ≡ None → may_start S s pool ≡ true → is_listed at pool ≡ true
    → pending_at s w ≡ Some (record { born = p.born; stamp = p.stamp; place = at }) → Follows S true wakes s (started_on s pool w worker p)
start-place S wakes s pool w worker p (Listed at) few sound h seated idle may is is_pending =
    let same : Some (record { born = p.born; stamp = p.stamp; place = Listed at }) ≡ Some (record { born = p.born; stamp = p.stamp; place = Listed pool }) = ap (λ (x : ℕ). Some (record { born = p.born; stamp = p.stamp; place = Listed x })) (eqb-true at pool is) in
    let q = begun p.born pool worker s.next in
    let made = cond (worker == made_at s pool) (worker + 1) (made_at s pool) in
    one S true wakes s (started_on s pool w worker p) w
    (changed S true wakes None s (started_on s pool w worker p) w (Some (record { born = p.born; stamp = p.stamp; place = Listed pool })) None None (Some q) (is_pending ∙ same) idle
    (alters-both S s w None (Some q) (s.next + 1) (slice_set s.idle (seat pool worker) None) (slice_set s.made pool made) sound.long h
    (λ within. set-within s.made S.workers pool made within (made-one_more worker (made_at s pool) S.workers (worker == made_at s pool) seated (within pool))))
    (Kind.started p.born p.stamp pool worker may (λ e. absurd (not-rescuer S worker few seated e))))
start-place S wakes s pool w worker p (Timer due cpu) few sound h seated idle may is is_pending = cc
start-place S wakes s pool w worker p (Inactive at) few sound h seated idle may is is_pending = cc
start-place S wakes s pool w worker p (Deferred at) few sound h seated idle may is is_pending = cc

starts : (S : ScenarioContents) (wakes : Bool) (s : State) (pool w : ℕ) (worker : Option ℕ) (o : Option Pending) → S.workers ≤ MAX_WORKERS → IsSound S s → w < length S.works
    → IfThere (λ seated. seated < S.workers) worker → running_at s w ≡ None → may_start S s pool ≡ true
    → pends (λ place. is_listed place pool) o ≡ true → pending_at s w ≡ o → Follows S true wakes s (started s pool w worker o)
starts S wakes s pool w (Some worker) (Some p) few sound h seated idle may is is_pending = start-place S wakes s pool w worker p p.place few sound h seated idle may is is_pending
starts S wakes s pool w (Some worker) None few sound h seated idle may is is_pending = Follows.stays true wakes s
starts S wakes s pool w None o few sound h seated idle may is is_pending = Follows.stays true wakes s

rescue-place : (S : ScenarioContents) (wakes : Bool) (s : State) (pool w : ℕ) (p : Pending) (at : Place) → IsSound S s → w < length S.works
    → running_at s w ≡ None → may_start S s pool ≡ true → has_free_rescuer S s (queue_of S w) ≡ true → is_listed at pool ≡ true
    → pending_at s w ≡ Some (record { born = p.born; stamp = p.stamp; place = at }) → Follows S true wakes s (begin_on s w pool RESCUER p)
rescue-place S wakes s pool w p (Listed at) sound h idle may free is is_pending =
    let same : Some (record { born = p.born; stamp = p.stamp; place = Listed at }) ≡ Some (record { born = p.born; stamp = p.stamp; place = Listed pool }) = ap (λ (x : ℕ). Some (record { born = p.born; stamp = p.stamp; place = Listed x })) (eqb-true at pool is) in
    let q = begun p.born pool RESCUER s.next in
    one S true wakes s (begin_on s w pool RESCUER p) w
    (changed S true wakes None s (begin_on s w pool RESCUER p) w (Some (record { born = p.born; stamp = p.stamp; place = Listed pool })) None None (Some q) (is_pending ∙ same) idle
    (alters-both S s w None (Some q) (s.next + 1) s.idle s.made sound.long h (λ within. within))
    (Kind.started p.born p.stamp pool RESCUER may (λ e. free)))
rescue-place S wakes s pool w p (Timer due cpu) sound h idle may free is is_pending = cc
rescue-place S wakes s pool w p (Inactive at) sound h idle may free is is_pending = cc
rescue-place S wakes s pool w p (Deferred at) sound h idle may free is is_pending = cc

rescues : (S : ScenarioContents) (wakes : Bool) (s : State) (pool w : ℕ) (o : Option Pending) → IsSound S s → w < length S.works
    → running_at s w ≡ None → may_start S s pool ≡ true → has_free_rescuer S s (queue_of S w) ≡ true
    → pends (λ place. is_listed place pool) o ≡ true → pending_at s w ≡ o → Follows S true wakes s (rescued s pool w o)
rescues S wakes s pool w (Some p) sound h idle may free is is_pending = rescue-place S wakes s pool w p p.place sound h idle may free is is_pending
rescues S wakes s pool w None sound h idle may free is is_pending = Follows.stays true wakes s

defer-place : (S : ScenarioContents) (wakes : Bool) (s : State) (pool w : ℕ) (r : Running) (p : Pending) (at : Place) → IsSound S s
    → w < length S.works → running_at s w ≡ Some r → is_listed at pool ≡ true
    → pending_at s w ≡ Some (record { born = p.born; stamp = p.stamp; place = at }) → Follows S true wakes s (deferred s pool w (Some p))
defer-place S wakes s pool w r p (Listed at) sound h runs is is_pending =
    let same : Some (record { born = p.born; stamp = p.stamp; place = Listed at }) ≡ Some (record { born = p.born; stamp = p.stamp; place = Listed pool }) = ap (λ (x : ℕ). Some (record { born = p.born; stamp = p.stamp; place = Listed x })) (eqb-true at pool is) in
    let q = Some (record { born = p.born; stamp = p.stamp; place = Deferred pool }) in
    one S true wakes s (deferred s pool w (Some p)) w
    (record {
      p = q;
      r = running_at s w;
      alters = alters-pending S s w q s.next sound.long h;
      kind = subst (λ (o : Option Pending). Kind S true wakes s w None o (running_at s w) q (running_at s w) s.next) (sym (is_pending ∙ same))
          (subst (λ (o : Option Running). Kind S true wakes s w None (Some (record { born = p.born; stamp = p.stamp; place = Listed pool })) o q o s.next) (sym runs) (Kind.deferred p.born p.stamp pool r));
    })
defer-place S wakes s pool w r p (Timer due cpu) sound h runs is is_pending = cc
defer-place S wakes s pool w r p (Inactive at) sound h runs is is_pending = cc
defer-place S wakes s pool w r p (Deferred at) sound h runs is is_pending = cc

defers : (S : ScenarioContents) (wakes : Bool) (s : State) (pool w : ℕ) (r : Option Running) (o : Option Pending) → IsSound S s → w < length S.works
    → running_at s w ≡ r → is_some r ≡ true → pends (λ place. is_listed place pool) o ≡ true → pending_at s w ≡ o
    → Follows S true wakes s (deferred s pool w o)
defers S wakes s pool w (Some r) (Some p) sound h runs there is is_pending = defer-place S wakes s pool w r p p.place sound h runs is is_pending
defers S wakes s pool w (Some r) None sound h runs there is is_pending = Follows.stays true wakes s
defers S wakes s pool w None o sound h runs there is is_pending = cc

-- every move is a chain of changes, among which none wakes unless it tells so
pub moved-follows : (S : ScenarioContents) (s : State) (pool : ℕ) (move : Move) → IsSetting S → IsSound S s → MoveFits S s pool move
    → Follows S true (is_wake (moved S s pool move).1) s (moved S s pool move).0
moved-follows S s pool (Advance w) setting sound fits = advances S (is_wake (advance S s w.0 (running_at s w.0)).1) s w.0 (running_at s w.0) setting sound fits.there refl (ready-runnable pool (running_at s w.0) fits.ready)
moved-follows S s pool (Wake w) setting sound fits = wakes-follows S s w.0 (running_at s w.0) sound fits.there refl
moved-follows S s pool (Start w) setting sound fits = starts S false s pool w.0 (free_worker S s pool) (pending_at s w.0) setting.workers sound fits.0.taken.there (free-below S s pool) fits.0.still fits.0.taken.may fits.0.taken.listed refl
moved-follows S s pool (Defer w) setting sound fits = defers S false s pool w.0 (running_at s w.0) (pending_at s w.0) sound fits.0.there refl fits.1 fits.0.listed refl
moved-follows S s pool (Rescue w) setting sound fits = rescues S false s pool w.0 (pending_at s w.0) sound fits.0.taken.there fits.0.still fits.0.taken.may fits.1 fits.0.taken.listed refl
