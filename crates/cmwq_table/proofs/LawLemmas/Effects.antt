-- What an instruction does: time, limits, a depth or the shortage of memory change, then comes a chain of changes, then a flush may be given.
use Rattle.std.proofs.Common.{◌≡◌, ℕ, ◌+◌, ◌-◌, ◌<◌, ◌≤◌, Bool, true, false, not, cond, ◌&&◌, ◌||◌, List, length, Option, Some, None, arith, refl, ap, ◌∙◌, inl, inr, ◌⊎◌}
use Rattle.std.proofs.lemmas.Bool.{ltb-true, not-true}
use Rattle.std.specs.Prelude.{nat_lt, slice_index_or, ◌==◌}
use Rattle.cmwq_types.specs.Contents.{ScenarioContents}
use Rattle.cmwq_types.specs.First.{MatchFirst}
use Rattle.cmwq_types.specs.Scenario.{flags_at}
use Rattle.cmwq_types.specs.declared.instr.WorkId.{WorkId}
use Rattle.cmwq_types.specs.declared.instr.Instr.{Instr}
use Rattle.cmwq_types.specs.declared.instr.Instr.TheVariants as instr
use Rattle.cmwq_types.specs.declared.moves.Move.{Move}
use Rattle.cmwq_types.specs.declared.reply.Refusal.{Refusal}
use Rattle.cmwq_types.specs.declared.reply.Refusal.TheVariants.{Disabled, NoSuchWork, NoSuchCpu, NotDisabled, Ordered}
use Rattle.cmwq_types.proofs.FirstLemmas.{by_least_two-order, first_below-is_first}
use Rattle.cmwq_table.specs.declared.state.FlushTarget.{FlushTarget}
use Rattle.cmwq_table.specs.declared.state.FlushTarget.TheVariants as target
use Rattle.cmwq_table.specs.declared.state.Pending.{Pending}
use Rattle.cmwq_table.specs.declared.state.Running.{Running}
use Rattle.cmwq_table.specs.State.{State, depth_at, is_disabled, max_at, pending_at, pool_count, running_at}
use Rattle.cmwq_table.specs.Counts.{first_due, is_due, is_placed, pending_due, pending_stamp, pends}
use Rattle.cmwq_table.specs.Counts as counts
use Rattle.cmwq_table.specs.Laws.{tells_wake}
use Rattle.cmwq_table.specs.Moves.{fire, first_moving, freeze, last_instance, moved, next_move, place, place_after, running_instance, set_max, take_off, taken_off, thaw, tick, with_depth, with_flush, with_pressed}
use Rattle.cmwq_table.specs.Table.{cancelled, delayed, disabled, effect, enabled, fired_first, is_met, modified, next, next_unless, no_work, no_work_or_cpu, operands, queued, refuse_unless, situation, step_or_tick, stepped, unsettled, while_enabled}
use Rattle.cmwq_table.proofs.LawLemmas.Alike.{IsAlike, alike-depth, alike-limits, alike-pressed, alike-sound, alike-tick, itself}
use Rattle.cmwq_table.proofs.LawLemmas.Changes.{Follows, Follows-then}
use Rattle.cmwq_table.proofs.LawLemmas.Disabled.{Follows-all_off, Follows-depth, Follows-off_but, IsOff, disabled-deep, enabled-zero}
use Rattle.cmwq_table.proofs.LawLemmas.Limits.{alike-full, freeze-full, limited, limited-ordered, limited-sound, set_max-full, thaw-full, thawed, thawed-sound}
use Rattle.cmwq_table.proofs.Choosing.{next_move-fits}
use Rattle.cmwq_table.proofs.LawLemmas.Moving.{moved-follows}
use Rattle.cmwq_table.proofs.LawLemmas.Room.{AreFull, Follows-full}
use Rattle.cmwq_table.proofs.LawLemmas.Setting.{IsSetting}
use Rattle.cmwq_table.proofs.LawLemmas.Sound.{FitsIfPending, FitsIfRunning, FitsTarget, Follows-sound, IsSound}
use Rattle.cmwq_table.proofs.LawLemmas.Steps.{Stops, fill_freezable-follows, fill_pools-follows, fired-follows, place-follows, place_after-follows, stops-taken_off, take_off-follows}

-- nothing could happen without time
abbrev pub IsSettled : ScenarioContents → State → Type 0
IsSettled S s = first_moving S s ≡ None

abbrev pub with_given : State → Option FlushTarget → State
with_given s (Some target) = with_flush s target
with_given s None = s

abbrev pub GivenFits : ℕ → Option FlushTarget → Type 0
GivenFits next (Some target) = FitsTarget next target
GivenFits next None = Unit {0}

pub record Effect (S : ScenarioContents) (wakes : Bool) (s t : State) : Type 0 where
  -- the state with another time, other limits, another depth of a work, or short of memory or not
  pub begun : State
  pub alike : IsAlike S s begun
  pub time : (begun.time ≡ s.time) ⊎ IsSettled S s
  pub ordered : (queue : ℕ) → (flags_at S queue).ordered ≡ true → max_at begun queue ≤ 1
  -- what is placed, is placed while the queues are full
  pub places : Bool
  pub begun_full : places ≡ true → AreFull S begun
  pub ended : State
  pub follows : Follows S places wakes begun ended
  pub ended_full : AreFull S ended
  pub ended_off : IsOff ended
  -- a flush that is given then
  pub given : Option FlushTarget
  pub given_fits : GivenFits ended.next given
  pub after : t ≡ with_given ended given

module _ (S : ScenarioContents) (s : State) (setting : IsSetting S) (sound : IsSound S s) (are_full : AreFull S s) (off : IsOff s) where
  same-alike : IsAlike S s s
  same-alike = record { pending = λ w. refl; running = λ w. itself (running_at s w); long = λ long. long; next = refl; flushes = refl; made = refl }

  -- a chain of changes, and then a flush
  gives : (wakes : Bool) (t : State) (given : Option FlushTarget) → Follows S true wakes s t → GivenFits t.next given → Effect S wakes s (with_given t given)
  gives wakes t given follows fits = record {
    begun = s;
    alike = same-alike;
    time = inl refl;
    ordered = sound.ordered;
    places = true;
    begun_full = λ e. are_full;
    ended = t;
    follows = follows;
    ended_full = λ queue pool. Follows-full S true wakes s t queue pool follows sound (are_full queue pool);
    ended_off = Follows-all_off S true wakes s t follows off;
    given = given;
    given_fits = fits;
    after = refl;
  }

  changes : (wakes : Bool) (t : State) → Follows S true wakes s t → Effect S wakes s t
  changes wakes t follows = gives wakes t None follows tt

  nothing : (wakes : Bool) → Effect S wakes s s
  nothing wakes = changes wakes s (Follows.stays true wakes s)

  ticks : (wakes : Bool) → IsSettled S s → Effect S wakes s (tick S s)
  ticks wakes settled = record {
    begun = tick S s;
    alike = alike-tick S s;
    time = inr settled;
    ordered = sound.ordered;
    places = false;
    begun_full = λ e. cc;
    ended = tick S s;
    follows = Follows.stays false wakes (tick S s);
    ended_full = λ queue pool. alike-full S s (tick S s) queue pool (alike-tick S s) (omega arith) (are_full queue pool);
    ended_off = off;
    given = None;
    given_fits = tt;
    after = refl;
  }

  freezes : (wakes : Bool) → Effect S wakes s (freeze s)
  freezes wakes = record {
    begun = freeze s;
    alike = alike-limits S s s.max true;
    time = inl refl;
    ordered = sound.ordered;
    places = false;
    begun_full = λ e. cc;
    ended = freeze s;
    follows = Follows.stays false wakes (freeze s);
    ended_full = freeze-full S s are_full;
    ended_off = off;
    given = None;
    given_fits = tt;
    after = refl;
  }

  presses : (wakes pressed : Bool) → Effect S wakes s (with_pressed s pressed)
  presses wakes pressed = record {
    begun = with_pressed s pressed;
    alike = alike-pressed S s pressed;
    time = inl refl;
    ordered = sound.ordered;
    places = false;
    begun_full = λ e. cc;
    ended = with_pressed s pressed;
    follows = Follows.stays false wakes (with_pressed s pressed);
    ended_full = are_full;
    ended_off = off;
    given = None;
    given_fits = tt;
    after = refl;
  }

  thaws : (wakes : Bool) → Effect S wakes s (thaw S s)
  thaws wakes =
      let follows : Follows S false wakes (thawed s) (thaw S s) = (fill_freezable-follows S wakes (length S.queues) (thawed s) (thawed-sound S s sound).long).0 in
      record {
        begun = thawed s;
        alike = alike-limits S s s.max false;
        time = inl refl;
        ordered = sound.ordered;
        places = false;
        begun_full = λ e. cc;
        ended = thaw S s;
        follows = follows;
        ended_full = thaw-full S s sound are_full;
        ended_off = Follows-all_off S false wakes (thawed s) (thaw S s) follows off;
        given = None;
        given_fits = tt;
        after = refl;
      }

  limits : (wakes : Bool) (queue max : ℕ) → (flags_at S queue).ordered ≡ false → Effect S wakes s (set_max S s queue max)
  limits wakes queue max not_ordered =
      let follows : Follows S false wakes (limited s queue max) (set_max S s queue max) =
      (fill_pools-follows S wakes queue (pool_count S) (limited s queue max) (limited-sound S s queue max sound not_ordered).long).0 in
      record {
        begun = limited s queue max;
        alike = alike-limits S s (limited s queue max).max s.frozen;
        time = inl refl;
        ordered = limited-ordered S s queue max sound not_ordered;
        places = false;
        begun_full = λ e. cc;
        ended = set_max S s queue max;
        follows = follows;
        ended_full = set_max-full S s queue max sound not_ordered are_full;
        ended_off = Follows-all_off S false wakes (limited s queue max) (set_max S s queue max) follows off;
        given = None;
        given_fits = tt;
        after = refl;
      }

  -- another depth of a work, and then a chain of changes after which the work isn't pending
  deepens : (wakes : Bool) (w depth : ℕ) (t : State) → Follows S true wakes (with_depth s w depth) t → pending_at t w ≡ None → Effect S wakes s t
  deepens wakes w depth t follows idle =
      let begun = with_depth s w depth in
      let begun_sound : IsSound S begun = alike-sound S s begun (alike-depth S s w depth) sound sound.ordered in
      record {
        begun = begun;
        alike = alike-depth S s w depth;
        time = inl refl;
        ordered = sound.ordered;
        places = true;
        begun_full = λ e. are_full;
        ended = t;
        follows = follows;
        ended_full = λ queue pool. Follows-full S true wakes begun t queue pool follows begun_sound (are_full queue pool);
        ended_off = Follows-off_but S true wakes s t w depth follows off idle;
        given = None;
        given_fits = tt;
        after = refl;
      }

  -- The table's words.

  queued-effect : (wakes : Bool) (w cpu : ℕ) (o : Option Pending) → w < length S.works → cpu < S.cpus → depth_at s w ≡ 0 → pending_at s w ≡ o
      → Effect S wakes s (queued S s w cpu o).0
  queued-effect wakes w cpu (Some p) h there enabled is = nothing wakes
  queued-effect wakes w cpu None h there enabled is = changes wakes (place S s w cpu) (place-follows S wakes s w cpu sound h there is enabled)

  delayed-effect : (wakes : Bool) (w cpu delay : ℕ) (o : Option Pending) → w < length S.works → cpu < S.cpus → depth_at s w ≡ 0 → pending_at s w ≡ o
      → Effect S wakes s (delayed S s w cpu delay o).0
  delayed-effect wakes w cpu delay (Some p) h there enabled is = nothing wakes
  delayed-effect wakes w cpu delay None h there enabled is =
      changes wakes (place_after S s w cpu delay) (place_after-follows S wakes s w cpu delay sound h there is enabled)

  modified-effect : (wakes : Bool) (w cpu delay : ℕ) (o : Option Pending) → w < length S.works → cpu < S.cpus → depth_at s w ≡ 0 → pending_at s w ≡ o
      → Effect S wakes s (modified S s w cpu delay o).0
  modified-effect wakes w cpu delay (Some p) h there enabled is =
      let taken = taken_off S s w (Some p) in
      let stops : Stops S wakes s taken w = stops-taken_off S wakes s w p sound h is in
      let enabled_then : depth_at taken w ≡ 0 = ap (λ (depth : List ℕ). slice_index_or depth w 0) (Follows-depth S true wakes s taken stops.follows) ∙ enabled in
      changes wakes (place_after S taken w cpu delay)
      (Follows-then S true wakes s taken (place_after S taken w cpu delay) stops.follows (place_after-follows S wakes taken w cpu delay (Follows-sound S true wakes s taken stops.follows sound) h there stops.stopped enabled_then))
  modified-effect wakes w cpu delay None h there enabled is =
      changes wakes (place_after S s w cpu delay) (place_after-follows S wakes s w cpu delay sound h there is enabled)

  cancelled-effect : (wakes : Bool) (w : ℕ) (o : Option Pending) → w < length S.works → pending_at s w ≡ o → Effect S wakes s (cancelled S s w o).0
  cancelled-effect wakes w (Some p) h is = changes wakes (taken_off S s w (Some p)) (take_off-follows S wakes s w (Some p) sound h is)
  cancelled-effect wakes w None h is = nothing wakes

  disabled-effect : (wakes : Bool) (w : ℕ) (o : Option Pending) → w < length S.works → pending_at s w ≡ o → Effect S wakes s (disabled S s w o).0
  disabled-effect wakes w (Some p) h is =
      let begun = with_depth s w (depth_at s w + 1) in
      let begun_sound : IsSound S begun = alike-sound S s begun (alike-depth S s w (depth_at s w + 1)) sound sound.ordered in
      let stops : Stops S wakes begun (taken_off S begun w (Some p)) w = stops-taken_off S wakes begun w p begun_sound h is in
      deepens wakes w (depth_at s w + 1) (taken_off S begun w (Some p)) stops.follows stops.stopped
  disabled-effect wakes w None h is =
      let begun = with_depth s w (depth_at s w + 1) in
      deepens wakes w (depth_at s w + 1) begun (Follows.stays true wakes begun) is

  enabled-effect : (wakes : Bool) (w depth : ℕ) → 0 < depth_at s w → Effect S wakes s (enabled s w depth).0
  enabled-effect wakes w depth deep = deepens wakes w depth (with_depth s w depth) (Follows.stays true wakes (with_depth s w depth)) (off w deep)

  fired-effect : (wakes : Bool) (o : Option ℕ) → ((w : ℕ) → o ≡ Some w → w < length S.works) → Effect S wakes s (fired_first S s o).0
  fired-effect wakes (Some w) there = changes wakes (fire S s w) (fired-follows S wakes s w (pending_at s w) sound off (there w refl) refl)
  fired-effect wakes None there = nothing wakes

  stepped-effect : (pool : ℕ) (o : Option Move) → next_move S s pool ≡ o → Effect S (tells_wake (stepped S s pool o).1) s (stepped S s pool o).0
  stepped-effect pool (Some move) is = changes (tells_wake (stepped S s pool (Some move)).1) (moved S s pool move).0 (moved-follows S s pool move setting sound (next_move-fits S s pool move is))
  stepped-effect pool None is = nothing false

  step_or_tick-effect : (o : Option ℕ) → first_moving S s ≡ o → Effect S (tells_wake (step_or_tick S s o).1) s (step_or_tick S s o).0
  step_or_tick-effect (Some pool) is = stepped-effect pool (next_move S s pool) refl
  step_or_tick-effect None is = ticks false is

-- births of what runs and of what pends lie below the next stamp

running-given : (S : ScenarioContents) (next w : ℕ) (r : Option Running) → FitsIfRunning S next w r → FitsTarget next (running_instance w r)
running-given S next w (Some r) fits = fits.born
running-given S next w None fits = tt

if-given : (next : ℕ) (b : Bool) (x y : FlushTarget) → FitsTarget next x → FitsTarget next y → FitsTarget next (cond b x y)
if-given next true x y here there = here
if-given next false x y here there = there

last-given : (S : ScenarioContents) (next w : ℕ) (o : Option Pending) (r : Option Running) → FitsIfPending S next w r o → FitsIfRunning S next w r
    → FitsTarget next (last_instance w o r)
last-given S next w (Some p) r fits running = if-given next (is_placed p.place) (target.Instance (record { 0 = w }) p.born) (running_instance w r) fits.born (running-given S next w r running)
last-given S next w None r fits running = running-given S next w r running

due-there : (before : ℕ → ℕ → Bool) (test : ℕ → Bool) (n : ℕ) (o : Option ℕ) → MatchFirst before test n o → (w : ℕ) → o ≡ Some w → w < n
due-there before test n (Some m) first w e = let same : m ≡ w = cc in let there : m < n = first.in_range in omega arith
due-there before test n None none w e = cc

pub first_due-there : (S : ScenarioContents) (s : State) (w : ℕ) → first_due S s ≡ Some w → w < length S.works
first_due-there S s w e =
    let before = λ (v w : ℕ). nat_lt (pending_due (pending_at s v)) (pending_due (pending_at s w)) || ((pending_due (pending_at s v) == pending_due (pending_at s w)) && nat_lt (pending_stamp (pending_at s v)) (pending_stamp (pending_at s w))) in
    let test = λ (w : ℕ). pends (λ place. is_due place s.time) (pending_at s w) in
    due-there before test (length S.works) (first_due S s) (first_below-is_first before test (length S.works) (by_least_two-order (λ w. pending_due (pending_at s w)) (λ w. pending_stamp (pending_at s w)))) w e

-- What an instruction that isn't refused tells.

granted : (b : Bool) (why : Refusal) → refuse_unless b why ≡ None → b ≡ true
granted true why e = refl
granted false why e = cc

both-granted : (a b : Option Refusal) → counts.or_else a b ≡ None → (a ≡ None) × (b ≡ None)
both-granted (Some why) b e = cc
both-granted None b e = (refl, e)

work-there : (S : ScenarioContents) (w : WorkId) → no_work S w ≡ None → w.0 < length S.works
work-there S w e = ltb-true w.0 (length S.works) (granted (nat_lt w.0 (length S.works)) NoSuchWork e)

work-and-cpu : (S : ScenarioContents) (w : WorkId) (cpu : ℕ) → no_work_or_cpu S w cpu ≡ None → (w.0 < length S.works) × (cpu < S.cpus)
work-and-cpu S w cpu e =
    let both = both-granted (no_work S w) (refuse_unless (nat_lt cpu S.cpus) NoSuchCpu) e in
    (work-there S w both.0, ltb-true cpu S.cpus (granted (nat_lt cpu S.cpus) NoSuchCpu both.1))

work-enabled : (s : State) (w : WorkId) → while_enabled s w ≡ None → depth_at s w.0 ≡ 0
work-enabled s w e = enabled-zero (depth_at s w.0) (granted (not (is_disabled s w.0)) Disabled e)

settled-if : (S : ScenarioContents) (s : State) (due moving : Option ℕ) → unsettled due moving ≡ None → moving ≡ None
settled-if S s (Some w) moving e = cc
settled-if S s None (Some pool) e = cc
settled-if S s None None e = refl

next-effect : (S : ScenarioContents) (s : State) (setting : IsSetting S) (sound : IsSound S s) (are_full : AreFull S s) (off : IsOff s) → (o : Option ℕ)
    → ((w : ℕ) → o ≡ Some w → w < length S.works) → Effect S (tells_wake (next S s o).1) s (next S s o).0
next-effect S s setting sound are_full off (Some w) there = fired-effect S s setting sound are_full off false (Some w) there
next-effect S s setting sound are_full off None there = step_or_tick-effect S s setting sound are_full off (first_moving S s) refl

next_unless-effect : (S : ScenarioContents) (s : State) (setting : IsSetting S) (sound : IsSound S s) (are_full : AreFull S s) (off : IsOff s) → (met : Bool)
    → Effect S (tells_wake (next_unless S s met).1) s (next_unless S s met).0
next_unless-effect S s setting sound are_full off true = nothing S s setting sound are_full off false
next_unless-effect S s setting sound are_full off false = next-effect S s setting sound are_full off (first_due S s) (first_due-there S s)

-- The table gives such an effect.
pub effect-is : (S : ScenarioContents) (s : State) (i : Instr) → IsSetting S → IsSound S s → AreFull S s → IsOff s → operands S s i ≡ None
    → situation S s i ≡ None → Effect S (tells_wake (effect S s i).1) s (effect S s i).0
effect-is S s (instr.Queue w cpu) setting sound are_full off operands_fit situation_fits =
    let there = work-and-cpu S w cpu operands_fit in
    queued-effect S s setting sound are_full off (tells_wake (queued S s w.0 cpu (pending_at s w.0)).1) w.0 cpu (pending_at s w.0) there.0 there.1 (work-enabled s w situation_fits) refl
effect-is S s (instr.Delay w cpu ticks) setting sound are_full off operands_fit situation_fits =
    let there = work-and-cpu S w cpu operands_fit in
    delayed-effect S s setting sound are_full off (tells_wake (delayed S s w.0 cpu ticks (pending_at s w.0)).1) w.0 cpu ticks (pending_at s w.0) there.0 there.1 (work-enabled s w situation_fits) refl
effect-is S s (instr.Mod w cpu ticks) setting sound are_full off operands_fit situation_fits =
    let there = work-and-cpu S w cpu operands_fit in
    modified-effect S s setting sound are_full off (tells_wake (modified S s w.0 cpu ticks (pending_at s w.0)).1) w.0 cpu ticks (pending_at s w.0) there.0 there.1 (work-enabled s w situation_fits) refl
effect-is S s (instr.Cancel w) setting sound are_full off operands_fit situation_fits =
    cancelled-effect S s setting sound are_full off (tells_wake (cancelled S s w.0 (pending_at s w.0)).1) w.0 (pending_at s w.0) (work-there S w operands_fit) refl
effect-is S s (instr.CancelSync w) setting sound are_full off operands_fit situation_fits =
    let u = take_off S s w.0 in
    let follows : Follows S true false s u = take_off-follows S false s w.0 (pending_at s w.0) sound (work-there S w operands_fit) refl in
    let sound_then : IsSound S u = Follows-sound S true false s u follows sound in
    gives S s setting sound are_full off false u (Some (running_instance w.0 (running_at u w.0))) follows (running-given S u.next w.0 (running_at u w.0) (sound_then.works w.0).running)
effect-is S s (instr.Flush w) setting sound are_full off operands_fit situation_fits =
    gives S s setting sound are_full off false s (Some (last_instance w.0 (pending_at s w.0) (running_at s w.0))) (Follows.stays true false s)
    (last-given S s.next w.0 (pending_at s w.0) (running_at s w.0) (sound.works w.0).pending (sound.works w.0).running)
effect-is S s (instr.FlushDelayed w) setting sound are_full off operands_fit situation_fits =
    let u = fire S s w.0 in
    let follows : Follows S true false s u = fired-follows S false s w.0 (pending_at s w.0) sound off (work-there S w operands_fit) refl in
    let sound_then : IsSound S u = Follows-sound S true false s u follows sound in
    gives S s setting sound are_full off false u (Some (last_instance w.0 (pending_at u w.0) (running_at u w.0))) follows
    (last-given S u.next w.0 (pending_at u w.0) (running_at u w.0) (sound_then.works w.0).pending (sound_then.works w.0).running)
effect-is S s (instr.FlushQueue q) setting sound are_full off operands_fit situation_fits =
    gives S s setting sound are_full off false s (Some (target.Queue q s.next)) (Follows.stays true false s) (omega arith)
effect-is S s (instr.SetMax q max) setting sound are_full off operands_fit situation_fits =
    limits S s setting sound are_full off false q.0 max (not-true (flags_at S q.0).ordered (granted (not (flags_at S q.0).ordered) Ordered situation_fits))
effect-is S s instr.Freeze setting sound are_full off operands_fit situation_fits = freezes S s setting sound are_full off false
effect-is S s instr.Thaw setting sound are_full off operands_fit situation_fits = thaws S s setting sound are_full off false
effect-is S s instr.Fire setting sound are_full off operands_fit situation_fits =
    fired-effect S s setting sound are_full off (tells_wake (fired_first S s (first_due S s)).1) (first_due S s) (first_due-there S s)
effect-is S s (instr.Step pool) setting sound are_full off operands_fit situation_fits = stepped-effect S s setting sound are_full off pool (next_move S s pool) refl
effect-is S s instr.Tick setting sound are_full off operands_fit situation_fits =
    ticks S s setting sound are_full off false (settled-if S s (first_due S s) (first_moving S s) situation_fits)
effect-is S s instr.Next setting sound are_full off operands_fit situation_fits = next-effect S s setting sound are_full off (first_due S s) (first_due-there S s)
effect-is S s (instr.Ask flush) setting sound are_full off operands_fit situation_fits = nothing S s setting sound are_full off (tells_wake (effect S s (instr.Ask flush)).1)
effect-is S s instr.Busy setting sound are_full off operands_fit situation_fits = nothing S s setting sound are_full off (tells_wake (effect S s instr.Busy).1)
effect-is S s (instr.State w) setting sound are_full off operands_fit situation_fits = nothing S s setting sound are_full off false
effect-is S s (instr.Disable w) setting sound are_full off operands_fit situation_fits =
    disabled-effect S s setting sound are_full off (tells_wake (disabled S s w.0 (pending_at s w.0)).1) w.0 (pending_at s w.0) (work-there S w operands_fit) refl
effect-is S s (instr.Enable w) setting sound are_full off operands_fit situation_fits =
    enabled-effect S s setting sound are_full off (tells_wake (enabled s w.0 (depth_at s w.0 - 1)).1) w.0 (depth_at s w.0 - 1) (disabled-deep (depth_at s w.0) (granted (is_disabled s w.0) NotDisabled situation_fits))
effect-is S s instr.Pressure setting sound are_full off operands_fit situation_fits = presses S s setting sound are_full off false true
effect-is S s instr.Relief setting sound are_full off operands_fit situation_fits = presses S s setting sound are_full off false false
effect-is S s (instr.Until time) setting sound are_full off operands_fit situation_fits = next_unless-effect S s setting sound are_full off (is_met S s (instr.Until time))
effect-is S s (instr.Wait flush) setting sound are_full off operands_fit situation_fits = next_unless-effect S s setting sound are_full off (is_met S s (instr.Wait flush))
effect-is S s instr.Quiet setting sound are_full off operands_fit situation_fits = next_unless-effect S s setting sound are_full off (is_met S s instr.Quiet)
