-- A work that lacks memory stays where it waits, whatever the machine does by itself.
use Rattle.std.proofs.Common.{◌≡◌, ◌⊎◌, ℕ, zero, suc, ◌+◌, ◌<◌, Bool, true, false, not, cond, ◌&&◌, List, [], ◌∷◌, length, Option, Some, None, arith, refl, sym, ap, ◌∙◌, subst, inl, inr}
use Rattle.std.proofs.lemmas.Bool.{and_from, and_parts, eqb-true, or_left}
use Rattle.std.proofs.lemmas.List.{get_or-set_other}
use Rattle.std.specs.Prelude.{is_some, nat_lt, slice_index_or, slice_set, ◌==◌}
use Rattle.cmwq_types.specs.Contents.{ScenarioContents}
use Rattle.cmwq_types.specs.First.{by_greatest, count_below}
use Rattle.cmwq_types.specs.Scenario.{flags_at, queue_of}
use Rattle.cmwq_types.specs.Setting.{IsSetting}
use Rattle.cmwq_types.specs.declared.instr.Instr.{Instr}
use Rattle.cmwq_types.specs.declared.limits.TheConstants.{RESCUER}
use Rattle.cmwq_types.specs.declared.moves.Move.{Move}
use Rattle.cmwq_types.specs.declared.reply.Event.{Event}
use Rattle.cmwq_types.specs.declared.reply.Place.{Place}
use Rattle.cmwq_types.specs.declared.reply.Place.TheVariants.{Timer, Inactive, Listed, Deferred}
use Rattle.cmwq_types.specs.declared.reply.Reply.{Reply}
use Rattle.cmwq_types.proofs.FirstLemmas.{by_greatest-order, first_below-is_first}
use Rattle.cmwq_types.proofs.SettingLemmas.{IsSetting-valid}
use Rattle.cmwq_table.specs.declared.state.Pending.{Pending}
use Rattle.cmwq_table.specs.declared.state.Running.{Running}
use Rattle.cmwq_table.specs.State.{State, idle_at, made_at, pending_at, running_at}
use Rattle.cmwq_table.specs.Changes.{Acts, Does, Effect, Fills, MoveFits, Turn}
use Rattle.cmwq_table.specs.Counts.{burns, free_worker, has_free_rescuer, idle_stamp, is_done, is_inactive, is_listed, is_placed, is_rescuer, last_idle, new_worker, or_else, pends, placed_born, runs_on_rescuer}
use Rattle.cmwq_table.specs.Counts as counts
use Rattle.cmwq_table.specs.Laws.{HasOneRescuer, InEveryState, IsNotReentrant, placed_in}
use Rattle.cmwq_table.specs.Moves.{become_idle, begin_again, begin_on, begun, burned, listed_at, one_less, onward, retire, started_on, with_pending}
use Rattle.cmwq_table.specs.Table.{after_all, run, table}
use Rattle.cmwq_table.specs.Told.{cancelled_by, taken_off_in}
use Rattle.cmwq_table.proofs.Doings.{table-does}
use Rattle.cmwq_reasons.specs.declared.reason.Instance.TheVariants as instance
use Rattle.cmwq_reasons.specs.Laws.{AreMoves, WaitsForRelief, is_move, NoBodyTakesOff}
use Rattle.cmwq_reasons.specs.Reasons.{has_relief_to_come, is_starved}
use Rattle.cmwq_reasons.proofs.MoverLemmas.{activated-fits, some-first}
use Rattle.cmwq_reasons.proofs.NoWorkerLemmas.{starved-parts}
use Rattle.cmwq_reasons.proofs.RestLemmas.{retired}
use Rattle.cmwq_reasons.proofs.Saying.{move-sets, table-leaves, took-apart}
use Rattle.cmwq_reasons.proofs.StaffLemmas.{run-staffed, table-staffed}
use Rattle.cmwq_reasons.proofs.ThawLemmas.{waits-still}
use Rattle.cmwq_reasons.proofs.WorkerLemmas.{IsStaffed, is_idle, post, post_of}

-- what holds of an entry holds of it once another entry is written, or this one is and it holds of what is written
set-kept : {A : Type 0} (P : Option A → Type 0) (xs : List (Option A)) (v w : ℕ) (o : Option A) → (v ≡ w → P o) → P (slice_index_or xs w None)
    → P (slice_index_or (slice_set xs v o) w None)
set-kept P [] v w o here old = old
set-kept P (x ∷ xs) zero zero o here old = here refl
set-kept P (x ∷ xs) zero (suc w) o here old = old
set-kept P (x ∷ xs) (suc v) zero o here old = old
set-kept P (x ∷ xs) (suc v) (suc w) o here old = set-kept P xs v w o (λ e. here (ap suc e)) old

-- it waits in the pool since then: inactive, or listed
abbrev WaitsIn : ℕ → ℕ → Option Pending → Type 0
WaitsIn pool born (Some p) = (p.born ≡ born) × ((p.place ≡ Inactive pool) ⊎ (p.place ≡ Listed pool))
WaitsIn pool born None = ⊥

listed-waits : (pool born at stamp : ℕ) (o : Option Pending) → pends (λ place. is_inactive place at) o ≡ true → WaitsIn pool born o
    → WaitsIn pool born (listed_at at stamp o)
listed-waits pool born at stamp (Some p) inactive waits = (waits.0, inr (ap Listed (sym (in_pool waits.1))))
  where
    in_pool : (p.place ≡ Inactive pool) ⊎ (p.place ≡ Listed pool) → pool ≡ at
    in_pool (inl is) = eqb-true pool at (sym (ap (λ (place : Place). is_inactive place at) is) ∙ inactive)
    in_pool (inr is) = (let fails : is_inactive p.place at ≡ false = ap (λ (place : Place). is_inactive place at) is in cc)
listed-waits pool born at stamp None inactive waits = absurd waits

-- w is one of a queue without a rescuer, and waits while memory is short in a pool that has made no worker
record Starved (w pool born : ℕ) (s : State) : Type 0 where
  pressed : s.pressed ≡ true
  none : made_at s pool ≡ 0
  still : running_at s w ≡ None
  waits : WaitsIn pool born (pending_at s w)

module _ (S : ScenarioContents) (setting : IsSetting S) (w pool born : ℕ) (no_rescuer : (flags_at S (queue_of S w)).mem_reclaim ≡ false) where
  starved-then : (s t : State) → t.pressed ≡ s.pressed → made_at t pool ≡ made_at s pool → (running_at s w ≡ None → running_at t w ≡ None)
      → (WaitsIn pool born (pending_at s w) → WaitsIn pool born (pending_at t w)) → Starved w pool born s → Starved w pool born t
  starved-then s t pressed made still waits starved =
      record { pressed = pressed ∙ starved.pressed; none = made ∙ starved.none; still = still starved.still; waits = waits starved.waits }

  -- another work item is pending otherwise
  other-starved : (s : State) (v next : ℕ) (o : Option Pending) → (w ≡ v → ⊥) → Starved w pool born s → Starved w pool born (record s { next = next; pending = slice_set s.pending v o })
  other-starved s v next o apart =
      starved-then s (record s { next = next; pending = slice_set s.pending v o }) refl refl (λ is. is) (λ is. set-kept (WaitsIn pool born) s.pending v w o (λ same. absurd (apart (sym same))) is)

  -- another work item runs otherwise, and a seat may change
  run-starved : (s : State) (v next : ℕ) (o : Option Running) (idle : List (Option ℕ)) → (w ≡ v → ⊥) → Starved w pool born s
      → Starved w pool born (record s { next = next; running = slice_set s.running v o; idle = idle })
  run-starved s v next o idle apart =
      starved-then s (record s { next = next; running = slice_set s.running v o; idle = idle }) refl refl (λ is. get_or-set_other s.running v w o None apart ∙ is) (λ is. is)

  -- both
  begun-starved : (s : State) (v at worker : ℕ) (q : Pending) → (w ≡ v → ⊥) → Starved w pool born s → Starved w pool born (begin_on s v at worker q)
  begun-starved s v at worker q apart starved =
      let off = with_pending s v None in run-starved off v (s.next + 1) (Some (begun q.born at worker s.next)) s.idle apart (other-starved s v s.next None apart starved)

  -- Who is another work item.

  runs-apart : (s : State) (v : ℕ) (r : Running) → Starved w pool born s → running_at s v ≡ Some r → w ≡ v → ⊥
  runs-apart s v r starved is same = (let still : running_at s v ≡ None = ap (running_at s) (sym same) ∙ starved.still in cc)

  timer-apart : (s : State) (v due cpu : ℕ) (q : Pending) → Starved w pool born s → pending_at s v ≡ Some q → q.place ≡ Timer due cpu → w ≡ v → ⊥
  timer-apart s v due cpu q starved is at same =
      let waits : WaitsIn pool born (Some q) = subst (WaitsIn pool born) (ap (pending_at s) same ∙ is) starved.waits in
      elim waits.1 [ inl inactive ↦ cc | inr listed ↦ cc ]

  none-apart : (s : State) (v : ℕ) → Starved w pool born s → pending_at s v ≡ None → w ≡ v → ⊥
  none-apart s v starved none same = subst (WaitsIn pool born) (ap (pending_at s) same ∙ none) starved.waits

  -- Filling.

  fills-starved : (s t : State) → Fills S s t → Starved w pool born s → Starved w pool born t
  fills-starved s t Fills.stays starved = starved
  fills-starved s t (Fills.more u queue at v filling first room) starved =
      let before = fills-starved s u filling starved in
      starved-then u t refl refl (λ is. is)
      (λ waits. set-kept (WaitsIn pool born) u.pending v w (listed_at at u.next (pending_at u v))
      (λ same. listed-waits pool born at u.next (pending_at u v) (activated-fits S u queue at v first).1 (subst (λ (k : ℕ). WaitsIn pool born (pending_at u k)) (sym same) waits)) waits)
      before

  -- Moves.

  turn-starved : (s t : State) (v : ℕ) (took put : Bool) → Turn S s v took put t → (took ≡ true → w ≡ v → ⊥) → Starved w pool born s → Starved w pool born t
  turn-starved s t v took put (Turn.fills u filling) apart starved = fills-starved s u filling starved
  turn-starved s t v took put (Turn.puts cpu ticks may enabled none) apart starved = other-starved s v (s.next + 1) _ (none-apart s v starved none) starved
  turn-starved s t v took put (Turn.fires q due cpu is at) apart starved =
      let other = timer-apart s v due cpu q starved is at in
      other-starved (with_pending s v None) v (s.next + 1) _ other (other-starved s v s.next None other starved)
  turn-starved s t v took put (Turn.takes q u is filling) apart starved = fills-starved (with_pending s v None) u filling (other-starved s v s.next None (apart refl) starved)
  turn-starved s t v took put (Turn.changes q u cpu ticks may enabled is filling) apart starved =
      other-starved u v (u.next + 1) _ (apart refl) (fills-starved (with_pending s v None) u filling (other-starved s v s.next None (apart refl) starved))

  -- the pool has no worker, and makes none
  none-free : (s : State) → IsStaffed S s → Starved w pool born s → free_worker S s pool ≡ None
  none-free s staffed starved = neither (last_idle S s pool) refl
    where
      neither : (o : Option ℕ) → last_idle S s pool ≡ o → or_else o (new_worker S s pool) ≡ None
      neither (Some k) found =
          let first = some-first (by_greatest (λ j. idle_stamp (idle_at s pool j))) (is_idle s pool) S.workers (last_idle S s pool)
          (first_below-is_first (by_greatest (λ j. idle_stamp (idle_at s pool j))) (is_idle s pool) S.workers (by_greatest-order (λ j. idle_stamp (idle_at s pool j)))) k found in
          let low : k < made_at s pool = staffed.idle pool k (omega (arith, first.0, setting.workers)) first.1 in
          let none : made_at s pool ≡ 0 = starved.none in
          absurd (omega arith)
      neither None found =
          ap (λ (pressed : Bool). cond (not pressed && nat_lt (made_at s pool) S.workers) (Some (made_at s pool)) None) starved.pressed

  listed-here : (at : ℕ) (o : Option Pending) → pends (λ place. is_listed place at) o ≡ true → WaitsIn pool born o → pool ≡ at
  listed-here at (Some p) there waits = in_pool waits.1
    where
      in_pool : (p.place ≡ Inactive pool) ⊎ (p.place ≡ Listed pool) → pool ≡ at
      in_pool (inl is) = (let fails : is_listed p.place at ≡ false = ap (λ (place : Place). is_listed place at) is in cc)
      in_pool (inr is) = eqb-true pool at (sym (ap (λ (place : Place). is_listed place at) is) ∙ there)
  listed-here at None there waits = absurd waits

  starts-starved : (s : State) (at v worker : ℕ) (q : Pending) → IsStaffed S s → free_worker S s at ≡ Some worker → pends (λ place. is_listed place at) (pending_at s v) ≡ true
      → Starved w pool born s → Starved w pool born (started_on s at v worker q)
  starts-starved s at v worker q staffed free listed starved =
      let away : pool ≡ at → ⊥ = λ same. (let no : None ≡ Some worker = sym (none-free s staffed starved) ∙ ap (free_worker S s) same ∙ free in cc) in
      let apart : w ≡ v → ⊥ = λ same. away (listed-here at (pending_at s w) (ap (λ (k : ℕ). pends (λ place. is_listed place at) (pending_at s k)) same ∙ listed) starved.waits) in
      starved-then s (started_on s at v worker q) refl (get_or-set_other s.made at pool (cond (worker == made_at s at) (worker + 1) (made_at s at)) 0 away)
      (λ is. get_or-set_other s.running v w (Some (begun q.born at worker s.next)) None apart ∙ is)
      (λ is. set-kept (WaitsIn pool born) s.pending v w None (λ same. absurd (apart (sym same))) is) starved

  runs-some : (o : Option Running) → is_some o ≡ true → o ≡ None → ⊥
  runs-some (Some r) e none = cc
  runs-some None e none = cc

  reclaims-not : (s : State) (v : ℕ) → has_free_rescuer S s (queue_of S v) ≡ true → w ≡ v → ⊥
  reclaims-not s v has same =
      let reclaims : (flags_at S (queue_of S v)).mem_reclaim ≡ true =
      (and_parts (flags_at S (queue_of S v)).mem_reclaim (count_below (λ k. (queue_of S k == queue_of S v) && runs_on_rescuer s k) (length S.works) == 0) has).0 in
      let not_so : (flags_at S (queue_of S v)).mem_reclaim ≡ false = ap (λ (k : ℕ). (flags_at S (queue_of S k)).mem_reclaim) (sym same) ∙ no_rescuer in
      cc

  acts-starved : (s t : State) (at : ℕ) (move : Move) (e : Event) → MoveFits S s at move → (taken_off_in e ≡ Some w → ⊥) → IsStaffed S s → Acts S s at move e t
      → Starved w pool born s → Starved w pool born t
  acts-starved s t at move e fits left staffed (Acts.starts v worker q free is) starved = starts-starved s at v.0 worker q staffed free fits.0.taken.listed starved
  acts-starved s t at move e fits left staffed (Acts.rescues v q is) starved = begun-starved s v.0 at RESCUER q (reclaims-not s v.0 fits.1) starved
  acts-starved s t at move e fits left staffed (Acts.defers v q is) starved =
      other-starved s v.0 s.next _ (λ same. runs-some (running_at s v.0) fits.1 (ap (running_at s) (sym same) ∙ starved.still)) starved
  acts-starved s t at move e fits left staffed (Acts.wakes v r is) starved = run-starved s v.0 (s.next + 1) _ s.idle (runs-apart s v.0 r starved is) starved
  acts-starved s t at move e fits left staffed (Acts.burns v r ticks is named) starved = run-starved s v.0 s.next _ s.idle (runs-apart s v.0 r starved is) starved
  acts-starved s t at move e fits left staffed (Acts.sleeps v r ticks is named) starved = run-starved s v.0 s.next _ s.idle (runs-apart s v.0 r starved is) starved
  acts-starved s t at move e fits left staffed (Acts.asks v r o e1 u took put x is named asking turn) starved =
      turn-starved (onward s v.0 r) x u took put turn (took-apart w u took (taken_off_in e) asking.takes left)
      (run-starved s v.0 s.next _ s.idle (runs-apart s v.0 r starved is) starved)
  acts-starved s t at move e fits left staffed (Acts.ends v r u is named none filling) starved =
      let apart = runs-apart s v.0 r starved is in
      fills-starved (retire s v.0 r) u filling
      (retired (Starved w pool born) s v.0 r (run-starved s v.0 s.next None s.idle apart starved) (run-starved s v.0 (s.next + 1) None (become_idle s v.0 r).idle apart starved))
  acts-starved s t at move e fits left staffed (Acts.again v r q u is named some deferred filling) starved =
      fills-starved (begin_again s v.0 r q) u filling (begun-starved s v.0 r.pool r.worker q (runs-apart s v.0 r starved is) starved)

  -- Instructions.

  still-burned : (f : ℕ → Option Running → Bool) (n : ℕ) (rs : List (Option Running)) (v : ℕ) → slice_index_or rs v None ≡ None
      → slice_index_or (burned f n rs) v None ≡ None
  still-burned f n [] v is = is
  still-burned f n (r ∷ rs) zero is = ap (λ (o : Option Running). cond (f n o) (one_less o) o) is ∙ none-less (f n None)
    where
      none-less : (b : Bool) → cond b (one_less None) None ≡ None
      none-less true = refl
      none-less false = refl
  still-burned f n (r ∷ rs) (suc v) is = still-burned f (n + 1) rs v is

  effect-starved : (s t : State) (i : Instr) (r : Reply) → is_move i ≡ true → (cancelled_by i r ≡ Some w → ⊥) → IsStaffed S s → Effect S s i t r → Starved w pool born s → Starved w pool born t
  effect-starved s t i r move left staffed (Effect.acts at m e u shallow there is fits acting) starved = acts-starved s u at m e fits left staffed acting starved
  effect-starved s t i r move left staffed (Effect.fires v u shallow due turn) starved = turn-starved s u v false false turn (λ no. cc) starved
  effect-starved s t i r move left staffed (Effect.passes shallow due moving) starved = starved-then s t refl refl (λ is. still-burned (burns S s) 0 s.running w is) (λ is. is) starved
  effect-starved s t i r move left staffed (Effect.answers b u v took put told set turn answer) starved =
      turn-starved b u v took put turn (took-apart w v took (cancelled_by i told) answer.takes left) (subst (Starved w pool born) (sym (move-sets s b i move set)) starved)
  effect-starved s t i r move left staffed (Effect.gives u v took put f told shallow turn answer) starved =
      starved-then u t refl refl (λ is. is) (λ is. is) (turn-starved s u v took put turn (took-apart w v took (cancelled_by i told) answer.takes left) starved)

  does-starved : (s t : State) (i : Instr) (r : Reply) → is_move i ≡ true → (cancelled_by i r ≡ Some w → ⊥) → IsStaffed S s → Does S s i t r → Starved w pool born s → Starved w pool born t
  does-starved s t i r move left staffed (Does.refused why) starved = starved
  does-starved s t i r move left staffed (Does.done u told spent fits effect) starved =
      starved-then u t refl refl (λ is. is) (λ is. is) (effect-starved s u i told move left staffed effect starved)

  all-starved : NoBodyTakesOff S w → (s : State) (later : List Instr) → IsStaffed S s → Starved w pool born s → AreMoves later → Starved w pool born (after_all S s later)
  all-starved left_alone s [] staffed starved moves = starved
  all-starved left_alone s (i ∷ later) staffed starved moves =
      let t = (table S s i).0 in
      all-starved left_alone t later (table-staffed S setting s i staffed)
      (does-starved s t i (table S s i).1 moves.0 (table-leaves S w left_alone s i moves.0) staffed (table-does S s i) starved) moves.1

-- Who lacks memory.

-- what waits in a pool is placed
waits-placed : (pool born : ℕ) (test : ℕ → Bool) (o : Option Pending) → WaitsIn pool born o → test born ≡ true → placed_born test o ≡ true
waits-placed pool born test (Some p) waits passes = and_from (is_placed p.place) (test p.born) (placed waits.1) (ap test waits.0 ∙ passes)
  where
    placed : (p.place ≡ Inactive pool) ⊎ (p.place ≡ Listed pool) → is_placed p.place ≡ true
    placed (inl is) = ap is_placed is
    placed (inr is) = ap is_placed is
waits-placed pool born test None waits passes = absurd waits

placed-passes : (pool born : ℕ) (test : ℕ → Bool) (o : Option Pending) → WaitsIn pool born o → placed_born test o ≡ true → test born ≡ true
placed-passes pool born test (Some p) waits placed = ap test (sym waits.0) ∙ (and_parts (is_placed p.place) (test p.born) placed).1
placed-passes pool born test None waits placed = absurd waits

-- the work lacks memory in the pool
record Short (S : ScenarioContents) (s : State) (w pool born : ℕ) : Type 0 where
  no_rescuer : (flags_at S (queue_of S w)).mem_reclaim ≡ false
  starved : Starved w pool born s

short-here : (S : ScenarioContents) (s : State) (w : ℕ) (p : Pending) → IsStaffed S s → IsNotReentrant S s → HasOneRescuer S s → pending_at s w ≡ Some p
    → has_relief_to_come S s w p.place ≡ true → (pool : ℕ) × Short S s w pool p.born
unfolding IsNotReentrant HasOneRescuer
short-here S s w p staffed apart rescuers is lacks = placed p.place refl lacks
  where
    idle : (pool : ℕ) → made_at s pool ≡ 0 → (flags_at S (queue_of S w)).mem_reclaim ≡ false → placed_in p.place ≡ Some pool → is_placed p.place ≡ true
        → (o : Option Running) → running_at s w ≡ o → o ≡ None
    idle pool none no_rescuer in_pool there (Some r) runs = by_worker (is_rescuer r.worker) refl
      where
        by_worker : (b : Bool) → is_rescuer r.worker ≡ b → Some r ≡ None
        by_worker true e = (let reclaims = rescuers.0 w (ap (λ (o : Option Running). counts.runs (λ q. is_rescuer q.worker) o) runs ∙ e) in absurd cc)
        by_worker false e =
            let same : Some r.pool ≡ Some pool = sym ((apart w p is).0 r runs there) ∙ in_pool in
            let here : r.pool ≡ pool = cc in
            let low = (staffed.runs w r.pool r.worker (ap post runs ∙ ap (λ (b : Bool). cond b None (post_of r.pool r.worker)) e)).0 in
            let zero_made : made_at s r.pool ≡ 0 = ap (made_at s) here ∙ none in
            absurd (omega arith)
    idle pool none no_rescuer in_pool there None runs = refl

    short : (pool : ℕ) → is_starved S s w pool ≡ true → placed_in p.place ≡ Some pool → is_placed p.place ≡ true
        → (p.place ≡ Inactive pool) ⊎ (p.place ≡ Listed pool) → Short S s w pool p.born
    short pool starved in_pool there waits =
        let parts = starved-parts s.pressed (flags_at S (queue_of S w)).mem_reclaim (made_at s pool) starved in
        record {
          no_rescuer = parts.2;
          starved = record {
            pressed = parts.0;
            none = parts.1;
            still = idle pool parts.1 parts.2 in_pool there (running_at s w) refl;
            waits = subst (WaitsIn pool p.born) (sym is) (refl, waits);
          };
        }

    placed : (at : Place) → p.place ≡ at → has_relief_to_come S s w at ≡ true → (pool : ℕ) × Short S s w pool p.born
    placed (Inactive pool) at starved = (pool, short pool starved (ap placed_in at) (ap is_placed at) (inl at))
    placed (Listed pool) at starved = (pool, short pool starved (ap placed_in at) (ap is_placed at) (inr at))
    placed (Timer due cpu) at starved = cc
    placed (Deferred pool) at starved = cc

pub waits_for_relief : InEveryState IsNotReentrant → InEveryState HasOneRescuer → InEveryState WaitsForRelief
unfolding WaitsForRelief
waits_for_relief apart rescuers S valid instrs target (instance.Pending w) there lacks left_alone later moves = by_place (pending_at (run S instrs) w.0) refl lacks
  where
    by_place : (o : Option Pending) → pending_at (run S instrs) w.0 ≡ o → pends (has_relief_to_come S (run S instrs) w.0) o ≡ true
        → is_done S (after_all S (run S instrs) later) target ≡ false
    by_place (Some p) is lacks =
        let s = run S instrs in
        let staffed = run-staffed S valid instrs in
        let found = short-here S s w.0 p staffed (apart S valid instrs) (rescuers S valid instrs) is lacks in
        let after : Starved w.0 found.0 p.born (after_all S s later) =
        all-starved S (IsSetting-valid S valid) w.0 found.0 p.born found.1.no_rescuer left_alone s later staffed found.1.starved moves in
        waits-still S s (after_all S s later) target w
        (λ test placed. or_left (placed_born test (pending_at (after_all S s later) w.0)) (counts.runs (λ r. test r.born) (running_at (after_all S s later) w.0))
        (waits-placed found.0 p.born test (pending_at (after_all S s later) w.0) after.waits (placed-passes found.0 p.born test (pending_at s w.0) found.1.starved.waits placed))) there
    by_place None is lacks = cc
waits_for_relief apart rescuers S valid instrs target (instance.Running w) there lacks left_alone later moves = cc
