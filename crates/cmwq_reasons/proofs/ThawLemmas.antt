-- An inactive work of a queue that may have no active one stays inactive, whatever the machine does by itself.
use Rattle.std.proofs.Common.{◌≡◌, ◌⊎◌, ℕ, zero, suc, ◌<◌, Bool, true, false, not, cond, ◌&&◌, List, [], ◌∷◌, ◌++◌, length, Option, Some, None, arith, refl, sym, ap, ◌∙◌, subst, inl, inr}
use Rattle.std.proofs.lemmas.Bool.{and_from, eqb-true, ltb-true, ne_eqb, or_left}
use Rattle.std.proofs.lemmas.List.{get_or-set_other}
use Rattle.std.specs.Prelude.{nat_lt, slice_index_or, slice_set, ◌==◌}
use Rattle.cmwq_types.specs.Contents.{ScenarioContents}
use Rattle.cmwq_types.specs.Scenario.{flags_at, queue_of}
use Rattle.cmwq_types.specs.declared.instr.Instr.{Instr}
use Rattle.cmwq_types.specs.declared.instr.WorkId.{WorkId}
use Rattle.cmwq_types.specs.declared.moves.Move.{Move}
use Rattle.cmwq_types.specs.declared.reply.Event.{Event}
use Rattle.cmwq_types.specs.declared.reply.Place.{Place}
use Rattle.cmwq_types.specs.declared.reply.Place.TheVariants.{Timer, Inactive, Listed, Deferred}
use Rattle.cmwq_types.specs.declared.reply.Reply.{Reply}
use Rattle.cmwq_table.specs.declared.state.FlushTarget.{FlushTarget}
use Rattle.cmwq_table.specs.declared.state.FlushTarget.TheVariants as target
use Rattle.cmwq_table.specs.declared.state.Pending.{Pending}
use Rattle.cmwq_table.specs.State.{State, pending_at, running_at}
use Rattle.cmwq_table.specs.Changes.{Acts, Does, Effect, Fills, MoveFits, Turn}
use Rattle.cmwq_table.specs.Counts.{active, first_inactive, has_instance, has_room, is_deferred, is_done, is_listed, is_placed, limit, pends, placed_born, queued_before, runs}
use Rattle.cmwq_table.specs.Moves.{become_idle, begin_again, onward, retire, with_pending, with_running}
use Rattle.cmwq_table.specs.Table.{after_all, table}
use Rattle.cmwq_table.specs.Told.{cancelled_by, taken_off_in}
use Rattle.cmwq_table.proofs.Doings.{table-does}
use Rattle.cmwq_reasons.specs.declared.reason.Instance.{Instance}
use Rattle.cmwq_reasons.specs.declared.reason.Instance.TheVariants as instance
use Rattle.cmwq_reasons.specs.Laws.{AreMoves, InAnyState, IsAmong, WaitsForThaw, is_move, NoBodyTakesOff}
use Rattle.cmwq_reasons.specs.Reasons.{birth, has_thaw_to_come, instances_born, pending_half, put_all_by_birth, put_by_birth, running_half, waits, waits_below}
use Rattle.cmwq_reasons.proofs.BelowLemmas.{count-some}
use Rattle.cmwq_reasons.proofs.MoverLemmas.{activated-fits}
use Rattle.cmwq_reasons.proofs.PendingRows.{pending-work}
use Rattle.cmwq_reasons.proofs.RestLemmas.{Settings, retired, settings}
use Rattle.cmwq_reasons.proofs.Saying.{move-sets, table-leaves, took-apart}

-- w is inactive, and its queue may have no active work item
record Stuck (S : ScenarioContents) (w pool : ℕ) (p : Pending) (s : State) : Type 0 where
  is : pending_at s w ≡ Some p
  waits : p.place ≡ Inactive pool
  none : limit S s (queue_of S w) ≡ 0

module _ (S : ScenarioContents) (w pool : ℕ) (p : Pending) where
  stuck-then : (s t : State) → settings t ≡ settings s → pending_at t w ≡ pending_at s w → Stuck S w pool p s → Stuck S w pool p t
  stuck-then s t same pending stuck = record {
    is = pending ∙ stuck.is;
    waits = stuck.waits;
    none = ap (λ (x : Settings). cond (x.frozen && (flags_at S (queue_of S w)).freezable) 0 (slice_index_or x.max (queue_of S w) 0)) same ∙ stuck.none;
  }

  -- another work item is pending otherwise
  other-stuck : (s t : State) (v : ℕ) (o : Option Pending) → (w ≡ v → ⊥) → t.pending ≡ slice_set s.pending v o → settings t ≡ settings s → Stuck S w pool p s → Stuck S w pool p t
  other-stuck s t v o apart wrote same =
      stuck-then s t same (ap (λ (pending : List (Option Pending)). slice_index_or pending w None) wrote ∙ get_or-set_other s.pending v w o None apart)

  off-stuck : (s : State) (v : ℕ) → (w ≡ v → ⊥) → Stuck S w pool p s → Stuck S w pool p (with_pending s v None)
  off-stuck s v apart = other-stuck s (with_pending s v None) v None apart refl refl

  -- who is in another place is another work item
  apart-place : (s : State) (v : ℕ) (test : Place → Bool) → Stuck S w pool p s → pends test (pending_at s v) ≡ true → test (Inactive pool) ≡ false → w ≡ v → ⊥
  apart-place s v test stuck there fails same =
      let here : pends test (pending_at s v) ≡ test (Inactive pool) = ap (λ (k : ℕ). pends test (pending_at s k)) (sym same) ∙ ap (pends test) stuck.is ∙ ap test stuck.waits in
      cc

  apart-none : (s : State) (v : ℕ) → Stuck S w pool p s → pending_at s v ≡ None → w ≡ v → ⊥
  apart-none s v stuck none same = (let is : pending_at s v ≡ Some p = ap (pending_at s) (sym same) ∙ stuck.is in cc)

  no-room : (s : State) (queue at v : ℕ) → Stuck S w pool p s → first_inactive S s queue at ≡ Some v → has_room S s queue at ≡ true → w ≡ v → ⊥
  no-room s queue at v stuck found room same =
      let of_queue : queue_of S w ≡ queue = eqb-true (queue_of S w) queue (activated-fits S s queue at w (found ∙ ap Some (sym same))).0 in
      let none : limit S s queue ≡ 0 = ap (limit S s) (sym of_queue) ∙ stuck.none in
      let more : active S s queue at < limit S s queue = ltb-true (active S s queue at) (limit S s queue) room in
      omega arith

  fills-stuck : (s t : State) → Fills S s t → Stuck S w pool p s → Stuck S w pool p t
  fills-stuck s t Fills.stays stuck = stuck
  fills-stuck s t (Fills.more u queue at v filling first room) stuck =
      let before = fills-stuck s u filling stuck in other-stuck u t v _ (no-room u queue at v before first room) refl refl before

  turn-stuck : (s t : State) (v : ℕ) (took put : Bool) → Turn S s v took put t → (took ≡ true → w ≡ v → ⊥) → Stuck S w pool p s → Stuck S w pool p t
  turn-stuck s t v took put (Turn.fills u filling) apart stuck = fills-stuck s u filling stuck
  turn-stuck s t v took put (Turn.puts cpu ticks may enabled none) apart stuck = other-stuck s t v _ (apart-none s v stuck none) refl refl stuck
  turn-stuck s t v took put (Turn.fires q due cpu is at) apart stuck =
      let other = apart-place s v (λ place. not (is_placed place)) stuck (ap (pends (λ place. not (is_placed place))) is ∙ ap (λ (place : Place). not (is_placed place)) at) refl in
      other-stuck (with_pending s v None) t v _ other refl refl (off-stuck s v other stuck)
  turn-stuck s t v took put (Turn.takes q u is filling) apart stuck = fills-stuck (with_pending s v None) u filling (off-stuck s v (apart refl) stuck)
  turn-stuck s t v took put (Turn.changes q u cpu ticks may enabled is filling) apart stuck =
      other-stuck u t v _ (apart refl) refl refl (fills-stuck (with_pending s v None) u filling (off-stuck s v (apart refl) stuck))

  acts-stuck : (s t : State) (at : ℕ) (move : Move) (e : Event) → MoveFits S s at move → (taken_off_in e ≡ Some w → ⊥) → Acts S s at move e t → Stuck S w pool p s → Stuck S w pool p t
  acts-stuck s t at move e fits left (Acts.starts v worker q free is) stuck =
      other-stuck s t v.0 None (apart-place s v.0 (λ place. is_listed place at) stuck fits.0.taken.listed refl) refl refl stuck
  acts-stuck s t at move e fits left (Acts.rescues v q is) stuck =
      other-stuck s t v.0 None (apart-place s v.0 (λ place. is_listed place at) stuck fits.0.taken.listed refl) refl refl stuck
  acts-stuck s t at move e fits left (Acts.defers v q is) stuck = other-stuck s t v.0 _ (apart-place s v.0 (λ place. is_listed place at) stuck fits.0.listed refl) refl refl stuck
  acts-stuck s t at move e fits left (Acts.asks v r o e1 u took put x is named asking turn) stuck =
      turn-stuck (onward s v.0 r) x u took put turn (took-apart w u took (taken_off_in e) asking.takes left) (stuck-then s (onward s v.0 r) refl refl stuck)
  acts-stuck s t at move e fits left (Acts.ends v r u is named none filling) stuck =
      fills-stuck (retire s v.0 r) u filling (retired (Stuck S w pool p) s v.0 r (stuck-then s (with_running s v.0 None) refl refl stuck) (stuck-then s (become_idle s v.0 r) refl refl stuck))
  acts-stuck s t at move e fits left (Acts.again v r q u is named some deferred filling) stuck =
      let begun = begin_again s v.0 r q in
      fills-stuck begun u filling (other-stuck s begun v.0 None (apart-place s v.0 is_deferred stuck (ap (pends is_deferred) some ∙ deferred) refl) refl refl stuck)
  acts-stuck s t at move e fits left acting stuck = stuck-then s t refl refl stuck

  effect-stuck : (s t : State) (i : Instr) (r : Reply) → is_move i ≡ true → (cancelled_by i r ≡ Some w → ⊥) → Effect S s i t r → Stuck S w pool p s → Stuck S w pool p t
  effect-stuck s t i r move left (Effect.acts at m e u shallow there is fits acting) stuck = acts-stuck s u at m e fits left acting stuck
  effect-stuck s t i r move left (Effect.fires v u shallow due turn) stuck = turn-stuck s u v false false turn (λ no. cc) stuck
  effect-stuck s t i r move left (Effect.passes shallow due moving) stuck = stuck-then s t refl refl stuck
  effect-stuck s t i r move left (Effect.answers b u v took put told set turn answer) stuck =
      turn-stuck b u v took put turn (took-apart w v took (cancelled_by i told) answer.takes left) (subst (Stuck S w pool p) (sym (move-sets s b i move set)) stuck)
  effect-stuck s t i r move left (Effect.gives u v took put f told shallow turn answer) stuck =
      stuck-then u t refl refl (turn-stuck s u v took put turn (took-apart w v took (cancelled_by i told) answer.takes left) stuck)

  does-stuck : (s t : State) (i : Instr) (r : Reply) → is_move i ≡ true → (cancelled_by i r ≡ Some w → ⊥) → Does S s i t r → Stuck S w pool p s → Stuck S w pool p t
  does-stuck s t i r move left (Does.refused why) stuck = stuck
  does-stuck s t i r move left (Does.done u told spent fits effect) stuck = stuck-then u t refl refl (effect-stuck s u i told move left effect stuck)

  all-stuck : NoBodyTakesOff S w → (s : State) (later : List Instr) → Stuck S w pool p s → AreMoves later → Stuck S w pool p (after_all S s later)
  all-stuck left_alone s [] stuck moves = stuck
  all-stuck left_alone s (i ∷ later) stuck moves =
      let t = (table S s i).0 in
      all-stuck left_alone t later (does-stuck s t i (table S s i).1 moves.0 (table-leaves S w left_alone s i moves.0) (table-does S s i) stuck) moves.1

-- Who is waited for.

halves-among : (a b : Bool) (w : WorkId) (v : ℕ) → IsAmong (instance.Pending w) (cond a (pending_half v ∷ []) [] ++ cond b (running_half v ∷ []) []) → (w.0 ≡ v) × (a ≡ true)
halves-among true b w v (inl is) = (ap pending-work is, refl)
halves-among true true w v (inr (inl is)) = cc
halves-among true true w v (inr (inr none)) = absurd none
halves-among true false w v (inr none) = absurd none
halves-among false true w v (inl is) = cc
halves-among false true w v (inr none) = absurd none
halves-among false false w v none = absurd none

cond-among : (b : Bool) (x y z : Instance) (zs rest : List Instance) → IsAmong x (cond b (y ∷ z ∷ zs) (z ∷ rest)) → (IsAmong x rest → (x ≡ y) ⊎ IsAmong x zs)
    → (x ≡ y) ⊎ IsAmong x (z ∷ zs)
cond-among true x y z zs rest (inl is) later = inl is
cond-among true x y z zs rest (inr there) later = inr there
cond-among false x y z zs rest (inl is) later = inr (inl is)
cond-among false x y z zs rest (inr there) later = elim (later there) [ inl is ↦ inl is | inr old ↦ inr (inr old) ]

put-among : (s : State) (x y : Instance) (ys : List Instance) → IsAmong x (put_by_birth s y ys) → (x ≡ y) ⊎ IsAmong x ys
put-among s x y [] there = there
put-among s x y (z ∷ zs) there = cond-among (nat_lt (birth s y) (birth s z)) x y z zs (put_by_birth s y zs) there (put-among s x y zs)

all-among : (s : State) (x : Instance) (xs ys : List Instance) → IsAmong x (put_all_by_birth s xs ys) → IsAmong x xs ⊎ IsAmong x ys
all-among s x [] ys there = inr there
all-among s x (y ∷ xs) ys there = elim (put-among s x y (put_all_by_birth s xs ys) there) [
  | inl is ↦ inl (inl is)
  | inr later ↦ elim (all-among s x xs ys later) [ inl old ↦ inl (inr old) | inr new ↦ inr new ]
]

born-among : (s : State) (test : ℕ → Bool) (w : WorkId) (v : ℕ) → IsAmong (instance.Pending w) (instances_born s test v) → (w.0 ≡ v) × (placed_born test (pending_at s v) ≡ true)
born-among s test w v there = halves-among (placed_born test (pending_at s v)) (runs (λ r. test r.born) (running_at s v)) w v there

-- the work is one of the queue's first n, and was queued before
record Waited (S : ScenarioContents) (s : State) (queue bound n w : ℕ) : Type 0 where
  within : w < n
  of_queue : (queue_of S w == queue) ≡ true
  placed : placed_born (λ born. nat_lt born bound) (pending_at s w) ≡ true

queue-among : (S : ScenarioContents) (s : State) (queue bound n : ℕ) (w : WorkId) (b : Bool) → (queue_of S n == queue) ≡ b
    → IsAmong (instance.Pending w) (cond b (instances_born s (λ born. nat_lt born bound) n) []) → Waited S s queue bound (suc n) w.0
queue-among S s queue bound n w true e there =
    let found = born-among s (λ born. nat_lt born bound) w n there in
    subst (λ (k : ℕ). Waited S s queue bound (suc n) k) (sym found.0) (record { within = omega arith; of_queue = e; placed = found.1 })
queue-among S s queue bound n w false e there = absurd there

below-among : (S : ScenarioContents) (s : State) (queue bound n : ℕ) (w : WorkId) → IsAmong (instance.Pending w) (waits_below S s queue bound n)
    → Waited S s queue bound n w.0
below-among S s queue bound zero w there = absurd there
below-among S s queue bound (suc n) w there =
    elim (all-among s (instance.Pending w) (cond (queue_of S n == queue) (instances_born s (λ born. nat_lt born bound) n) []) (waits_below S s queue bound n) there) [
      | inl here ↦ queue-among S s queue bound n w (queue_of S n == queue) refl here
      | inr later ↦ (let old = below-among S s queue bound n w later in record { within = omega (arith, old.within); of_queue = old.of_queue; placed = old.placed })
    ]

stuck-here : (S : ScenarioContents) (s : State) (w : ℕ) (o : Option Pending) → pending_at s w ≡ o → pends (has_thaw_to_come S s w) o ≡ true
    → (pool : ℕ) × (p : Pending) × Stuck S w pool p s
stuck-here S s w (Some p) is lacks = placed p.place refl lacks
  where
    placed : (at : Place) → p.place ≡ at → has_thaw_to_come S s w at ≡ true → (pool : ℕ) × (p : Pending) × Stuck S w pool p s
    placed (Inactive pool) at none = (pool, p, record { is = is; waits = at; none = eqb-true (limit S s (queue_of S w)) 0 none })
    placed (Listed pool) at none = cc
    placed (Timer due cpu) at none = cc
    placed (Deferred pool) at none = cc
stuck-here S s w None is lacks = cc

-- what pends as before keeps its flush waiting
still-placed : (s t : State) (w : ℕ) (test : ℕ → Bool) → pending_at t w ≡ pending_at s w → placed_born test (pending_at s w) ≡ true → has_instance t w test ≡ true
still-placed s t w test same placed =
    or_left (placed_born test (pending_at t w)) (runs (λ r. test r.born) (running_at t w)) (ap (placed_born test) same ∙ placed)

-- what is placed, and is then still there, keeps its flush waiting
pub waits-still : (S : ScenarioContents) (s t : State) (target : FlushTarget) (w : WorkId)
    → ((test : ℕ → Bool) → placed_born test (pending_at s w.0) ≡ true → has_instance t w.0 test ≡ true)
    → IsAmong (instance.Pending w) (waits S s target) → is_done S t target ≡ false
waits-still S s t (target.Instance work born) w stays there =
    elim (all-among s (instance.Pending w) (instances_born s (λ b. b == born) work.0) [] there) [
      | inl here ↦ (let found = born-among s (λ b. b == born) w work.0 here in
          ap not
          (subst (λ (k : ℕ). placed_born (λ b. b == born) (pending_at s k) ≡ true → has_instance t k (λ b. b == born) ≡ true) found.0 (stays (λ b. b == born)) found.1))
      | inr none ↦ absurd none
    ]
waits-still S s t (target.Queue queue bound) w stays there =
    let waited = below-among S s queue.0 bound (length S.works) w there in
    let there_still : has_instance t w.0 (λ born. nat_lt born bound) ≡ true = stays (λ born. nat_lt born bound) waited.placed in
    let passes : ((queue_of S w.0 == queue.0) && has_instance t w.0 (λ born. nat_lt born bound)) ≡ true =
    and_from (queue_of S w.0 == queue.0) (has_instance t w.0 (λ born. nat_lt born bound)) waited.of_queue there_still in
    ne_eqb (queued_before S t queue.0 bound) 0
    (count-some (λ v. (queue_of S v == queue.0) && has_instance t v (λ born. nat_lt born bound)) (length S.works) w.0 waited.within passes)
waits-still S s t target.Nothing w stays there = absurd there

pub waits_for_thaw : InAnyState WaitsForThaw
unfolding WaitsForThaw
waits_for_thaw S s target (instance.Pending w) there lacks left_alone later moves =
    let found = stuck-here S s w.0 (pending_at s w.0) refl lacks in
    let after : Stuck S w.0 found.0 found.1 (after_all S s later) = all-stuck S w.0 found.0 found.1 left_alone s later found.2 moves in
    waits-still S s (after_all S s later) target w (λ test placed. still-placed s (after_all S s later) w.0 test (after.is ∙ sym found.2.is) placed) there
waits_for_thaw S s target (instance.Running w) there lacks left_alone later moves = cc
