-- What an instruction makes of the pending half of each work item: it stays, is taken off, is placed anew, or is activated; or it is deferred,
-- with the stamp that it has.
use Rattle.std.proofs.Common.{◌≡◌, ℕ, zero, suc, ◌+◌, ◌<◌, ◌≤◌, Bool, true, false, cond, List, [], ◌∷◌, length, Option, Some, None, arith, refl, sym, ap, ◌∙◌, subst, inl, inr, ◌⊎◌}
use Rattle.std.proofs.lemmas.Bool.{eqb-true}
use Rattle.std.specs.Prelude.{◌&&◌, ◌==◌, nat_lt, slice_index_or, slice_set}
use Rattle.cmwq_types.specs.Contents.{ScenarioContents}
use Rattle.cmwq_types.specs.First.{MatchFirst}
use Rattle.cmwq_types.specs.Scenario.{queue_of}
use Rattle.cmwq_types.specs.declared.instr.Instr.{Instr}
use Rattle.cmwq_types.specs.declared.moves.Move.{Move}
use Rattle.cmwq_types.specs.declared.reply.Place.{Place}
use Rattle.cmwq_types.specs.declared.reply.Place.TheVariants.{Timer, Inactive, Listed, Deferred}
use Rattle.cmwq_types.proofs.FirstLemmas.{by_least-order, first_below-is_first}
use Rattle.cmwq_table.specs.Counts.{first_inactive, is_inactive, is_rescuer, pending_stamp, pends}
use Rattle.cmwq_table.specs.Moves.{become_idle, begin_again, deferred, enlist, listed_at, newborn, onward, retire, taking, tick, with_pending, with_running}
use Rattle.cmwq_table.specs.State.{State, pending_at}
use Rattle.cmwq_table.specs.Table.{answer, effect, next, table}
use Rattle.cmwq_table.specs.declared.state.Pending.{Pending}
use Rattle.cmwq_table.specs.declared.state.Running.{Running}
use Rattle.cmwq_types.specs.declared.reply.Event.{Event}
use Rattle.cmwq_types.specs.declared.reply.Reply.{Reply}
use Rattle.cmwq_table.specs.Changes.{Acts, Effect, Fills, Sets, Turn, place_for}
use Rattle.cmwq_table.specs.Changes as changes
use Rattle.cmwq_table.proofs.Doings.{table-does}

-- what may become of what pends of a work, from one next stamp to a later one
pub data Becomes (before after : ℕ) : Option Pending → Option Pending → Type 0 where
  stays : (o : Option Pending) → Becomes before after o o
  gone : (o : Option Pending) → Becomes before after o None
  fresh : (o : Option Pending) (q : Pending) → before ≤ q.born → q.born < after → before ≤ q.stamp → q.stamp < after → Becomes before after o (Some q)
  activated : (p : Pending) (stamp pool : ℕ) → p.place ≡ Inactive pool → before ≤ stamp → stamp < after → Becomes before after (Some p) (Some (record { born = p.born; stamp = stamp; place = Listed pool }))

fresh-later : (a b c : ℕ) (o : Option Pending) (p : Pending) (r : Option Pending) → a ≤ p.born → p.born < b → a ≤ p.stamp → p.stamp < b → a ≤ b → b ≤ c → Becomes b c (Some p) r → Becomes a c o r
fresh-later a b c o p r h i j k l m (Becomes.stays _) = Becomes.fresh o p h (omega (arith, i)) j (omega (arith, k))
fresh-later a b c o p r h i j k l m (Becomes.gone _) = Becomes.gone o
fresh-later a b c o p r h i j k l m (Becomes.fresh _ q x y z w) = Becomes.fresh o q (omega (arith, x)) y (omega (arith, z)) w
fresh-later a b c o p r h i j k l m (Becomes.activated _ stamp pool is x y) = Becomes.fresh o (record { born = p.born; stamp = stamp; place = Listed pool }) h (omega (arith, i)) (omega (arith, x)) y

gone-later : (a b c : ℕ) (o r : Option Pending) → a ≤ b → Becomes b c None r → Becomes a c o r
gone-later a b c o r l (Becomes.stays _) = Becomes.gone o
gone-later a b c o r l (Becomes.gone _) = Becomes.gone o
gone-later a b c o r l (Becomes.fresh _ q x y z w) = Becomes.fresh o q (omega (arith, x)) y (omega (arith, z)) w

earlier : (a b c : ℕ) (o r : Option Pending) → a ≤ b → Becomes b c o r → Becomes a c o r
earlier a b c o r l (Becomes.stays _) = Becomes.stays o
earlier a b c o r l (Becomes.gone _) = Becomes.gone o
earlier a b c o r l (Becomes.fresh _ q x y z w) = Becomes.fresh o q (omega (arith, x)) y (omega (arith, z)) w
earlier a b c o r l (Becomes.activated p stamp pool is x y) = Becomes.activated p stamp pool is (omega (arith, x)) y

listed_inactive : (p : Pending) (pool at : ℕ) → p.place ≡ Listed at → p.place ≡ Inactive pool → ⊥
listed_inactive p pool at l i = cc

activated-later : (a b c : ℕ) (p q : Pending) (r : Option Pending) (stamp pool : ℕ) → p.place ≡ Inactive pool → a ≤ stamp → stamp < b → a ≤ b → b ≤ c → q ≡ record { born = p.born; stamp = stamp; place = Listed pool }
    → Becomes b c (Some q) r → Becomes a c (Some p) r
activated-later a b c p q r stamp pool is h k l m e (Becomes.stays _) =
    subst (λ (x : Pending). Becomes a c (Some p) (Some x)) (sym e) (Becomes.activated p stamp pool is h (omega (arith, k, m)))
activated-later a b c p q r stamp pool is h k l m e (Becomes.gone _) = Becomes.gone (Some p)
activated-later a b c p q r stamp pool is h k l m e (Becomes.fresh _ x y z w v) = Becomes.fresh (Some p) x (omega (arith, y)) z (omega (arith, w)) v
activated-later a b c p q r stamp pool is h k l m e (Becomes.activated _ later at was y z) = elim (listed_inactive q at pool (ap (λ (x : Pending). x.place) e) was) [ ]

then : (a b c : ℕ) (o p r : Option Pending) → a ≤ b → b ≤ c → Becomes a b o p → Becomes b c p r → Becomes a c o r
then a b c o p r l m (Becomes.stays _) next = earlier a b c o r l next
then a b c o p r l m (Becomes.gone _) next = gone-later a b c o r l next
then a b c o p r l m (Becomes.fresh _ q x y z w) next = fresh-later a b c o q r x y z w l m next
then a b c o p r l m (Becomes.activated q stamp pool is x y) next = activated-later a b c q (record { born = q.born; stamp = stamp; place = Listed pool }) r stamp pool is x y l m refl next

-- each work becomes such from the one state to the other
pub record Moves (s t : State) : Type 0 where
  pub next : s.next ≤ t.next
  pub works : (w : ℕ) → Becomes s.next t.next (pending_at s w) (pending_at t w)

pub itself : (s : State) → Moves s s
itself s = record { next = omega arith; works = λ w. Becomes.stays (pending_at s w) }

both : (s t u : State) → Moves s t → Moves t u → Moves s u
both s t u a b = record {
  next = omega (arith, a.next, b.next);
  works = λ w. then s.next t.next u.next (pending_at s w) (pending_at t w) (pending_at u w) a.next b.next (a.works w) (b.works w);
}

-- what pends stays
same : (s t : State) → t.pending ≡ s.pending → s.next ≤ t.next → Moves s t
same s t e h = record {
  next = h;
  works = λ w. subst (λ (pending : List (Option Pending)). Becomes s.next t.next (pending_at s w) (slice_index_or pending w None)) (sym e) (Becomes.stays (pending_at s w));
}

-- One work changes.

pub set_cases : (xs : List (Option Pending)) (i v : ℕ) (x : Option Pending) → (slice_index_or (slice_set xs i x) v None ≡ slice_index_or xs v None) ⊎ ((v ≡ i) × (slice_index_or (slice_set xs i x) v None ≡ x))
set_cases [] i v x = inl refl
set_cases (y ∷ ys) zero zero x = inr (refl, refl)
set_cases (y ∷ ys) zero (suc v) x = inl refl
set_cases (y ∷ ys) (suc i) zero x = inl refl
set_cases (y ∷ ys) (suc i) (suc v) x = more (set_cases ys i v x) where
  more : (slice_index_or (slice_set ys i x) v None ≡ slice_index_or ys v None) ⊎ ((v ≡ i) × (slice_index_or (slice_set ys i x) v None ≡ x))
      → (slice_index_or (slice_set ys i x) v None ≡ slice_index_or ys v None) ⊎ ((suc v ≡ suc i) × (slice_index_or (slice_set ys i x) v None ≡ x))
  more (inl e) = inl e
  more (inr e) = inr (ap suc e.0, e.1)

one : (s t : State) (w : ℕ) (x : Option Pending) → s.next ≤ t.next → t.pending ≡ slice_set s.pending w x → Becomes s.next t.next (pending_at s w) x → Moves s t
one s t w x h e becomes = record { next = h; works = λ v. at v (set_cases s.pending w v x) } where
  at : (v : ℕ) → (slice_index_or (slice_set s.pending w x) v None ≡ pending_at s v) ⊎ ((v ≡ w) × (slice_index_or (slice_set s.pending w x) v None ≡ x)) → Becomes s.next t.next (pending_at s v) (pending_at t v)
  at v (inl same_as) =
      subst (λ (o : Option Pending). Becomes s.next t.next (pending_at s v) o) (sym (ap (λ (pending : List (Option Pending)). slice_index_or pending v None) e ∙ same_as)) (Becomes.stays (pending_at s v))
  at v (inr here) =
      let there : pending_at t v ≡ x = ap (λ (pending : List (Option Pending)). slice_index_or pending v None) e ∙ here.1 in
      let was : pending_at s w ≡ pending_at s v = ap (λ (n : ℕ). pending_at s n) (sym here.0) in
      subst (λ (o : Option Pending). Becomes s.next t.next (pending_at s v) o) (sym there) (subst (λ (o : Option Pending). Becomes s.next t.next o x) was becomes)

unpend : (s : State) (w : ℕ) → Moves s (with_pending s w None)
unpend s w = one s (with_pending s w None) w None (omega arith) refl (Becomes.gone (pending_at s w))

bear : (s : State) (w : ℕ) (at : Place) → Moves s (taking (with_pending s w (newborn s at)))
bear s w at =
    one s (taking (with_pending s w (newborn s at))) w (newborn s at) (omega arith) refl
    (Becomes.fresh (pending_at s w) (record { born = s.next; stamp = s.next; place = at }) (omega arith) (omega arith) (omega arith) (omega arith))

-- Filling.

waiting-pool : (place : Place) (pool : ℕ) → is_inactive place pool ≡ true → place ≡ Inactive pool
waiting-pool (Inactive at) pool e = ap Inactive (eqb-true at pool e)
waiting-pool (Timer due cpu) pool e = cc
waiting-pool (Listed at) pool e = cc
waiting-pool (Deferred at) pool e = cc

and-second : (a b : Bool) → (a && b) ≡ true → b ≡ true
and-second true b e = e
and-second false b e = cc

listed-becomes : (pool next : ℕ) (o : Option Pending) → pends (λ place. is_inactive place pool) o ≡ true → Becomes next (next + 1) o (listed_at pool next o)
listed-becomes pool next (Some p) waits = Becomes.activated p next pool (waiting-pool p.place pool waits) (omega arith) (omega arith)
listed-becomes pool next None waits = cc

enlist-moves : (s : State) (pool w : ℕ) → pends (λ place. is_inactive place pool) (pending_at s w) ≡ true → Moves s (enlist s pool (Some w))
enlist-moves s pool w waits =
    one s (enlist s pool (Some w)) w (listed_at pool s.next (pending_at s w)) (omega arith) refl (listed-becomes pool s.next (pending_at s w) waits)

first-moves : (S : ScenarioContents) (queue pool : ℕ) (s : State) (o : Option ℕ) → MatchFirst (λ v w. nat_lt (pending_stamp (pending_at s v)) (pending_stamp (pending_at s w))) (λ w. (queue_of S w == queue) && pends (λ place. is_inactive place pool) (pending_at s w)) (length S.works) o
    → Moves s (enlist s pool o)
first-moves S queue pool s (Some w) first = enlist-moves s pool w (and-second (queue_of S w == queue) (pends (λ place. is_inactive place pool) (pending_at s w)) first.passes)
first-moves S queue pool s None first = itself s

fills-moves : (S : ScenarioContents) (s t : State) → Fills S s t → Moves s t
fills-moves S s t Fills.stays = itself s
fills-moves S s t (Fills.more u queue pool w filling is room) =
    both s u t (fills-moves S s u filling)
    (subst (λ (o : Option ℕ). Moves u (enlist u pool o)) is (first-moves S queue pool u (first_inactive S u queue pool)
    (first_below-is_first (λ v w. nat_lt (pending_stamp (pending_at u v)) (pending_stamp (pending_at u w))) (λ w. (queue_of S w == queue) && pends (λ place. is_inactive place pool) (pending_at u w)) (length S.works)
    (by_least-order (λ w. pending_stamp (pending_at u w))))))

-- What is turned.

turn-moves : (S : ScenarioContents) (s t : State) (w : ℕ) (took put : Bool) → Turn S s w took put t → Moves s t
turn-moves S s t w took put (Turn.fills u filling) = fills-moves S s u filling
turn-moves S s t w took put (Turn.puts cpu ticks may enabled is) = bear s w (place_for S s w cpu ticks)
turn-moves S s t w took put (Turn.fires p due cpu is at) = (let off = with_pending s w None in both s off t (unpend s w) (bear off w (place_for S off w cpu 0)))
turn-moves S s t w took put (Turn.takes p u is filling) = (let off = with_pending s w None in both s off u (unpend s w) (fills-moves S off u filling))
turn-moves S s t w took put (Turn.changes p u cpu ticks may enabled is filling) =
    let off = with_pending s w None in both s u t (both s off u (unpend s w) (fills-moves S off u filling)) (bear u w (place_for S u w cpu ticks))

retired-moves : (s : State) (w : ℕ) (r : Running) → Moves s (retire s w r)
retired-moves s w r = at (is_rescuer r.worker) where
  at : (b : Bool) → Moves s (cond {A = State} b (with_running s w None) (become_idle s w r))
  at true = same s (with_running s w None) refl (omega arith)
  at false = same s (become_idle s w r) refl (omega arith)

-- Only the place of one work is another: it was listed, and is deferred.
pub record Defers (s t : State) : Type 0 where
  pub w : ℕ
  pub p : Pending
  pub pool : ℕ
  pub was : pending_at s w ≡ Some p
  pub pending : t.pending ≡ slice_set s.pending w (Some (record p { place = Deferred pool }))
  pub next : t.next ≡ s.next

abbrev pub Goes : State → State → Type 0
Goes s t = Moves s t ⊎ Defers s t

sets-moves : (s b : State) (i : Instr) → Sets s i b → Moves s b
sets-moves s b i (Sets.nothing i1 shallow) = itself s
sets-moves s b i (Sets.limits q max) = same s b refl (omega arith)
sets-moves s b i Sets.freezes = same s b refl (omega arith)
sets-moves s b i Sets.thaws = same s b refl (omega arith)
sets-moves s b i Sets.presses = same s b refl (omega arith)
sets-moves s b i Sets.relieves = same s b refl (omega arith)
sets-moves s b i (Sets.disables w) = same s b refl (omega arith)
sets-moves s b i (Sets.enables w) = same s b refl (omega arith)

module _ (S : ScenarioContents) (s : State) where
  acts-go : (pool : ℕ) (move : Move) (e : Event) (t : State) → Acts S s pool move e t → Goes s t
  acts-go pool move e t (Acts.starts w worker p free is) = inl (one s t w.0 None (omega arith) refl (Becomes.gone (pending_at s w.0)))
  acts-go pool move e t (Acts.rescues w p is) = inl (one s t w.0 None (omega arith) refl (Becomes.gone (pending_at s w.0)))
  acts-go pool move e t (Acts.defers w p is) = inr (record { w = w.0; p = p; pool = pool; was = is; pending = refl; next = refl })
  acts-go pool move e t (Acts.wakes w r is) = inl (same s t refl (omega arith))
  acts-go pool move e t (Acts.burns w r ticks is at) = inl (same s t refl (omega arith))
  acts-go pool move e t (Acts.sleeps w r ticks is at) = inl (same s t refl (omega arith))
  acts-go pool move e t (Acts.asks w r o e1 v took put u is at asking turn) =
      let on = onward s w.0 r in inl (both s on u (same s on refl (omega arith)) (turn-moves S on u v took put turn))
  acts-go pool move e t (Acts.ends w r u is at none filling) = (let gone = retire s w.0 r in inl (both s gone u (retired-moves s w.0 r) (fills-moves S gone u filling)))
  acts-go pool move e t (Acts.again w r p u is at some deferred filling) =
      let begun = begin_again s w.0 r p in inl (both s begun u (one s begun w.0 None (omega arith) refl (Becomes.gone (pending_at s w.0))) (fills-moves S begun u filling))

  effect-goes : (i : Instr) (t : State) (r : Reply) → Effect S s i t r → Goes s t
  effect-goes i t r (Effect.acts pool move e u shallow there is fits acting) = acts-go pool move e u acting
  effect-goes i t r (Effect.fires w u shallow due turn) = inl (turn-moves S s u w false false turn)
  effect-goes i t r (Effect.passes shallow due moving) = inl (same s (tick S s) refl (omega arith))
  effect-goes i t r (Effect.answers b u w took put told set turn answer) = inl (both s b u (sets-moves s b i set) (turn-moves S b u w took put turn))
  effect-goes i t r (Effect.gives u w took put f told shallow turn answer) = inl (both s u t (turn-moves S s u w took put turn) (same u t refl (omega arith)))

spent-goes : (s t : State) (n : ℕ) → Goes s t → Goes s (record t { spent = n })
spent-goes s t n (inl moves) = inl (record { next = moves.next; works = moves.works })
spent-goes s t n (inr defers) = inr (record { w = defers.w; p = defers.p; pool = defers.pool; was = defers.was; pending = defers.pending; next = defers.next })

does-go : (S : ScenarioContents) (s : State) (i : Instr) (t : State) (r : Reply) → changes.Does S s i t r → Goes s t
does-go S s i t r (changes.Does.refused why) = inl (itself s)
does-go S s i t r (changes.Does.done u told spent fits effect) = spent-goes s u spent (effect-goes S s i u told effect)

pub table-goes : (S : ScenarioContents) (s : State) (i : Instr) → Goes s (table S s i).0
table-goes S s i = does-go S s i (table S s i).0 (table S s i).1 (table-does S s i)
