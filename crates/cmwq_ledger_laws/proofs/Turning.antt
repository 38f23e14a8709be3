-- Which work items are pending after an instruction: its reply tells which one begins to run, which one is taken off, and which one is queued.
use Rattle.std.proofs.Common.{◌≡◌, ℕ, zero, suc, ◌<◌, true, false, cond, List, [], ◌∷◌, length, Option, Some, None, Bool, arith, refl, ap, sym, ◌∙◌, subst, inl, inr}
use Rattle.std.proofs.Math.ListN.{length-set}
use Rattle.std.proofs.lemmas.Bool.{cases_eq}
use Rattle.std.proofs.lemmas.List.{get_or-set_other, get_or-set_same}
use Rattle.std.specs.Prelude.{is_some, slice_index_or, slice_set}
use Rattle.cmwq_types.specs.Contents.{ScenarioContents}
use Rattle.cmwq_types.specs.Setting.{IsSetting}
use Rattle.cmwq_types.specs.declared.instr.Instr.{Instr}
use Rattle.cmwq_types.specs.declared.moves.Move.{Move}
use Rattle.cmwq_types.specs.declared.reply.Event.{Event}
use Rattle.cmwq_types.specs.declared.reply.Place.TheVariants.{Deferred}
use Rattle.cmwq_types.specs.declared.reply.Reply.{Reply}
use Rattle.cmwq_types.specs.declared.reply.Reply.TheVariants as reply
use Rattle.cmwq_table.specs.Counts.{is_rescuer}
use Rattle.cmwq_table.specs.Moves.{become_idle, begin_again, listed_at, moved_work, onward, retire, tick, with_pending, with_running}
use Rattle.cmwq_table.specs.State.{State, pending_at}
use Rattle.cmwq_table.specs.Table.{table}
use Rattle.cmwq_table.specs.declared.state.Pending.{Pending}
use Rattle.cmwq_table.specs.declared.state.Running.{Running}
use Rattle.cmwq_table.specs.Changes.{Acts, Effect, Fills, Sets, Turn}
use Rattle.cmwq_table.specs.Changes as kinds
use Rattle.cmwq_table.specs.Told.{cancelled_by, is_start, requested_by, started_by, told_work, work_if}
use Rattle.cmwq_table.proofs.Doings.{table-does}

-- Who is pending in the one state, and who in the other.

-- the same works
pub record Same (s t : State) : Type 0 where
  pub some : (w : ℕ) → is_some (pending_at t w) ≡ is_some (pending_at s w)
  pub long : length t.pending ≡ length s.pending

-- the others as they were, and this one isn't
pub record Without (s t : State) (w : ℕ) : Type 0 where
  pub here : is_some (pending_at t w) ≡ false
  pub else : (v : ℕ) → (v ≡ w → ⊥) → is_some (pending_at t v) ≡ is_some (pending_at s v)
  pub long : length t.pending ≡ length s.pending

-- the others as they were, and this one is
pub record With (s t : State) (w : ℕ) : Type 0 where
  pub here : is_some (pending_at t w) ≡ true
  pub else : (v : ℕ) → (v ≡ w → ⊥) → is_some (pending_at t v) ≡ is_some (pending_at s v)
  pub long : length t.pending ≡ length s.pending

-- Of the work that begins, that which is taken off, and that which is asked for, if there is one.
pub data Turns (s t : State) : Option ℕ → Option ℕ → Option ℕ → Type 0 where
  stays : Same s t → Turns s t None None None
  starts : (w : ℕ) → is_some (pending_at s w) ≡ true → Without s t w → Turns s t (Some w) None None
  cancels : (w : ℕ) → is_some (pending_at s w) ≡ true → Without s t w → Turns s t None (Some w) None
  requests : (w : ℕ) → is_some (pending_at s w) ≡ false → With s t w → Turns s t None None (Some w)
  changes : (w : ℕ) → is_some (pending_at s w) ≡ true → Same s t → Turns s t None (Some w) (Some w)

-- of an instruction, as it stands
abbrev pub Does : State → Instr → State × Reply → Type 0
Does s i after = Turns s after.0 (started_by after.1) (cancelled_by i after.1) (requested_by i after.1)

-- Lists.

set-some : {A : Type 0} (xs : List (Option A)) (i v : ℕ) (x : Option A) → is_some x ≡ is_some (slice_index_or xs i None)
    → is_some (slice_index_or (slice_set xs i x) v None) ≡ is_some (slice_index_or xs v None)
set-some [] i v x e = refl
set-some (y ∷ ys) zero zero x e = e
set-some (y ∷ ys) zero (suc v) x e = refl
set-some (y ∷ ys) (suc i) zero x e = refl
set-some (y ∷ ys) (suc i) (suc v) x e = set-some ys i v x e

set-none : {A : Type 0} (xs : List (Option A)) (i : ℕ) → is_some (slice_index_or (slice_set xs i None) i None) ≡ false
set-none [] i = refl
set-none (y ∷ ys) zero = refl
set-none (y ∷ ys) (suc i) = set-none ys i

pub some-there : {A : Type 0} (xs : List (Option A)) (i : ℕ) → is_some (slice_index_or xs i None) ≡ true → i < length xs
some-there [] i e = cc
some-there (y ∷ ys) zero e = omega arith
some-there (y ∷ ys) (suc i) e = let there : i < length ys = some-there ys i e in omega arith

-- Makers.

itself : (s : State) → Same s s
itself s = record { some = λ w. refl; long = refl }

both : (s t u : State) → Same s t → Same t u → Same s u
both s t u a b = record { some = λ w. b.some w ∙ a.some w; long = b.long ∙ a.long }

-- what pends is the same list
kept : (s t : State) → t.pending ≡ s.pending → Same s t
kept s t e = record { some = λ w. ap (λ (pending : List (Option Pending)). is_some (slice_index_or pending w None)) e; long = ap length e }

without-then : (s t u : State) (w : ℕ) → Without s t w → Same t u → Without s u w
without-then s t u w a b = record { here = b.some w ∙ a.here; else = λ v ne. b.some v ∙ a.else v ne; long = b.long ∙ a.long }

then-with : (s t u : State) (w : ℕ) → Same s t → With t u w → With s u w
then-with s t u w a b = record { here = b.here; else = λ v ne. b.else v ne ∙ a.some v; long = b.long ∙ a.long }

-- one that was pending is taken off, and pends anew
again-with : (s t u : State) (w : ℕ) → is_some (pending_at s w) ≡ true → Without s t w → With t u w → Same s u
again-with s t u w was a b = record { some = at; long = b.long ∙ a.long } where
  at : (v : ℕ) → is_some (pending_at u v) ≡ is_some (pending_at s v)
  at v = elim (cases_eq v w) [
    | inl e ↦ subst (λ (k : ℕ). is_some (pending_at u k) ≡ is_some (pending_at s k)) (sym e) (b.here ∙ sym was)
    | inr ne ↦ b.else v ne ∙ a.else v ne
  ]

gone : (s t : State) (w : ℕ) → t.pending ≡ slice_set s.pending w None → Without s t w
gone s t w set = record {
  here = ap (λ (pending : List (Option Pending)). is_some (slice_index_or pending w None)) set ∙ set-none s.pending w;
  else = λ v ne. ap (λ (pending : List (Option Pending)). is_some (slice_index_or pending v None)) set ∙ ap is_some (get_or-set_other s.pending w v None None ne);
  long = ap length set ∙ length-set s.pending w None;
}

come : (s t : State) (w : ℕ) (p : Pending) → w < length s.pending → t.pending ≡ slice_set s.pending w (Some p) → With s t w
come s t w p there set = record {
  here = ap (λ (pending : List (Option Pending)). is_some (slice_index_or pending w None)) set ∙ ap is_some (get_or-set_same s.pending w (Some p) None there);
  else = λ v ne. ap (λ (pending : List (Option Pending)). is_some (slice_index_or pending v None)) set ∙ ap is_some (get_or-set_other s.pending w v (Some p) None ne);
  long = ap length set ∙ length-set s.pending w (Some p);
}

-- one pends otherwise, and did before
other : (s t : State) (w : ℕ) (o : Option Pending) → is_some o ≡ is_some (pending_at s w) → t.pending ≡ slice_set s.pending w o → Same s t
other s t w o e set = record {
  some = λ v. ap (λ (pending : List (Option Pending)). is_some (slice_index_or pending v None)) set ∙ set-some s.pending w v o e;
  long = ap length set ∙ length-set s.pending w o;
}

-- What is filled, set, and turned.

listed-some : (pool next : ℕ) (o : Option Pending) → is_some (listed_at pool next o) ≡ is_some o
listed-some pool next (Some p) = refl
listed-some pool next None = refl

fills-same : (S : ScenarioContents) (s t : State) → Fills S s t → Same s t
fills-same S s t Fills.stays = itself s
fills-same S s t (Fills.more u queue pool w filling first room) =
    both s u t (fills-same S s u filling) (other u t w (listed_at pool u.next (pending_at u w)) (listed-some pool u.next (pending_at u w)) refl)

sets-same : (s b : State) (i : Instr) → Sets s i b → b.pending ≡ s.pending
sets-same s b i (Sets.nothing i1 shallow) = refl
sets-same s b i (Sets.limits q max) = refl
sets-same s b i Sets.freezes = refl
sets-same s b i Sets.thaws = refl
sets-same s b i Sets.presses = refl
sets-same s b i Sets.relieves = refl
sets-same s b i (Sets.disables w) = refl
sets-same s b i (Sets.enables w) = refl

retired-same : (s : State) (w : ℕ) (r : Running) → (retire s w r).pending ≡ s.pending
retired-same s w r = at (is_rescuer r.worker) where
  at : (b : Bool) → (cond {A = State} b (with_running s w None) (become_idle s w r)).pending ≡ s.pending
  at true = refl
  at false = refl

module _ (S : ScenarioContents) (s : State) where
  -- one that was pending is taken off, all is filled, and it pends anew
  changed : (b : State) (w : ℕ) (p : Pending) (u t : State) (q : Pending) → pending_at b w ≡ Some p → Fills S (with_pending b w None) u → t.pending ≡ slice_set u.pending w (Some q) → Same b t
  changed b w p u t q is filling set =
      let off = with_pending b w None in
      let without : Without b u w = without-then b off u w (gone b off w refl) (fills-same S off u filling) in
      let was : is_some (pending_at b w) ≡ true = ap is_some is in
      let there : w < length b.pending = some-there b.pending w was in
      again-with b u t w was without (come u t w q (omega (arith, without.long)) set)

  -- from a state in which the same works pend
  turned : (b t : State) (w : ℕ) (took put : Bool) → IsSetting S → length s.pending ≡ length S.works → b.pending ≡ s.pending → Turn S b w took put t → Turns s t None (work_if took w) (work_if put w)
  turned b t w took put setting long same (Turn.fills u filling) = Turns.stays (both s b u (kept s b same) (fills-same S b u filling))
  turned b t w took put setting long same (Turn.fires p due cpu is at) = Turns.stays (both s b t (kept s b same) (changed b w p (with_pending b w None) t _ is Fills.stays refl))
  turned b t w took put setting long same (Turn.puts cpu ticks may enabled is) =
      Turns.requests w (ap is_some (ap (λ (pending : List (Option Pending)). slice_index_or pending w None) (sym same) ∙ is))
      (then-with s b t w (kept s b same) (come b t w _ (omega (arith, may.work_there setting, long, ap length same)) refl))
  turned b t w took put setting long same (Turn.takes p u is filling) =
      let off = with_pending b w None in
      let without : Without b u w = without-then b off u w (gone b off w refl) (fills-same S off u filling) in
      let here = kept s b same in
      Turns.cancels w (ap is_some (ap (λ (pending : List (Option Pending)). slice_index_or pending w None) (sym same) ∙ is))
      (record { here = without.here; else = λ v ne. without.else v ne ∙ here.some v; long = without.long ∙ here.long })
  turned b t w took put setting long same (Turn.changes p u cpu ticks may enabled is filling) =
      Turns.changes w (ap is_some (ap (λ (pending : List (Option Pending)). slice_index_or pending w None) (sym same) ∙ is)) (both s b t (kept s b same) (changed b w p u t _ is filling refl))

  -- where the same works pend in the end
  moved-on : (t u : State) → u.pending ≡ t.pending → {a b c : Option ℕ} → Turns s t a b c → Turns s u a b c
  moved-on t u e (Turns.stays same) = Turns.stays (both s t u same (kept t u e))
  moved-on t u e (Turns.starts v was without) = Turns.starts v was (without-then s t u v without (kept t u e))
  moved-on t u e (Turns.cancels v was without) = Turns.cancels v was (without-then s t u v without (kept t u e))
  moved-on t u e (Turns.requests v was with) =
      let on = kept t u e in Turns.requests v was (record { here = on.some v ∙ with.here; else = λ k ne. on.some k ∙ with.else k ne; long = on.long ∙ with.long })
  moved-on t u e (Turns.changes v was same) = Turns.changes v was (both s t u same (kept t u e))

  as-told : (t : State) (a b c x y z : Option ℕ) → x ≡ a → y ≡ b → z ≡ c → Turns s t a b c → Turns s t x y z
  as-told t a b c x y z p q r turns = rw (p, q, r) turns

  acts-turn : (i : Instr) (pool : ℕ) (move : Move) (e : Event) (t : State) → IsSetting S → length s.pending ≡ length S.works → Acts S s pool move e t → Does s i (t, reply.Event (moved_work move) e)
  acts-turn i pool move e t setting long (Acts.starts w worker p free is) = Turns.starts w.0 (ap is_some is) (gone s t w.0 refl)
  acts-turn i pool move e t setting long (Acts.rescues w p is) = Turns.starts w.0 (ap is_some is) (gone s t w.0 refl)
  acts-turn i pool move e t setting long (Acts.defers w p is) = Turns.stays (other s t w.0 (Some (record p { place = Deferred pool })) (sym (ap is_some is)) refl)
  acts-turn i pool move e t setting long (Acts.wakes w r is) = Turns.stays (kept s t refl)
  acts-turn i pool move e t setting long (Acts.burns w r ticks is at) = Turns.stays (kept s t refl)
  acts-turn i pool move e t setting long (Acts.sleeps w r ticks is at) = Turns.stays (kept s t refl)
  acts-turn i pool move e t setting long (Acts.asks w r o e1 v took put u is at asking turn) =
      as-told u None (work_if took v) (work_if put v) _ _ _ (ap (λ (b : Bool). work_if b w.0) asking.starts) asking.takes asking.puts
      (turned (onward s w.0 r) u v took put setting long refl turn)
  acts-turn i pool move e t setting long (Acts.ends w r u is at none filling) =
      let gone_by = retire s w.0 r in Turns.stays (both s gone_by u (kept s gone_by (retired-same s w.0 r)) (fills-same S gone_by u filling))
  acts-turn i pool move e t setting long (Acts.again w r p u is at some deferred filling) =
      let begun = begin_again s w.0 r p in Turns.starts w.0 (ap is_some some) (without-then s begun u w.0 (gone s begun w.0 refl) (fills-same S begun u filling))

  effect-turns : (i : Instr) (t : State) (r : Reply) → IsSetting S → length s.pending ≡ length S.works → Effect S s i t r → Does s i (t, r)
  effect-turns i t r setting long (Effect.acts pool move e u shallow there is fits acting) = acts-turn i pool move e u setting long acting
  effect-turns i t r setting long (Effect.fires w u shallow due turn) = turned s u w false false setting long refl turn
  effect-turns i t r setting long (Effect.passes shallow due moving) = Turns.stays (kept s (tick S s) refl)
  effect-turns i t r setting long (Effect.answers b u w took put told set turn answer) =
      as-told u None (work_if took w) (work_if put w) _ _ _ (ap (told_work is_start) answer.plain) answer.takes answer.puts (turned b u w took put setting long (sets-same s b i set) turn)
  effect-turns i t r setting long (Effect.gives u w took put f told shallow turn answer) =
      as-told _ None (work_if took w) (work_if put w) _ _ _ (ap (told_work is_start) answer.plain) answer.takes answer.puts (moved-on u _ refl (turned s u w took put setting long refl turn))

  does-turn : (i : Instr) (t : State) (r : Reply) → IsSetting S → length s.pending ≡ length S.works → kinds.Does S s i t r → Does s i (t, r)
  does-turn i t r setting long (kinds.Does.refused why) = Turns.stays (itself s)
  does-turn i t r setting long (kinds.Does.done u told spent fits effect) = moved-on u _ refl (effect-turns i u told setting long effect)

pub table-turns : (S : ScenarioContents) (s : State) (i : Instr) → IsSetting S → length s.pending ≡ length S.works → Does s i (table S s i)
table-turns S s i setting long = does-turn S s i (table S s i).0 (table S s i).1 setting long (table-does S s i)

turns-long : (s t : State) (st c req : Option ℕ) → Turns s t st c req → length t.pending ≡ length s.pending
turns-long s t st c req (Turns.stays same) = same.long
turns-long s t st c req (Turns.starts w was without) = without.long
turns-long s t st c req (Turns.cancels w was without) = without.long
turns-long s t st c req (Turns.requests w was with) = with.long
turns-long s t st c req (Turns.changes w was same) = same.long

pub table-long : (S : ScenarioContents) (s : State) (i : Instr) → IsSetting S → length s.pending ≡ length S.works → length (table S s i).0.pending ≡ length s.pending
table-long S s i setting long =
    turns-long s (table S s i).0 (started_by (table S s i).1) (cancelled_by i (table S s i).1) (requested_by i (table S s i).1) (table-turns S s i setting long)
