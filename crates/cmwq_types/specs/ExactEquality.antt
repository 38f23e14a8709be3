-- Equality of a scenario's parts, of a work, of an actor and of a scenario is exact.
use Rattle.std.proofs.Common.{◌≡◌, ℕ, List, Bool, true, true≢false, length, take, refl, sym, subst, ap, ap₂, ◌∙◌, ◌&&◌}
use Rattle.std.proofs.Math.Seq.{take-append_seam}
use Rattle.std.proofs.lemmas.Bool.Decides.{Decides-eqb}
use Rattle.std.proofs.lemmas.Bool.{and_parts, eqb-true}
use Rattle.std.proofs.lemmas.Slice.Eq.{bytes_eq-Decides}
use Rattle.std.specs.Bool.{Decides}
use Rattle.std.specs.Cmp.Derive.{both_true}
use Rattle.std.specs.Cmp.Lexicographic.{pointwise, pointwise_decides}
use Rattle.std.specs.Cmp.{IsEquivalence}
use Rattle.std.specs.Cmp.{booleans_Decides}
use Rattle.std.specs.Prelude.{◌==◌, ◌-◌, replicate}
use Rattle.std.specs.Str.{bytes_eq}
use mathlib.Core.Bool.{beq}
use Rattle.cmwq_types.specs.Contents.{WorkContents, ActorContents, ScenarioContents}
use Rattle.cmwq_types.specs.Equality.{work_eq, actor_eq, scenario_eq}
use Rattle.cmwq_types.specs.Name.{padded}
use Rattle.cmwq_types.specs.contracts.instr.InstrPartialEq.TheImpl as instr_eq
use Rattle.cmwq_types.specs.contracts.instr.QueueIdEq.TheImpl.Laws as queue_id_laws
use Rattle.cmwq_types.specs.contracts.instr.QueueIdPartialEq.TheImpl as queue_id
use Rattle.cmwq_types.specs.contracts.instr.WorkIdPartialEq.TheImpl as work_id
use Rattle.cmwq_types.specs.contracts.name.NameEq.TheImpl.Laws as name_laws
use Rattle.cmwq_types.specs.contracts.name.NamePartialEq.TheImpl as name
use Rattle.cmwq_types.specs.contracts.reply.ModePartialEq.TheImpl as mode
use Rattle.cmwq_types.specs.contracts.reply.PlacePartialEq.TheImpl as place
use Rattle.cmwq_types.specs.contracts.scenario.FlagsPartialEq.TheImpl as flags
use Rattle.cmwq_types.specs.contracts.scenario.LineEq.TheImpl.Laws as line_laws
use Rattle.cmwq_types.specs.contracts.scenario.LinePartialEq.TheImpl as line
use Rattle.cmwq_types.specs.contracts.scenario.OpEq.TheImpl.Laws as op_laws
use Rattle.cmwq_types.specs.contracts.scenario.OpPartialEq.TheImpl as op
use Rattle.cmwq_types.specs.contracts.scenario.QueueDeclEq.TheImpl.Laws as queue_laws
use Rattle.cmwq_types.specs.contracts.scenario.QueueDeclPartialEq.TheImpl as queue
use Rattle.cmwq_types.specs.declared.instr.Instr.TheVariants as instr
use Rattle.cmwq_types.specs.declared.instr.Instr.{Instr}
use Rattle.cmwq_types.specs.declared.instr.QueueId.{QueueId}
use Rattle.cmwq_types.specs.declared.instr.WorkId.{WorkId}
use Rattle.cmwq_types.specs.declared.limits.TheConstants.{MAX_NAME}
use Rattle.cmwq_types.specs.declared.reply.Mode.TheVariants.{Asleep, Runnable}
use Rattle.cmwq_types.specs.declared.reply.Mode.{Mode}
use Rattle.cmwq_types.specs.declared.reply.Place.TheVariants.{Deferred, Inactive, Listed, Timer}
use Rattle.cmwq_types.specs.declared.reply.Place.{Place}
use Rattle.cmwq_types.specs.declared.scenario.Flags.{Flags}
use Rattle.cmwq_types.specs.declared.scenario.Line.{Line}
use Rattle.cmwq_types.specs.declared.scenario.Op.TheVariants.{Burn, Sleep, Queue, Finish, Delay, Mod, Cancel}
use Rattle.cmwq_types.specs.declared.scenario.Op.{Op}
use Rattle.cmwq_types.specs.declared.scenario.QueueDecl.{QueueDecl}

pub same_work_id : (x y : WorkId) → work_id.ghosts.eq x y ≡ true → x ≡ y
same_work_id x y h = ap (λ n. record { 0 = n }) (eqb-true x.0 y.0 h)

pub same_queue_id : (x y : QueueId) → queue_id.ghosts.eq x y ≡ true → x ≡ y
same_queue_id x y h = ap (λ n. record { 0 = n }) (eqb-true x.0 y.0 h)

pub same_op : (x y : Op) → op.ghosts.eq x y ≡ true → x ≡ y
same_op (Burn a) (Burn b) h = ap Burn (eqb-true a b h)
same_op (Sleep a) (Sleep b) h = ap Sleep (eqb-true a b h)
same_op (Queue w c) (Queue v d) h =
    let both = and_parts (work_id.ghosts.eq w v) (c == d) h in
    ap₂ Queue (same_work_id w v both.0) (eqb-true c d both.1)
same_op Finish Finish h = refl
same_op (Delay w t) (Delay v u) h =
    let both = and_parts (work_id.ghosts.eq w v) (t == u) h in
    ap₂ Delay (same_work_id w v both.0) (eqb-true t u both.1)
same_op (Mod w t) (Mod v u) h =
    let both = and_parts (work_id.ghosts.eq w v) (t == u) h in
    ap₂ Mod (same_work_id w v both.0) (eqb-true t u both.1)
same_op (Cancel w) (Cancel v) h = ap Cancel (same_work_id w v h)
same_op x y h = absurd (true≢false (sym h))

pub same_place : (x y : Place) → place.ghosts.eq x y ≡ true → x ≡ y
same_place (Timer due cpu) (Timer late at) h =
    let both = and_parts (due == late) (cpu == at) h in
    ap₂ Timer (eqb-true due late both.0) (eqb-true cpu at both.1)
same_place (Inactive p) (Inactive q) h = ap Inactive (eqb-true p q h)
same_place (Listed p) (Listed q) h = ap Listed (eqb-true p q h)
same_place (Deferred p) (Deferred q) h = ap Deferred (eqb-true p q h)
same_place x y h = absurd (true≢false (sym h))

pub same_mode : (x y : Mode) → mode.ghosts.eq x y ≡ true → x ≡ y
same_mode Runnable Runnable h = refl
same_mode (Asleep t) (Asleep u) h = ap Asleep (eqb-true t u h)
same_mode x y h = absurd (true≢false (sym h))

pub same_name : (x y : List ℕ) → name.ghosts.eq x y ≡ true → x ≡ y
same_name x y h =
    let both = and_parts (bytes_eq (padded x) (padded y)) (length x == length y) h in
    let bytes : padded x ≡ padded y = (bytes_eq-Decides (padded x) (padded y)).0 both.0 in
    let long : length x ≡ length y = eqb-true (length x) (length y) both.1 in
    sym (take-append_seam x (replicate (MAX_NAME - length x) 0))
    ∙ ap₂ (λ n (kept : List ℕ). take n kept) long bytes
    ∙ take-append_seam y (replicate (MAX_NAME - length y) 0)

pub same_flags : (x y : Flags) → flags.ghosts.eq x y ≡ true → x ≡ y
same_flags x y h =
    let last = beq x.ordered y.ordered && beq x.mem_reclaim y.mem_reclaim in
    let a = and_parts (beq x.highpri y.highpri) (beq x.unbound y.unbound && (beq x.cpu_intensive y.cpu_intensive && (beq x.freezable y.freezable && last))) h in
    let b = and_parts (beq x.unbound y.unbound) (beq x.cpu_intensive y.cpu_intensive && (beq x.freezable y.freezable && last)) a.1 in
    let c = and_parts (beq x.cpu_intensive y.cpu_intensive) (beq x.freezable y.freezable && last) b.1 in
    let d = and_parts (beq x.freezable y.freezable) last c.1 in
    let e = and_parts (beq x.ordered y.ordered) (beq x.mem_reclaim y.mem_reclaim) d.1 in
    λ i. record {
      highpri = (booleans_Decides x.highpri y.highpri).0 a.0 i;
      unbound = (booleans_Decides x.unbound y.unbound).0 b.0 i;
      cpu_intensive = (booleans_Decides x.cpu_intensive y.cpu_intensive).0 c.0 i;
      freezable = (booleans_Decides x.freezable y.freezable).0 d.0 i;
      ordered = (booleans_Decides x.ordered y.ordered).0 e.0 i;
      mem_reclaim = (booleans_Decides x.mem_reclaim y.mem_reclaim).0 e.1 i;
    }

pub same_queue : (x y : QueueDecl) → queue.ghosts.eq x y ≡ true → x ≡ y
same_queue x y h =
    let a = and_parts (name.ghosts.eq x.name y.name) ((x.max == y.max) && flags.ghosts.eq x.flags y.flags) h in
    let b = and_parts (x.max == y.max) (flags.ghosts.eq x.flags y.flags) a.1 in
    λ i. record {
      name = same_name x.name y.name a.0 i;
      max = eqb-true x.max y.max b.0 i;
      flags = same_flags x.flags y.flags b.1 i;
    }

pub same_instr : (x y : Instr) → instr_eq.ghosts.eq x y ≡ true → x ≡ y
same_instr (instr.Queue w c) (instr.Queue v d) h =
    let both = and_parts (work_id.ghosts.eq w v) (c == d) h in
    ap₂ instr.Queue (same_work_id w v both.0) (eqb-true c d both.1)
same_instr (instr.Delay w c t) (instr.Delay v d u) h =
    let a = and_parts (work_id.ghosts.eq w v) ((c == d) && (t == u)) h in
    let b = and_parts (c == d) (t == u) a.1 in
    λ i. instr.Delay (same_work_id w v a.0 i) (eqb-true c d b.0 i) (eqb-true t u b.1 i)
same_instr (instr.Mod w c t) (instr.Mod v d u) h =
    let a = and_parts (work_id.ghosts.eq w v) ((c == d) && (t == u)) h in
    let b = and_parts (c == d) (t == u) a.1 in
    λ i. instr.Mod (same_work_id w v a.0 i) (eqb-true c d b.0 i) (eqb-true t u b.1 i)
same_instr (instr.Cancel w) (instr.Cancel v) h = ap instr.Cancel (same_work_id w v h)
same_instr (instr.CancelSync w) (instr.CancelSync v) h = ap instr.CancelSync (same_work_id w v h)
same_instr (instr.Flush w) (instr.Flush v) h = ap instr.Flush (same_work_id w v h)
same_instr (instr.FlushDelayed w) (instr.FlushDelayed v) h = ap instr.FlushDelayed (same_work_id w v h)
same_instr (instr.FlushQueue p) (instr.FlushQueue q) h = ap instr.FlushQueue (same_queue_id p q h)
same_instr (instr.SetMax p m) (instr.SetMax q n) h =
    let both = and_parts (queue_id.ghosts.eq p q) (m == n) h in
    ap₂ instr.SetMax (same_queue_id p q both.0) (eqb-true m n both.1)
same_instr instr.Freeze instr.Freeze h = refl
same_instr instr.Thaw instr.Thaw h = refl
same_instr instr.Fire instr.Fire h = refl
same_instr (instr.Step p) (instr.Step q) h = ap instr.Step (eqb-true p q h)
same_instr instr.Tick instr.Tick h = refl
same_instr instr.Next instr.Next h = refl
same_instr (instr.Ask a) (instr.Ask b) h = ap instr.Ask (eqb-true a b h)
same_instr instr.Busy instr.Busy h = refl
same_instr (instr.State w) (instr.State v) h = ap instr.State (same_work_id w v h)
same_instr (instr.Disable w) (instr.Disable v) h = ap instr.Disable (same_work_id w v h)
same_instr (instr.Enable w) (instr.Enable v) h = ap instr.Enable (same_work_id w v h)
same_instr instr.Pressure instr.Pressure h = refl
same_instr instr.Relief instr.Relief h = refl
same_instr (instr.Until a) (instr.Until b) h = ap instr.Until (eqb-true a b h)
same_instr (instr.Wait a) (instr.Wait b) h = ap instr.Wait (eqb-true a b h)
same_instr instr.Quiet instr.Quiet h = refl
same_instr x y h = absurd (true≢false (sym h))

pub same_line : (x y : Line) → line.ghosts.eq x y ≡ true → x ≡ y
same_line x y h =
    let both = and_parts (instr_eq.ghosts.eq x.instr y.instr) (x.times == y.times) h in
    λ i. record { instr = same_instr x.instr y.instr both.0 i; times = eqb-true x.times y.times both.1 i }

-- a reflexive test that holds of equal values alone is exact
pub exact : {A : Type 0} {E : A → A → Bool} → IsEquivalence E → ((x y : A) → E x y ≡ true → x ≡ y) → (x y : A) → Decides (E x y) (x ≡ y)
exact {A} {E} laws same x y = (same x y, λ e. subst (λ z. E x z ≡ true) e (laws.refl x))

pub equal_numbers : (x y : ℕ) → x ≡ y → (x == y) ≡ true
equal_numbers x y = (Decides-eqb x y).1

Decides-name : (x y : List ℕ) → Decides (name.ghosts.eq x y) (x ≡ y)
Decides-name = exact name_laws.laws-law same_name

Decides-queue_id : (x y : QueueId) → Decides (queue_id.ghosts.eq x y) (x ≡ y)
Decides-queue_id = exact queue_id_laws.laws-law same_queue_id

Decides-body : (xs ys : List Op) → Decides (pointwise op.ghosts.eq xs ys) (xs ≡ ys)
Decides-body = pointwise_decides (exact op_laws.laws-law same_op)

Decides-lines : (xs ys : List Line) → Decides (pointwise line.ghosts.eq xs ys) (xs ≡ ys)
Decides-lines = pointwise_decides (exact line_laws.laws-law same_line)

Decides-queues : (xs ys : List QueueDecl) → Decides (pointwise queue.ghosts.eq xs ys) (xs ≡ ys)
Decides-queues = pointwise_decides (exact queue_laws.laws-law same_queue)

pub work_eq_is_exact : (x y : WorkContents) → Decides (work_eq x y) (x ≡ y)
work_eq_is_exact x y =
    let named = Decides-name x.name y.name in
    let queued = Decides-queue_id x.queue y.queue in
    let body = Decides-body x.body y.body in (
      λ h.
          let a = and_parts (name.ghosts.eq x.name y.name) (queue_id.ghosts.eq x.queue y.queue && pointwise op.ghosts.eq x.body y.body) h in
          let b = and_parts (queue_id.ghosts.eq x.queue y.queue) (pointwise op.ghosts.eq x.body y.body) a.1 in
          λ i. record { name = named.0 a.0 i; queue = queued.0 b.0 i; body = body.0 b.1 i },
      λ e. both_true (named.1 (ap (λ w. w.name) e)) (both_true (queued.1 (ap (λ w. w.queue) e)) (body.1 (ap (λ w. w.body) e))),
    )

pub actor_eq_is_exact : (x y : ActorContents) → Decides (actor_eq x y) (x ≡ y)
actor_eq_is_exact x y =
    let named = Decides-name x.name y.name in
    let lines = Decides-lines x.lines y.lines in (
      λ h.
          let a = and_parts (name.ghosts.eq x.name y.name) (pointwise line.ghosts.eq x.lines y.lines) h in
          λ i. record { name = named.0 a.0 i; lines = lines.0 a.1 i },
      λ e. both_true (named.1 (ap (λ w. w.name) e)) (lines.1 (ap (λ w. w.lines) e)),
    )

Decides-works : (xs ys : List WorkContents) → Decides (pointwise work_eq xs ys) (xs ≡ ys)
Decides-works = pointwise_decides work_eq_is_exact

Decides-actors : (xs ys : List ActorContents) → Decides (pointwise actor_eq xs ys) (xs ≡ ys)
Decides-actors = pointwise_decides actor_eq_is_exact

abbrev parts_eq : ScenarioContents → ScenarioContents → Bool
parts_eq x y = pointwise queue.ghosts.eq x.queues y.queues && (pointwise work_eq x.works y.works && pointwise actor_eq x.actors y.actors)

pub scenario_eq_is_exact : (x y : ScenarioContents) → Decides (scenario_eq x y) (x ≡ y)
scenario_eq_is_exact x y =
    let queues = Decides-queues x.queues y.queues in
    let works = Decides-works x.works y.works in
    let actors = Decides-actors x.actors y.actors in (
      λ h.
          let a = and_parts (x.cpus == y.cpus) ((x.workers == y.workers) && ((x.steps == y.steps) && ((x.flushes == y.flushes) && parts_eq x y))) h in
          let b = and_parts (x.workers == y.workers) ((x.steps == y.steps) && ((x.flushes == y.flushes) && parts_eq x y)) a.1 in
          let c = and_parts (x.steps == y.steps) ((x.flushes == y.flushes) && parts_eq x y) b.1 in
          let d = and_parts (x.flushes == y.flushes) (parts_eq x y) c.1 in
          let e = and_parts (pointwise queue.ghosts.eq x.queues y.queues) (pointwise work_eq x.works y.works && pointwise actor_eq x.actors y.actors) d.1 in
          let f = and_parts (pointwise work_eq x.works y.works) (pointwise actor_eq x.actors y.actors) e.1 in
          λ i. record {
            cpus = eqb-true x.cpus y.cpus a.0 i;
            workers = eqb-true x.workers y.workers b.0 i;
            steps = eqb-true x.steps y.steps c.0 i;
            flushes = eqb-true x.flushes y.flushes d.0 i;
            queues = queues.0 e.0 i;
            works = works.0 f.0 i;
            actors = actors.0 f.1 i;
          },
      λ e.
          both_true (equal_numbers x.cpus y.cpus (ap (λ s. s.cpus) e))
          (both_true (equal_numbers x.workers y.workers (ap (λ s. s.workers) e))
          (both_true (equal_numbers x.steps y.steps (ap (λ s. s.steps) e))
          (both_true (equal_numbers x.flushes y.flushes (ap (λ s. s.flushes) e))
          (both_true (queues.1 (ap (λ s. s.queues) e))
          (both_true (works.1 (ap (λ s. s.works) e))
          (actors.1 (ap (λ s. s.actors) e))))))),
    )

-- what an answer of each test says
module _ (r : Bool) where
  pub told : {b : Bool} {P : Type 0} → Decides b P → r ≡ b → Decides r P
  told {b} {P} decides e = subst (λ t. Decides t P) (sym e) decides

  pub work_told : (x y : WorkContents) → r ≡ work_eq x y → Decides r (x ≡ y)
  work_told x y = told (work_eq_is_exact x y)

  pub actor_told : (x y : ActorContents) → r ≡ actor_eq x y → Decides r (x ≡ y)
  actor_told x y = told (actor_eq_is_exact x y)

  pub scenario_told : (x y : ScenarioContents) → r ≡ scenario_eq x y → Decides r (x ≡ y)
  scenario_told x y = told (scenario_eq_is_exact x y)
