-- What an instruction makes of the two halves of one work, as its reply tells.
use Rattle.std.proofs.Common.{◌≡◌, ℕ, Bool, true, false, ◌&&◌, List, length, Option, None, arith, refl, sym, ap, ◌∙◌, subst, inl, inr}
use Rattle.std.proofs.lemmas.Bool.{cases_eq, eq-eqb, ne_eqb}
use Rattle.std.proofs.lemmas.List.{get_or-set_other, get_or-set_same}
use Rattle.std.specs.Prelude.{is_some, slice_index_or, slice_set, ◌==◌}
use Rattle.cmwq_types.specs.Contents.{ScenarioContents}
use Rattle.cmwq_types.specs.declared.reply.Event.{Event}
use Rattle.cmwq_types.specs.declared.reply.Reply.{Reply}
use Rattle.cmwq_types.specs.declared.reply.Reply.TheVariants as reply
use Rattle.cmwq_table.specs.Counts.{is_some_work}
use Rattle.cmwq_table.specs.State.{State, pending_at, running_at}
use Rattle.cmwq_table.specs.declared.state.Running.{Running}
use Rattle.cmwq_table.specs.Told.{finished_by, is_end, is_start, started_by, work_if}
use Rattle.cmwq_burning.specs.Burning.{finishes_work, starts_work}
use Rattle.cmwq_burning.proofs.Happening.{Changes, Happens}
use Rattle.cmwq_ledger_laws.proofs.Ticking.{tick-some}
use Rattle.cmwq_ledger_laws.proofs.Turning.{Turns}

-- Whether the pending half of a work begins to run, is taken off, and is asked for; whether it was there, and is.
pub data Pends : Bool → Bool → Bool → Bool → Bool → Type 0 where
  stays : (there : Bool) → Pends false false false there there
  begins : Pends true false false true false
  ends : Pends false true false true false
  comes : Pends false false true false true
  anew : Pends false true true true true

-- Whether a run of the work begins, and ends; whether there was one, and is.
pub data Runs : Bool → Bool → Bool → Bool → Type 0 where
  stays : (there : Bool) → Runs false false there there
  begins : Runs true false false true
  ends : Runs false true true false
  again : Runs true true true true

-- The pending half.

pends-as : (a b c d e v w x y z : Bool) → v ≡ a → w ≡ b → x ≡ c → y ≡ d → z ≡ e → Pends a b c d e → Pends v w x y z
pends-as a b c d e v w x y z p q r s t half = rw (p, q, r, s, t) half

stays-else : (s t : State) (v w : ℕ) (else : is_some (pending_at t w) ≡ is_some (pending_at s w)) (a b c : Bool) → a ≡ false → b ≡ false → c ≡ false
    → Pends a b c (is_some (pending_at s w)) (is_some (pending_at t w))
stays-else s t v w else a b c p q r =
    pends-as false false false (is_some (pending_at s w)) (is_some (pending_at s w)) a b c (is_some (pending_at s w)) (is_some (pending_at t w)) p q r refl else (Pends.stays (is_some (pending_at s w)))

pub pending-half : (s t : State) (st c req : Option ℕ) → Turns s t st c req → (w : ℕ)
    → Pends (is_some_work st w) (is_some_work c w) (is_some_work req w) (is_some (pending_at s w)) (is_some (pending_at t w))
pending-half s t st c req (Turns.stays same) w = stays-else s t w w (same.some w) false false false refl refl refl
pending-half s t st c req (Turns.starts v was without) w = elim (cases_eq w v) [
  | inl e ↦ subst (λ (k : ℕ). Pends (v == k) false false (is_some (pending_at s k)) (is_some (pending_at t k))) (sym e)
      (pends-as true false false true false (v == v) false false (is_some (pending_at s v)) (is_some (pending_at t v)) (eq-eqb v v refl) refl refl was without.here Pends.begins)
  | inr ne ↦ stays-else s t v w (without.else w ne) (v == w) false false (ne_eqb v w (λ e. ne (sym e))) refl refl
]
pending-half s t st c req (Turns.cancels v was without) w = elim (cases_eq w v) [
  | inl e ↦ subst (λ (k : ℕ). Pends false (v == k) false (is_some (pending_at s k)) (is_some (pending_at t k))) (sym e)
      (pends-as false true false true false false (v == v) false (is_some (pending_at s v)) (is_some (pending_at t v)) refl (eq-eqb v v refl) refl was without.here Pends.ends)
  | inr ne ↦ stays-else s t v w (without.else w ne) false (v == w) false refl (ne_eqb v w (λ e. ne (sym e))) refl
]
pending-half s t st c req (Turns.requests v was with) w = elim (cases_eq w v) [
  | inl e ↦ subst (λ (k : ℕ). Pends false false (v == k) (is_some (pending_at s k)) (is_some (pending_at t k))) (sym e)
      (pends-as false false true false true false false (v == v) (is_some (pending_at s v)) (is_some (pending_at t v)) refl refl (eq-eqb v v refl) was with.here Pends.comes)
  | inr ne ↦ stays-else s t v w (with.else w ne) false false (v == w) refl refl (ne_eqb v w (λ e. ne (sym e)))
]
pending-half s t st c req (Turns.changes v was same) w = elim (cases_eq w v) [
  | inl e ↦ subst (λ (k : ℕ). Pends false (v == k) (v == k) (is_some (pending_at s k)) (is_some (pending_at t k))) (sym e)
      (pends-as false true true true true false (v == v) (v == v) (is_some (pending_at s v)) (is_some (pending_at t v)) refl (eq-eqb v v refl) (eq-eqb v v refl) was (same.some v ∙ was) Pends.anew)
  | inr ne ↦ stays-else s t v w (same.some w) false (v == w) (v == w) refl (ne_eqb v w (λ e. ne (sym e))) (ne_eqb v w (λ e. ne (sym e)))
]

-- The running half.

if-work : (b : Bool) (v w : ℕ) → is_some_work (work_if b v) w ≡ (b && (v == w))
if-work true v w = refl
if-work false v w = refl

pub started-tells : (r : Reply) (w : ℕ) → is_some_work (started_by r) w ≡ starts_work w r
started-tells (reply.Event work event) w = if-work (is_start event) work.0 w
started-tells reply.Queued w = refl
started-tells reply.Already w = refl
started-tells reply.Changed w = refl
started-tells reply.Cancelled w = refl
started-tells reply.NotPending w = refl
started-tells (reply.Sync was flush) w = refl
started-tells (reply.Flush flush) w = refl
started-tells reply.Done w = refl
started-tells reply.Yes w = refl
started-tells reply.No w = refl
started-tells (reply.Found found) w = refl
started-tells (reply.Refused refusal) w = refl

pub finished-tells : (r : Reply) (w : ℕ) → is_some_work (finished_by r) w ≡ finishes_work w r
finished-tells (reply.Event work event) w = if-work (is_end event) work.0 w
finished-tells reply.Queued w = refl
finished-tells reply.Already w = refl
finished-tells reply.Changed w = refl
finished-tells reply.Cancelled w = refl
finished-tells reply.NotPending w = refl
finished-tells (reply.Sync was flush) w = refl
finished-tells (reply.Flush flush) w = refl
finished-tells reply.Done w = refl
finished-tells reply.Yes w = refl
finished-tells reply.No w = refl
finished-tells (reply.Found found) w = refl
finished-tells (reply.Refused refusal) w = refl

runs-as : (a b c d w x y z : Bool) → w ≡ a → x ≡ b → y ≡ c → z ≡ d → Runs a b c d → Runs w x y z
runs-as a b c d w x y z p q r s half = rw (p, q, r, s) half

stays-running : (a b x y : Bool) → x ≡ false → y ≡ false → b ≡ a → Runs x y a b
stays-running a b x y p q e = runs-as false false a a x y a b p q refl e (Runs.stays a)

moved-half : (S : ScenarioContents) (w : ℕ) (a b : Option Running) (e : Event) (x y : Bool) → x ≡ is_start e → y ≡ is_end e → Changes S w a b e → Runs x y (is_some a) (is_some b)
moved-half S w a b e x y p q (Changes.starts r e1 there at_start begun no_end) = runs-as true false false true x y false true (p ∙ begun) (q ∙ no_end) refl refl Runs.begins
moved-half S w a b e x y p q (Changes.goes_on r q1 e1 same balance no_start no_end) = stays-running true true x y (p ∙ no_start) (q ∙ no_end) refl
moved-half S w a b e x y p q (Changes.ends r ended) = runs-as false true true false x y true false p q refl refl Runs.ends
moved-half S w a b e x y p q (Changes.again r q1 same ended at_start) = runs-as true true true true x y true true p q refl refl Runs.again

pub both-true : (b c : Bool) → c ≡ true → (b && c) ≡ b
both-true true c e = e
both-true false c e = refl

pub both-false : (b c : Bool) → c ≡ false → (b && c) ≡ false
both-false true c e = e
both-false false c e = refl

pub running-half : (S : ScenarioContents) (s : State) (running : List (Option Running)) (time : ℕ) (r : Reply) → length s.running ≡ length S.works
    → Happens S s running time r → (w : ℕ) → Runs (starts_work w r) (finishes_work w r) (is_some (running_at s w)) (is_some (slice_index_or running w None))
running-half S s running time r long (Happens.nothing same still silent) w =
    stays-running (is_some (running_at s w)) (is_some (slice_index_or running w None)) (starts_work w r) (finishes_work w r) (silent w).0 (silent w).1
    (ap (λ (rs : List (Option Running)). is_some (slice_index_or rs w None)) same)
running-half S s running time r long (Happens.passes settled ticked later silent) w =
    stays-running (is_some (running_at s w)) (is_some (slice_index_or running w None)) (starts_work w r) (finishes_work w r) (silent w).0 (silent w).1
    (ap (λ (rs : List (Option Running)). is_some (slice_index_or rs w None)) ticked ∙ tick-some S s w)
running-half S s running time r long (Happens.moves v e q h set still told changes) w =
    subst (λ (x : Reply). Runs (starts_work w x) (finishes_work w x) (is_some (running_at s w)) (is_some (slice_index_or running w None))) (sym told)
    (subst (λ (rs : List (Option Running)). Runs (starts_work w (reply.Event v e)) (finishes_work w (reply.Event v e)) (is_some (running_at s w)) (is_some (slice_index_or rs w None))) (sym set) (elim (cases_eq w v.0) [
      | inl same ↦
          let here : slice_index_or (slice_set s.running v.0 q) v.0 None ≡ q = get_or-set_same s.running v.0 q None (omega (arith, long)) in
          subst (λ (k : ℕ). Runs (starts_work k (reply.Event v e)) (finishes_work k (reply.Event v e)) (is_some (running_at s k)) (is_some (slice_index_or (slice_set s.running v.0 q) k None))) (sym same)
          (subst (λ (o : Option Running). Runs (is_start e && (v.0 == v.0)) (is_end e && (v.0 == v.0)) (is_some (running_at s v.0)) (is_some o)) (sym here)
          (moved-half S v.0 (running_at s v.0) q e (is_start e && (v.0 == v.0)) (is_end e && (v.0 == v.0)) (both-true (is_start e) (v.0 == v.0) (eq-eqb v.0 v.0 refl)) (both-true (is_end e) (v.0 == v.0) (eq-eqb v.0 v.0 refl)) changes))
      | inr ne ↦
          let apart : (v.0 == w) ≡ false = ne_eqb v.0 w (λ same. ne (sym same)) in
          stays-running (is_some (running_at s w)) (is_some (slice_index_or (slice_set s.running v.0 q) w None)) (is_start e && (v.0 == w)) (is_end e && (v.0 == w))
          (both-false (is_start e) (v.0 == w) apart) (both-false (is_end e) (v.0 == w) apart)
          (ap is_some (get_or-set_other s.running v.0 w q None ne))
    ]))
