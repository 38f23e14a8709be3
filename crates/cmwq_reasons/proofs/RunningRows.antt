-- Why a work that runs isn't further, row by row; and that each reason holds exactly where its row's condition does.
use Rattle.std.proofs.Common.{◌≡◌, ℕ, suc, zero, ◌+◌, ◌<◌, Bool, true, false, cond, ◌&&◌, ◌||◌, length, Option, Some, None, arith, refl, sym, ap, ◌∙◌}
use Rattle.std.proofs.lemmas.Bool.{and_from, and_parts, cond-false, cond-true, eq-eqb, eqb-false, eqb-true, false_from_ne_true, le-leb, le-ltb, leb-true, lt-ltb, ltb-false, ltb-true, ne_eqb, or_from, or_parts}
use Rattle.std.specs.Prelude.{◌==◌, is_none, nat_lt}
use Rattle.cmwq_types.specs.Contents.{ScenarioContents}
use Rattle.cmwq_types.specs.declared.instr.WorkId.{WorkId}
use Rattle.cmwq_types.specs.declared.reply.Mode.{Mode}
use Rattle.cmwq_types.specs.declared.reply.Mode.TheVariants.{Runnable, Asleep}
use Rattle.cmwq_table.specs.declared.state.Running.{Running}
use Rattle.cmwq_table.specs.State.{State, is_high, is_unbound, running_at}
use Rattle.cmwq_table.specs.Counts.{burns, first_runnable, is_runnable, is_slept, is_some_work, running_before, runs}
use Rattle.cmwq_reasons.specs.declared.reason.Instance.{Instance}
use Rattle.cmwq_reasons.specs.declared.reason.Reason.{Reason}
use Rattle.cmwq_reasons.specs.declared.reason.Reason.TheVariants as reason
use Rattle.cmwq_reasons.specs.Laws.{InAnyState, IsHead, TellsAsleep, TellsBehind, TellsBurns, TellsHighHas, TellsReadyAfter, TellsReadyNext, TellsWakesAfter, TellsWakesNext}
use Rattle.cmwq_reasons.specs.Reasons.{burns_unless, is_same, mover, next_or_after, other_instance, other_work, reason_in_mode, reason_of_head, reason_of_runnable, reason_of_running, running_half, work_above, work_before}
use Rattle.cmwq_table.proofs.Choosing.{runnable-is_first}
use Rattle.cmwq_reasons.proofs.MoverLemmas.{is_runnable_in, ready-moves, runnable-some, same-false, same-refl, same-true, slept-moves, some-first}

-- of each reason, its condition
pub data RunRow (S : ScenarioContents) (s : State) (w : ℕ) (r : Running) : Reason → Type 0 where
  asleep : (until : ℕ) → r.mode ≡ Asleep until → s.time < until → RunRow S s w r (reason.Asleep until)
  wakes_next : is_slept r.mode s.time ≡ true → mover S s r.pool ≡ Some (running_half w) → RunRow S s w r reason.WakesNext
  wakes_after : (x : Instance) → is_slept r.mode s.time ≡ true → mover S s r.pool ≡ Some x → (x ≡ running_half w → ⊥) → RunRow S s w r (reason.WakesAfter x)
  behind : (v : WorkId) → r.mode ≡ Runnable → is_unbound S r.pool ≡ false → first_runnable S s r.pool ≡ Some v.0 → (v.0 ≡ w → ⊥) → RunRow S s w r (reason.Behind v)
  ready_next : IsHead S s w r → r.left ≡ 0 → mover S s r.pool ≡ Some (running_half w) → RunRow S s w r reason.ReadyNext
  ready_after : (x : Instance) → IsHead S s w r → r.left ≡ 0 → mover S s r.pool ≡ Some x → (x ≡ running_half w → ⊥) → RunRow S s w r (reason.ReadyAfter x)
  high_has : (v : WorkId) → IsHead S s w r → 0 < r.left → is_unbound S r.pool ≡ false → is_high r.pool ≡ false → first_runnable S s (r.pool + 1) ≡ Some v.0
      → RunRow S s w r (reason.HighHas v)
  burning : IsHead S s w r → 0 < r.left → work_above S s r.pool ≡ None → RunRow S s w r reason.Burns

pub not-zero : (n : ℕ) → (n == 0) ≡ false → 0 < n
not-zero zero e = cc
not-zero (suc n) e = omega arith

pub above-zero : (n : ℕ) → 0 < n → (n == 0) ≡ false
above-zero n h = ne_eqb n 0 (λ e. omega arith)

-- Each running half has a row.

module _ (S : ScenarioContents) (s : State) (w : ℕ) (r : Running) (there : w < length S.works) (is : running_at s w ≡ Some r) where
  slept-same : (y : Instance) → is_slept r.mode s.time ≡ true → mover S s r.pool ≡ Some y → (b : Bool) → is_same (running_half w) y ≡ b
      → RunRow S s w r (next_or_after reason.WakesNext reason.WakesAfter (cond b None (Some y)))
  slept-same y slept moves true e = RunRow.wakes_next slept (moves ∙ ap Some (sym (same-true (running_half w) y e)))
  slept-same y slept moves false e = RunRow.wakes_after y slept moves (same-false (running_half w) y e)

  slept-row : is_slept r.mode s.time ≡ true → (o : Option Instance) → mover S s r.pool ≡ o
      → RunRow S s w r (next_or_after reason.WakesNext reason.WakesAfter (other_instance (running_half w) o))
  slept-row slept (Some y) moves = slept-same y slept moves (is_same (running_half w) y) refl
  slept-row slept None moves = absurd (slept-moves S s w r there is slept moves)

  ready-same : (y : Instance) → IsHead S s w r → r.left ≡ 0 → mover S s r.pool ≡ Some y → (b : Bool) → is_same (running_half w) y ≡ b
      → RunRow S s w r (next_or_after reason.ReadyNext reason.ReadyAfter (cond b None (Some y)))
  ready-same y head left moves true e = RunRow.ready_next head left (moves ∙ ap Some (sym (same-true (running_half w) y e)))
  ready-same y head left moves false e = RunRow.ready_after y head left moves (same-false (running_half w) y e)

  ready-row : IsHead S s w r → r.left ≡ 0 → (o : Option Instance) → mover S s r.pool ≡ o
      → RunRow S s w r (next_or_after reason.ReadyNext reason.ReadyAfter (other_instance (running_half w) o))
  ready-row head left (Some y) moves = ready-same y head left moves (is_same (running_half w) y) refl
  ready-row head left None moves = absurd (ready-moves S s w r there is head left moves)

  above-is : (v : ℕ) (b : Bool) → (is_unbound S r.pool || is_high r.pool) ≡ b → cond b None (first_runnable S s (r.pool + 1)) ≡ Some v
      → (is_unbound S r.pool ≡ false) × (is_high r.pool ≡ false) × (first_runnable S s (r.pool + 1) ≡ Some v)
  above-is v true e found = cc
  above-is v false e found = let both = or_parts (is_unbound S r.pool) (is_high r.pool) e in (both.0, both.1, found)

  burns-row : IsHead S s w r → 0 < r.left → (o : Option ℕ) → work_above S s r.pool ≡ o → RunRow S s w r (burns_unless o)
  burns-row head left (Some v) found =
      let high = above-is v (is_unbound S r.pool || is_high r.pool) refl found in
      RunRow.high_has (record { 0 = v }) head left high.0 high.1 high.2
  burns-row head left None found = RunRow.burning head left found

  head-row : IsHead S s w r → (b : Bool) → (r.left == 0) ≡ b
      → RunRow S s w r (cond b (next_or_after reason.ReadyNext reason.ReadyAfter (other_instance (running_half w) (mover S s r.pool))) (burns_unless (work_above S s r.pool)))
  head-row head true e = ready-row head (eqb-true r.left 0 e) (mover S s r.pool) refl
  head-row head false e = burns-row head (not-zero r.left e) (work_above S s r.pool) refl

  -- who goes before on the CPU
  before-is : (v : ℕ) (o : Option ℕ) (b : Bool) → first_runnable S s r.pool ≡ o → is_unbound S r.pool ≡ b → cond b None (other_work w o) ≡ Some v
      → (is_unbound S r.pool ≡ false) × (first_runnable S s r.pool ≡ Some v) × (v ≡ w → ⊥)
  before-is v o true first e found = cc
  before-is v None false first e found = cc
  before-is v (Some u) false first e found = other (u == w) refl found
    where
      other : (c : Bool) → (u == w) ≡ c → cond c None (Some u) ≡ Some v → (is_unbound S r.pool ≡ false) × (first_runnable S s r.pool ≡ Some v) × (v ≡ w → ⊥)
      other true same is_v = cc
      other false apart is_v =
          let u_is : u ≡ v = cc in
          (e, first ∙ ap Some u_is, λ v_is. eqb-false u w apart (u_is ∙ v_is))

  none-before : (o : Option ℕ) (b : Bool) → r.mode ≡ Runnable → first_runnable S s r.pool ≡ o → is_unbound S r.pool ≡ b → cond b None (other_work w o) ≡ None
      → is_unbound S r.pool ≡ false → first_runnable S s r.pool ≡ Some w
  none-before o true mode first e found bound = cc
  none-before None false mode first e found bound = absurd (runnable-some S s w r there is mode first)
  none-before (Some u) false mode first e found bound = same (u == w) refl found
    where
      same : (c : Bool) → (u == w) ≡ c → cond c None (Some u) ≡ None → first_runnable S s r.pool ≡ Some w
      same true u_is none = first ∙ ap Some (eqb-true u w u_is)
      same false u_is none = cc

  runnable-row : r.mode ≡ Runnable → (o : Option ℕ) → work_before S s w r.pool ≡ o → RunRow S s w r (reason_of_runnable S s w r o)
  runnable-row mode (Some v) found =
      let before = before-is v (first_runnable S s r.pool) (is_unbound S r.pool) refl refl found in
      RunRow.behind (record { 0 = v }) mode before.0 before.1 before.2
  runnable-row mode None found =
      head-row (mode, none-before (first_runnable S s r.pool) (is_unbound S r.pool) mode refl refl found) (r.left == 0) refl

  asleep-row : (until : ℕ) → r.mode ≡ Asleep until → (b : Bool) → nat_lt s.time until ≡ b
      → RunRow S s w r (cond b (reason.Asleep until) (next_or_after reason.WakesNext reason.WakesAfter (other_instance (running_half w) (mover S s r.pool))))
  asleep-row until mode true e = RunRow.asleep until mode (ltb-true s.time until e)
  asleep-row until mode false e =
      let over : is_slept r.mode s.time ≡ true = ap (λ (m : Mode). is_slept m s.time) mode ∙ le-leb until s.time (ltb-false s.time until e) in
      slept-row over (mover S s r.pool) refl

  mode-row : (m : Mode) → r.mode ≡ m → RunRow S s w r (reason_in_mode S s w r m)
  mode-row Runnable mode = runnable-row mode (work_before S s w r.pool) refl
  mode-row (Asleep until) mode = asleep-row until mode (nat_lt s.time until) refl

  pub run-row : RunRow S s w r (reason_of_running S s w r)
  run-row = mode-row r.mode refl

-- Each row's condition is that of its reason.

other-self : (x : Instance) → other_instance x (Some x) ≡ None
other-self x = cond-true (is_same x x) None (Some x) (same-refl x)

other-else : (x y : Instance) → (y ≡ x → ⊥) → other_instance x (Some y) ≡ Some y
other-else x y apart = cond-false (is_same x y) None (Some y) (false_from_ne_true (is_same x y) (λ same. apart (sym (same-true x y same))))

pub runnable-is : (m : Mode) → is_runnable m ≡ true → m ≡ Runnable
runnable-is Runnable e = refl
runnable-is (Asleep until) e = cc

some_work-is : (o : Option ℕ) (w : ℕ) → is_some_work o w ≡ true → o ≡ Some w
some_work-is (Some v) w e = ap Some (eqb-true v w e)
some_work-is None w e = cc

none-is : (o : Option ℕ) → is_none o ≡ true → o ≡ None
none-is (Some v) e = cc
none-is None e = refl

cond-none : (b : Bool) (o : Option ℕ) → o ≡ None → cond b None o ≡ None
cond-none true o e = refl
cond-none false o e = e

module _ (S : ScenarioContents) (s : State) (w : ℕ) (r : Running) where
  asleep-from : (a : Reason) → RunRow S s w r a → (until : ℕ) → a ≡ reason.Asleep until → (r.mode ≡ Asleep until) × (s.time < until)
  asleep-from a (RunRow.asleep u mode later) until e = let same : u ≡ until = cc in (mode ∙ ap Asleep same, omega arith)
  asleep-from a row until e = cc

  wakes_next-from : (a : Reason) → RunRow S s w r a → a ≡ reason.WakesNext → (is_slept r.mode s.time ≡ true) × (mover S s r.pool ≡ Some (running_half w))
  wakes_next-from a (RunRow.wakes_next slept moves) e = (slept, moves)
  wakes_next-from a row e = cc

  wakes_after-from : (a : Reason) → RunRow S s w r a → (x : Instance) → a ≡ reason.WakesAfter x
      → (is_slept r.mode s.time ≡ true) × (mover S s r.pool ≡ Some x) × (x ≡ running_half w → ⊥)
  wakes_after-from a (RunRow.wakes_after y slept moves apart) x e = let same : y ≡ x = cc in (slept, moves ∙ ap Some same, λ is. apart (same ∙ is))
  wakes_after-from a row x e = cc

  behind-from : (a : Reason) → RunRow S s w r a → (v : WorkId) → a ≡ reason.Behind v
      → (r.mode ≡ Runnable) × (is_unbound S r.pool ≡ false) × (first_runnable S s r.pool ≡ Some v.0) × (v.0 ≡ w → ⊥)
  behind-from a (RunRow.behind u mode bound first apart) v e =
      let same : u ≡ v = cc in
      (mode, bound, first ∙ ap (λ (x : WorkId). Some x.0) same, λ is. apart (ap (λ (x : WorkId). x.0) same ∙ is))
  behind-from a row v e = cc

  ready_next-from : (a : Reason) → RunRow S s w r a → a ≡ reason.ReadyNext → IsHead S s w r × (r.left ≡ 0) × (mover S s r.pool ≡ Some (running_half w))
  ready_next-from a (RunRow.ready_next head left moves) e = (head, left, moves)
  ready_next-from a row e = cc

  ready_after-from : (a : Reason) → RunRow S s w r a → (x : Instance) → a ≡ reason.ReadyAfter x
      → IsHead S s w r × (r.left ≡ 0) × (mover S s r.pool ≡ Some x) × (x ≡ running_half w → ⊥)
  ready_after-from a (RunRow.ready_after y head left moves apart) x e = let same : y ≡ x = cc in (head, left, moves ∙ ap Some same, λ is. apart (same ∙ is))
  ready_after-from a row x e = cc

  high_has-from : (a : Reason) → RunRow S s w r a → (v : WorkId) → a ≡ reason.HighHas v
      → IsHead S s w r × (0 < r.left) × (is_unbound S r.pool ≡ false) × (is_high r.pool ≡ false) × (first_runnable S s (r.pool + 1) ≡ Some v.0)
  high_has-from a (RunRow.high_has u head left bound normal first) v e =
      let same : u ≡ v = cc in
      (head, left, bound, normal, first ∙ ap (λ (x : WorkId). Some x.0) same)
  high_has-from a row v e = cc

  above-burns : (high : Bool) (o : Option ℕ) → cond high None o ≡ None → (high || is_none o) ≡ true
  above-burns true o e = refl
  above-burns false o e = ap is_none e

  head-burns : IsHead S s w r → (b : Bool) → is_unbound S r.pool ≡ b → cond (b || is_high r.pool) None (first_runnable S s (r.pool + 1)) ≡ None
      → cond b (is_runnable r.mode) (is_some_work (first_runnable S s r.pool) w && (is_high r.pool || is_none (first_runnable S s (r.pool + 1)))) ≡ true
  head-burns head true e above = ap is_runnable head.0
  head-burns head false e above =
      and_from (is_some_work (first_runnable S s r.pool) w) (is_high r.pool || is_none (first_runnable S s (r.pool + 1)))
      (ap (λ (o : Option ℕ). is_some_work o w) (head.1 e) ∙ eq-eqb w w refl) (above-burns (is_high r.pool) (first_runnable S s (r.pool + 1)) above)

  pub burns-from : (a : Reason) → RunRow S s w r a → a ≡ reason.Burns → (burns S s w (Some r) ≡ true) × (0 < r.left)
  burns-from a (RunRow.burning head left above) e = (head-burns head (is_unbound S r.pool) refl above, left)
  burns-from a row e = cc

  asleep-to : (until : ℕ) → (r.mode ≡ Asleep until) × (s.time < until) → reason_of_running S s w r ≡ reason.Asleep until
  asleep-to until h =
      ap (reason_in_mode S s w r) h.0
      ∙ cond-true (nat_lt s.time until) (reason.Asleep until) (next_or_after reason.WakesNext reason.WakesAfter (other_instance (running_half w) (mover S s r.pool)))
      (lt-ltb s.time until h.1)

  slept-reason : (m : Mode) → is_slept m s.time ≡ true
      → reason_in_mode S s w r m ≡ next_or_after reason.WakesNext reason.WakesAfter (other_instance (running_half w) (mover S s r.pool))
  slept-reason Runnable e = cc
  slept-reason (Asleep until) e =
      cond-false (nat_lt s.time until) (reason.Asleep until) (next_or_after reason.WakesNext reason.WakesAfter (other_instance (running_half w) (mover S s r.pool)))
      (le-ltb s.time until (leb-true until s.time e))

  pub wakes_next-to : (is_slept r.mode s.time ≡ true) × (mover S s r.pool ≡ Some (running_half w)) → reason_of_running S s w r ≡ reason.WakesNext
  wakes_next-to h =
      slept-reason r.mode h.0 ∙ ap (λ (o : Option Instance). next_or_after reason.WakesNext reason.WakesAfter (other_instance (running_half w) o)) h.1
      ∙ ap (next_or_after reason.WakesNext reason.WakesAfter) (other-self (running_half w))

  wakes_after-to : (x : Instance) → (is_slept r.mode s.time ≡ true) × (mover S s r.pool ≡ Some x) × (x ≡ running_half w → ⊥)
      → reason_of_running S s w r ≡ reason.WakesAfter x
  wakes_after-to x h =
      slept-reason r.mode h.0 ∙ ap (λ (o : Option Instance). next_or_after reason.WakesNext reason.WakesAfter (other_instance (running_half w) o)) h.1
      ∙ ap (next_or_after reason.WakesNext reason.WakesAfter) (other-else (running_half w) x h.2)

  behind-to : (v : WorkId) → (r.mode ≡ Runnable) × (is_unbound S r.pool ≡ false) × (first_runnable S s r.pool ≡ Some v.0) × (v.0 ≡ w → ⊥)
      → reason_of_running S s w r ≡ reason.Behind v
  behind-to v h =
      let before : work_before S s w r.pool ≡ Some v.0 =
      cond-false (is_unbound S r.pool) None (other_work w (first_runnable S s r.pool)) h.1 ∙ ap (other_work w) h.2
      ∙ cond-false (v.0 == w) None (Some v.0) (ne_eqb v.0 w h.3) in
      ap (reason_in_mode S s w r) h.0 ∙ ap (reason_of_runnable S s w r) before

  none-goes : (b : Bool) → (b ≡ false → first_runnable S s r.pool ≡ Some w) → cond b None (other_work w (first_runnable S s r.pool)) ≡ None
  none-goes true first = refl
  none-goes false first = ap (other_work w) (first refl) ∙ cond-true (w == w) None (Some w) (eq-eqb w w refl)

  pub head-reason : IsHead S s w r → reason_of_running S s w r ≡ reason_of_head S s w r
  head-reason head = ap (reason_in_mode S s w r) head.0 ∙ ap (reason_of_runnable S s w r) (none-goes (is_unbound S r.pool) head.1)

  ready-reason : IsHead S s w r → r.left ≡ 0
      → reason_of_running S s w r ≡ next_or_after reason.ReadyNext reason.ReadyAfter (other_instance (running_half w) (mover S s r.pool))
  ready-reason head left =
      head-reason head
      ∙ cond-true (r.left == 0) (next_or_after reason.ReadyNext reason.ReadyAfter (other_instance (running_half w) (mover S s r.pool))) (burns_unless (work_above S s r.pool))
      (eq-eqb r.left 0 left)

  pub ready_next-to : IsHead S s w r × (r.left ≡ 0) × (mover S s r.pool ≡ Some (running_half w)) → reason_of_running S s w r ≡ reason.ReadyNext
  ready_next-to h =
      ready-reason h.0 h.1 ∙ ap (λ (o : Option Instance). next_or_after reason.ReadyNext reason.ReadyAfter (other_instance (running_half w) o)) h.2
      ∙ ap (next_or_after reason.ReadyNext reason.ReadyAfter) (other-self (running_half w))

  ready_after-to : (x : Instance) → IsHead S s w r × (r.left ≡ 0) × (mover S s r.pool ≡ Some x) × (x ≡ running_half w → ⊥)
      → reason_of_running S s w r ≡ reason.ReadyAfter x
  ready_after-to x h =
      ready-reason h.0 h.1 ∙ ap (λ (o : Option Instance). next_or_after reason.ReadyNext reason.ReadyAfter (other_instance (running_half w) o)) h.2
      ∙ ap (next_or_after reason.ReadyNext reason.ReadyAfter) (other-else (running_half w) x h.3)

  busy-reason : IsHead S s w r → 0 < r.left → (o : Option ℕ) → work_above S s r.pool ≡ o → reason_of_running S s w r ≡ burns_unless o
  busy-reason head left o above =
      head-reason head
      ∙ cond-false (r.left == 0) (next_or_after reason.ReadyNext reason.ReadyAfter (other_instance (running_half w) (mover S s r.pool))) (burns_unless (work_above S s r.pool))
      (above-zero r.left left) ∙ ap burns_unless above

  high_has-to : (v : WorkId) → IsHead S s w r × (0 < r.left) × (is_unbound S r.pool ≡ false) × (is_high r.pool ≡ false) × (first_runnable S s (r.pool + 1) ≡ Some v.0)
      → reason_of_running S s w r ≡ reason.HighHas v
  high_has-to v h =
      busy-reason h.0 h.1 (Some v.0)
      (cond-false (is_unbound S r.pool || is_high r.pool) None (first_runnable S s (r.pool + 1)) (or_from (is_unbound S r.pool) (is_high r.pool) h.2 h.3) ∙ h.4)

  none-above : (unbound high : Bool) (o : Option ℕ) → (high || is_none o) ≡ true → cond (unbound || high) None o ≡ None
  none-above true high o e = refl
  none-above false true o e = refl
  none-above false false o e = none-is o e

  pub burns-parts : running_at s w ≡ Some r → (b : Bool) → is_unbound S r.pool ≡ b
      → cond b (is_runnable r.mode) (is_some_work (first_runnable S s r.pool) w && (is_high r.pool || is_none (first_runnable S s (r.pool + 1)))) ≡ true
      → IsHead S s w r × (cond (b || is_high r.pool) None (first_runnable S s (r.pool + 1)) ≡ None)
  burns-parts is true e passes = ((runnable-is r.mode passes, λ bound. absurd (cc (e, bound))), refl)
  burns-parts is false e passes =
      let both = and_parts (is_some_work (first_runnable S s r.pool) w) (is_high r.pool || is_none (first_runnable S s (r.pool + 1))) passes in
      let first : first_runnable S s r.pool ≡ Some w = some_work-is (first_runnable S s r.pool) w both.0 in
      let runs_there = (some-first (running_before s) (is_runnable_in s r.pool) (length S.works) (first_runnable S s r.pool) (runnable-is_first S s r.pool) w first).1 in
      let mode : is_runnable r.mode ≡ true =
      (and_parts (r.pool == r.pool) (is_runnable r.mode) (ap (runs (λ q. (q.pool == r.pool) && is_runnable q.mode)) (sym is) ∙ runs_there)).1 in
      ((runnable-is r.mode mode, λ bound. first), none-above false (is_high r.pool) (first_runnable S s (r.pool + 1)) both.1)

  pub burns-to : running_at s w ≡ Some r → (burns S s w (Some r) ≡ true) × (0 < r.left) → reason_of_running S s w r ≡ reason.Burns
  burns-to is h =
      let parts = burns-parts is (is_unbound S r.pool) refl h.0 in
      busy-reason parts.0 h.1 None parts.1

-- Each reason holds exactly where its condition does.

pub tells_asleep : InAnyState TellsAsleep
unfolding TellsAsleep
tells_asleep S s w r there is until = (asleep-from S s w r (reason_of_running S s w r) (run-row S s w r there is) until, asleep-to S s w r until)

pub tells_wakes_next : InAnyState TellsWakesNext
unfolding TellsWakesNext
tells_wakes_next S s w r there is = (wakes_next-from S s w r (reason_of_running S s w r) (run-row S s w r there is), wakes_next-to S s w r)

pub tells_wakes_after : InAnyState TellsWakesAfter
unfolding TellsWakesAfter
tells_wakes_after S s w r there is x = (wakes_after-from S s w r (reason_of_running S s w r) (run-row S s w r there is) x, wakes_after-to S s w r x)

pub tells_behind : InAnyState TellsBehind
unfolding TellsBehind
tells_behind S s w r there is v = (behind-from S s w r (reason_of_running S s w r) (run-row S s w r there is) v, behind-to S s w r v)

pub tells_ready_next : InAnyState TellsReadyNext
unfolding TellsReadyNext
tells_ready_next S s w r there is = (ready_next-from S s w r (reason_of_running S s w r) (run-row S s w r there is), ready_next-to S s w r)

pub tells_ready_after : InAnyState TellsReadyAfter
unfolding TellsReadyAfter
tells_ready_after S s w r there is x = (ready_after-from S s w r (reason_of_running S s w r) (run-row S s w r there is) x, ready_after-to S s w r x)

pub tells_high_has : InAnyState TellsHighHas
unfolding TellsHighHas
tells_high_has S s w r there is v = (high_has-from S s w r (reason_of_running S s w r) (run-row S s w r there is) v, high_has-to S s w r v)

pub tells_burns : InAnyState TellsBurns
unfolding TellsBurns
tells_burns S s w r there is = (burns-from S s w r (reason_of_running S s w r) (run-row S s w r there is), burns-to S s w r is)

pub ruleset running_rows = (tells_asleep, tells_wakes_next, tells_wakes_after, tells_behind, tells_ready_next, tells_ready_after, tells_high_has, tells_burns)
