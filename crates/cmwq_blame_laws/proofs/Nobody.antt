-- Whom nobody is to blame for: where time passes, who waits and blames nobody is frozen or lacks memory.
use Rattle.std.proofs.Common.{◌≡◌, ℕ, ◌<◌, Bool, true, false, cond, List, [], ◌∷◌, length, Option, Some, None, arith, refl, ap, ◌∙◌, inl, inr}
use Rattle.std.proofs.lemmas.Bool.{eqb-true, ltb-true}
use Rattle.std.specs.Prelude.{is_some, ◌==◌}
use Rattle.cmwq_types.specs.Contents.{ScenarioContents}
use Rattle.cmwq_types.specs.Faults.{IsValid}
use Rattle.cmwq_types.specs.First.{by_least}
use Rattle.cmwq_types.specs.Scenario.{pool_count}
use Rattle.cmwq_types.specs.declared.instr.Instr.{Instr}
use Rattle.cmwq_types.specs.declared.moves.Move.{Move}
use Rattle.cmwq_types.specs.declared.reply.Mode.{Mode}
use Rattle.cmwq_types.specs.declared.reply.Mode.TheVariants.{Runnable, Asleep}
use Rattle.cmwq_types.specs.declared.reply.Place.{Place}
use Rattle.cmwq_table.specs.Counts.{burns, first_due, pends, runs}
use Rattle.cmwq_table.specs.Laws.{HasOneRescuer, InEveryState, IsNotReentrant, LeavesNoRoom, placed_in}
use Rattle.cmwq_table.specs.Moves.{first_moving, next_move}
use Rattle.cmwq_table.specs.State.{State, pending_at, running_at}
use Rattle.cmwq_table.specs.Table.{run, table}
use Rattle.cmwq_table.specs.declared.state.Pending.{Pending}
use Rattle.cmwq_table.specs.declared.state.Running.{Running}
use Rattle.cmwq_table.proofs.Choosing.{moving-is_first}
use Rattle.cmwq_reasons.specs.declared.reason.Instance.{Instance}
use Rattle.cmwq_reasons.specs.declared.reason.Reason.{Reason}
use Rattle.cmwq_reasons.specs.declared.reason.Reason.TheVariants as reason
use Rattle.cmwq_reasons.specs.Laws.{EndsBlame, TellsBurns, waits_for_nobody}
use Rattle.cmwq_reasons.specs.Reasons.{causes, mover, moved_by, pending_half, reason_if_pending, reason_if_running, reason_in_place, reason_of, reason_of_running, running_half, work_of}
use Rattle.cmwq_reasons.proofs.BlameLemmas.{ends_blame}
use Rattle.cmwq_reasons.proofs.MoverLemmas.{none-first}
use Rattle.cmwq_reasons.proofs.PendingRows.{PlaceRow, place-row}
use Rattle.cmwq_reasons.proofs.RunningRows.{RunRow, run-row, tells_burns}
use Rattle.cmwq_picture.specs.Picture.{mode_sign, place_sign, run_sign}
use Rattle.cmwq_picture.specs.declared.cell.Sign.TheVariants as sign
use Rattle.cmwq_picture.proofs.TickLemmas.{table-ticks}
use Rattle.cmwq_blame.specs.Blame.{is_wait, pending_counts, running_counts}
use Rattle.cmwq_blame_laws.specs.Laws.{InEveryRun, IsStuck, WaitsForNobodyWhereStuck, is_waiting}
use Rattle.cmwq_blame_laws.proofs.Growing.{either, grown-with}
use Rattle.cmwq_blame_laws.proofs.Places.{pending-in_range, running-in_range}

-- Where time passes, no timer is due, and no pool has a move.

pub record IsQuiet (S : ScenarioContents) (s : State) : Type 0 where
  pub due : first_due S s ≡ None
  pub moving : first_moving S s ≡ None

pub passes-quiet : (S : ScenarioContents) (s : State) (i : Instr) → s.time < (table S s i).0.time → IsQuiet S s
passes-quiet S s i later = elim (table-ticks S s i) [ inl stays ↦ absurd (omega (arith, stays)) | inr has ↦ record { due = has.due; moving = has.moving } ]

moved-some : (o : Option Move) (x : Instance) → moved_by o ≡ Some x → is_some o ≡ true
moved-some (Some move) x e = refl
moved-some None x e = cc

no-move : (S : ScenarioContents) (s : State) (pool : ℕ) → IsQuiet S s → pool < pool_count S → is_some (next_move S s pool) ≡ true → ⊥
no-move S s pool quiet within =
    none-first (by_least (λ pool. pool)) (λ pool. is_some (next_move S s pool)) (pool_count S) (first_moving S s) (moving-is_first S s) quiet.moving pool within

no-mover : (S : ScenarioContents) (s : State) (pool : ℕ) (x : Instance) → IsQuiet S s → pool < pool_count S → mover S s pool ≡ Some x → ⊥
no-mover S s pool x quiet within moves = no-move S s pool quiet within (moved-some (next_move S s pool) x moves)

-- A pending half.

place-stuck : (S : ScenarioContents) (s : State) (w : ℕ) (at : Place) (a : Reason) → IsQuiet S s → ((pool : ℕ) → placed_in at ≡ Some pool → pool < pool_count S)
    → PlaceRow S s w at a → is_wait (place_sign at) ≡ true → waits_for_nobody a ≡ true → (pool : ℕ) × (a ≡ reason.Frozen pool)
place-stuck S s w at a quiet within (PlaceRow.timer due cpu is later) waits nobody = (let sign = ap (λ (p : Place). is_wait (place_sign p)) is in absurd (cc (sign, waits)))
place-stuck S s w at a quiet within (PlaceRow.fires_next due first) waits nobody = absurd (cc (first, quiet.due))
place-stuck S s w at a quiet within (PlaceRow.fires_after v due first apart) waits nobody = absurd (cc (first, quiet.due))
place-stuck S s w at a quiet within (PlaceRow.free pool turn is may moves) waits nobody =
    absurd (no-move S s pool quiet (within pool (ap placed_in is)) (ap is_some moves))
place-stuck S s w at a quiet within (PlaceRow.frozen pool is none) waits nobody = (pool, refl)
place-stuck S s w at a quiet within row waits nobody = cc

-- A running half.

waits-runnable : (b : Bool) (m : Mode) → is_wait (cond b sign.Burns (mode_sign m)) ≡ true → (b ≡ false) × (m ≡ Runnable)
waits-runnable true m e = cc
waits-runnable false Runnable e = (refl, refl)
waits-runnable false (Asleep until) e = cc

run-stuck : (S : ScenarioContents) (s : State) (w : ℕ) (r : Running) (a : Reason) → IsQuiet S s → r.pool < pool_count S → RunRow S s w r a
    → is_wait (run_sign S s w r) ≡ true → (a ≡ reason.Burns → burns S s w (Some r) ≡ true) → waits_for_nobody a ≡ true → ⊥
run-stuck S s w r a quiet within (RunRow.asleep until mode later) waits burning nobody =
    (let runnable = (waits-runnable (burns S s w (Some r)) r.mode waits).1 in cc (mode, runnable))
run-stuck S s w r a quiet within (RunRow.wakes_next slept moves) waits burning nobody = no-mover S s r.pool (running_half w) quiet within moves
run-stuck S s w r a quiet within (RunRow.ready_next head left moves) waits burning nobody = no-mover S s r.pool (running_half w) quiet within moves
run-stuck S s w r a quiet within (RunRow.burning head left above) waits burning nobody =
    (let idle = (waits-runnable (burns S s w (Some r)) r.mode waits).0 in let burnt = burning refl in cc (idle, burnt))
run-stuck S s w r a quiet within row waits burning nobody = cc

-- Counts for nobody.

if-some : (b : Bool) (k : ℕ) → 0 < cond b k 0 → (b ≡ true) × (0 < k)
if-some true k some = (refl, some)
if-some false k some = absurd (omega (arith, some))

none-caused : (xs : List Instance) → 0 < cond (length xs == 0) 1 0 → xs ≡ []
none-caused [] some = refl
none-caused (x ∷ xs) some = absurd (omega (arith, eqb-true (length (x ∷ xs)) 0 (if-some (length (x ∷ xs) == 0) 1 some).0))

module _ (full : InEveryState LeavesNoRoom) (rescuers : InEveryState HasOneRescuer) (apart : InEveryState IsNotReentrant) (S : ScenarioContents) (valid : IsValid S) (instrs : List Instr) (quiet : IsQuiet S (run S instrs)) (w : ℕ) (there : w < length S.works) where
  abbrev s : State
  s = run S instrs

  -- what is found of an instance that waits for nobody
  abbrev IsFound : Type 0
  IsFound = (x : Instance) × (work_of x ≡ w) × (is_waiting S s x ≡ true) × IsStuck S s x

  pending-found : (o : Option Pending) → pending_at s w ≡ o → 0 < pending_counts S s w o None → IsFound
  unfolding EndsBlame
  pending-found (Some p) is some =
      let parts = if-some (is_wait (place_sign p.place)) _ some in
      let a = reason_in_place S s w p.place in
      let told : reason_of S s (pending_half w) ≡ Some a = ap (reason_if_pending S s w) is in
      let none : causes S s w a ≡ [] = none-caused (causes S s w a) parts.1 in
      let waits : is_waiting S s (pending_half w) ≡ true = ap (pends (λ place. is_wait (place_sign place))) is ∙ parts.0 in
      let within = pending-in_range S valid instrs w p is in
      elim (ends_blame full rescuers apart S valid instrs (pending_half w) a there told none) [
        | inl nobody ↦
            let frozen = place-stuck S s w p.place a quiet within (place-row S s w p there is) parts.0 nobody in
            (pending_half w, refl, waits, inl (frozen.0, told ∙ ap Some frozen.1))
        | inr lacks ↦ (pending_half w, refl, waits, inr lacks)
      ]
  pending-found None is some = absurd (omega (arith, some))

  running-found : (o : Option Running) → running_at s w ≡ o → 0 < running_counts S s w o None → IsFound
  unfolding EndsBlame TellsBurns
  running-found (Some r) is some =
      let parts = if-some (is_wait (run_sign S s w r)) _ some in
      let a = reason_of_running S s w r in
      let told : reason_of S s (running_half w) ≡ Some a = ap (reason_if_running S s w) is in
      let none : causes S s w a ≡ [] = none-caused (causes S s w a) parts.1 in
      let waits : is_waiting S s (running_half w) ≡ true = ap (runs (λ r. is_wait (run_sign S s w r))) is ∙ parts.0 in
      let within = running-in_range S instrs w r is in
      elim (ends_blame full rescuers apart S valid instrs (running_half w) a there told none) [
        | inl nobody ↦ absurd (run-stuck S s w r a quiet within (run-row S s w r there is) parts.0 (λ e. ((tells_burns S s w r there is).0 e).0) nobody)
        | inr lacks ↦ (running_half w, refl, waits, inr lacks)
      ]
  running-found None is some = absurd (omega (arith, some))

pub waits_for_nobody_where_stuck : InEveryState LeavesNoRoom → InEveryState HasOneRescuer → InEveryState IsNotReentrant → InEveryRun WaitsForNobodyWhereStuck
unfolding WaitsForNobodyWhereStuck
waits_for_nobody_where_stuck full rescuers apart S valid instrs i w more =
    let s = run S instrs in
    let found = grown-with S instrs i w None more in
    let quiet = passes-quiet S s i found.0 in
    let there = ltb-true w (length S.works) found.1 in
    elim (either (pending_counts S s w (pending_at s w) None) (running_counts S s w (running_at s w) None) found.2) [
      | inl some ↦ pending-found full rescuers apart S valid instrs quiet w there (pending_at s w) refl some
      | inr some ↦ running-found full rescuers apart S valid instrs quiet w there (running_at s w) refl some
    ]
