-- How many of the ticks that pass show that a work burns.
use Rattle.std.proofs.Common.{◌≡◌, ℕ, ◌+◌, Bool, true, false, ◌&&◌, cond, List, [], ◌∷◌, ◌++◌, Option, Some, None, arith, refl, sym, ap, ◌∙◌}
use Rattle.std.proofs.lemmas.List.Sums.{sum_by-cons}
use Rattle.std.specs.List.{count_by}
use Rattle.std.specs.Prelude.{map, nat_lt}
use Rattle.cmwq_types.specs.Contents.{ScenarioContents}
use Rattle.cmwq_types.specs.declared.instr.Instr.{Instr}
use Rattle.cmwq_types.specs.declared.instr.WorkId.{WorkId}
use Rattle.cmwq_types.specs.declared.reply.Mode.{Mode}
use Rattle.cmwq_types.specs.declared.reply.Mode.TheVariants.{Runnable, Asleep}
use Rattle.cmwq_types.specs.declared.reply.Place.{Place}
use Rattle.cmwq_types.specs.declared.reply.Place.TheVariants as place
use Rattle.cmwq_table.specs.Counts.{burns}
use Rattle.cmwq_table.specs.Laws.{state_after}
use Rattle.cmwq_table.specs.State.{State, pending_at, running_at}
use Rattle.cmwq_table.specs.declared.state.Pending.{Pending}
use Rattle.cmwq_table.specs.declared.state.Running.{Running}
use Rattle.cmwq_burning.specs.Burning.{ticks_burned}
use Rattle.cmwq_picture.specs.Arming.{armer, marked}
use Rattle.cmwq_picture.specs.Picture.{Deeds, cell, mode_sign, pending_cell, place_sign, run_or_pending, ticks_from, work_sign}
use Rattle.cmwq_picture.specs.declared.cell.Cell.{Cell}
use Rattle.cmwq_picture.specs.declared.cell.Cell.TheVariants.{Does}
use Rattle.cmwq_picture.specs.declared.cell.Sign.TheVariants as sign
use Rattle.cmwq_picture.specs.declared.row.Title.TheVariants as title
use Rattle.cmwq_picture_laws.specs.Signs.{is_burning, shows_burning}

-- A sign tells that a work burns exactly where it burns.

mode-shown : (mode : Mode) → is_burning (mode_sign mode) ≡ false
mode-shown Runnable = refl
mode-shown (Asleep until) = refl

run-shown : (mode : Mode) (b : Bool) → shows_burning (Does (cond b sign.Burns (mode_sign mode))) ≡ b
run-shown mode true = refl
run-shown mode false = mode-shown mode

place-shown : (at : Place) → is_burning (place_sign at) ≡ false
place-shown (place.Timer due cpu) = refl
place-shown (place.Inactive pool) = refl
place-shown (place.Listed pool) = refl
place-shown (place.Deferred pool) = refl

pending-shown : (o : Option Pending) → shows_burning (pending_cell o) ≡ false
pending-shown (Some p) = place-shown p.place
pending-shown None = refl

burning-shown : (S : ScenarioContents) (s : State) (w : ℕ) (o : Option Running) → shows_burning (run_or_pending S s w o) ≡ burns S s w o
burning-shown S s w (Some r) = run-shown r.mode (burns S s w (Some r))
burning-shown S s w None = pending-shown (pending_at s w)

-- A mark tells nothing of burning.

mark-burns : (by : Option WorkId) (c : Cell) → shows_burning (marked by c) ≡ shows_burning c
mark-burns None c = refl
mark-burns (Some by) (Does sign.Timed) = refl
mark-burns (Some by) c = refl

pub marked-counted : (S : ScenarioContents) (deeds : State → Deeds) (w : ℕ) (states : List State)
    → count_by shows_burning (map (λ u. cell S (deeds u) (title.Work (record { 0 = w })) u) states) ≡ count_by shows_burning (map (λ u. work_sign S u w) states)
marked-counted S deeds w [] = refl
marked-counted S deeds w (s ∷ states) =
    let one = λ (c : Cell). cond {A = ℕ} (shows_burning c) 1 0 in
    let shown : State → Cell = λ u. cell S (deeds u) (title.Work (record { 0 = w })) u in
    sum_by-cons one (shown s) (map shown states)
    ∙ ap (λ (b : Bool). cond {A = ℕ} b 1 0 + count_by shows_burning (map shown states)) (mark-burns (armer (deeds s).armed w (pending_at s w)) (work_sign S s w))
    ∙ ap (λ (n : ℕ). one (work_sign S s w) + n) (marked-counted S deeds w states)
    ∙ sym (sum_by-cons one (work_sign S s w) (map (λ u. work_sign S u w) states))

-- So many are counted as are burned.

counted-first : (S : ScenarioContents) (s : State) (w : ℕ) (states : List State) (b : Bool)
    → count_by shows_burning (map (λ u. work_sign S u w) (cond b (s ∷ []) [] ++ states))
    ≡ cond (b && burns S s w (running_at s w)) 1 0 + count_by shows_burning (map (λ u. work_sign S u w) states)
counted-first S s w states true =
    sum_by-cons (λ (cell : Cell). cond {A = ℕ} (shows_burning cell) 1 0) (work_sign S s w) (map (λ u. work_sign S u w) states)
    ∙ ap (λ (b : Bool). cond {A = ℕ} b 1 0 + count_by shows_burning (map (λ u. work_sign S u w) states)) (burning-shown S s w (running_at s w))
counted-first S s w states false = omega arith

pub counted-during : (S : ScenarioContents) (s : State) (during : List Instr) (w : ℕ)
    → count_by shows_burning (map (λ u. work_sign S u w) (ticks_from S s during)) ≡ ticks_burned S s during w
counted-during S s [] w = refl
counted-during S s (i ∷ during) w =
    let t = state_after S s i in
    counted-first S s w (ticks_from S t during) (nat_lt s.time t.time)
    ∙ ap (λ (n : ℕ). cond {A = ℕ} (nat_lt s.time t.time && burns S s w (running_at s w)) 1 0 + n) (counted-during S t during w)
