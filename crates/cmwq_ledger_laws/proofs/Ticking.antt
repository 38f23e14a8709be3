-- What a tick makes of a work that runs: it has one tick less to burn, if it burns.
use Rattle.std.proofs.Common.{◌≡◌, ℕ, zero, suc, ◌+◌, Bool, true, false, cond, List, [], ◌∷◌, Option, Some, None, arith, refl, sym, ap, ◌∙◌}
use Rattle.std.specs.Prelude.{is_some, slice_index_or}
use Rattle.cmwq_types.specs.Contents.{ScenarioContents}
use Rattle.cmwq_types.specs.declared.reply.Mode.{Mode}
use Rattle.cmwq_types.specs.declared.reply.Mode.TheVariants.{Runnable, Asleep}
use Rattle.cmwq_table.specs.Counts.{burns}
use Rattle.cmwq_table.specs.Moves.{burned, one_less, tick}
use Rattle.cmwq_table.specs.State.{State, running_at}
use Rattle.cmwq_table.specs.declared.state.Running.{Running}
use Rattle.cmwq_picture.specs.Picture.{mode_sign}
use Rattle.cmwq_picture.specs.declared.cell.Sign.TheVariants as sign
use Rattle.cmwq_ledger.specs.Ledger.{one_tick_more}
use Rattle.cmwq_ledger.specs.declared.account.Ticks.{Ticks}

burned-at : (test : ℕ → Option Running → Bool) (from w : ℕ) (rs : List (Option Running)) → ((v : ℕ) → test v None ≡ false)
    → slice_index_or (burned test from rs) w None ≡ cond (test (from + w) (slice_index_or rs w None)) (one_less (slice_index_or rs w None)) (slice_index_or rs w None)
burned-at test from w [] fails = ap (λ (b : Bool). cond b (one_less None) None) (sym (fails (from + w)))
burned-at test from zero (r ∷ rs) fails = (let same : from ≡ from + 0 = omega arith in ap (λ (v : ℕ). cond (test v r) (one_less r) r) same)
burned-at test from (suc w) (r ∷ rs) fails =
    let same : from + 1 + w ≡ from + suc w = omega arith in
    burned-at test (from + 1) w rs fails
    ∙ ap (λ (v : ℕ). cond (test v (slice_index_or rs w None)) (one_less (slice_index_or rs w None)) (slice_index_or rs w None)) same

pub tick-at : (S : ScenarioContents) (s : State) (w : ℕ) → running_at (tick S s) w ≡ cond (burns S s w (running_at s w)) (one_less (running_at s w)) (running_at s w)
tick-at S s w =
    let same : 0 + w ≡ w = omega arith in
    burned-at (burns S s) 0 w s.running (λ v. refl) ∙ ap (λ (v : ℕ). cond (burns S s v (running_at s w)) (one_less (running_at s w)) (running_at s w)) same

less-some : (b : Bool) (o : Option Running) → is_some (cond b (one_less o) o) ≡ is_some o
less-some true (Some r) = refl
less-some true None = refl
less-some false o = refl

pub tick-some : (S : ScenarioContents) (s : State) (w : ℕ) → is_some (running_at (tick S s) w) ≡ is_some (running_at s w)
tick-some S s w = ap is_some (tick-at S s w) ∙ less-some (burns S s w (running_at s w)) (running_at s w)

-- The tick is one of burning exactly where it burns.
pub sign-burned : (mode : Mode) (t : Ticks) (b : Bool) → (one_tick_more (cond b sign.Burns (mode_sign mode)) t).burned ≡ t.burned + cond b 1 0
sign-burned mode t true = refl
sign-burned Runnable t false = omega arith
sign-burned (Asleep until) t false = omega arith
