-- A tick leaves what instances do, and which CPUs are idle, as it was: so it can be read off the state behind it.
use Rattle.std.proofs.Common.{◌≡◌, ℕ, zero, suc, ◌+◌, ◌*◌, Bool, true, false, cond, ◌&&◌, ◌||◌, List, [], ◌∷◌, length, Option, Some, None, refl, sym, ap, ◌∙◌}
use std.Path.{fun_ext}
use Rattle.std.specs.Prelude.{is_none, slice_index_or, ◌==◌}
use Rattle.cmwq_types.specs.Contents.{ScenarioContents}
use Rattle.cmwq_types.specs.First.{by_least, first_below}
use Rattle.cmwq_types.specs.Scenario.{is_high, is_unbound}
use Rattle.cmwq_types.specs.declared.reply.Mode.{Mode}
use Rattle.cmwq_table.specs.Counts.{burns, first_runnable, is_runnable, is_some_work, running_before, running_stamp, runs}
use Rattle.cmwq_table.specs.Moves.{burned, one_less, tick}
use Rattle.cmwq_table.specs.State.{State, pending_at, running_at}
use Rattle.cmwq_table.specs.declared.state.Running.{Running}
use Rattle.cmwq_picture.specs.Picture.{mode_sign, run_sign}
use Rattle.cmwq_picture.specs.declared.cell.Sign.{Sign}
use Rattle.cmwq_picture.specs.declared.cell.Sign.TheVariants as sign
use Rattle.cmwq_ledger.specs.Books.{BooksContents, books_passed}
use Rattle.cmwq_ledger.specs.Contents.{LedgerContents, TotalsContents}
use Rattle.cmwq_ledger.specs.Ledger.{all_pending_ticked, all_running_ticked, ledger_ticked, pending_ticked, running_ticked, ticked}
use Rattle.cmwq_ledger.specs.Totals.{burner_counted, burner_counted_if, burners_counted, for_work, idle_counted, is_idle_cpu, one_more_at, totals_ticked}
use Rattle.cmwq_ledger.specs.declared.account.Account.{Account}
use Rattle.cmwq_ledger.specs.declared.queue_totals.Count.TheVariants as count

-- Two works run alike, but for what they have left to burn; or neither runs.
abbrev RunsOn : Option Running → Option Running → Type 0
RunsOn (Some r) (Some q) = (q.pool ≡ r.pool) × (q.mode ≡ r.mode) × (q.stamp ≡ r.stamp)
RunsOn (Some r) None = ⊥
RunsOn None (Some q) = ⊥
RunsOn None None = Unit {0}

burned-one : (r : Option Running) (b : Bool) → RunsOn r (cond b (one_less r) r)
burned-one (Some r) true = (refl, refl, refl)
burned-one (Some r) false = (refl, refl, refl)
burned-one None true = tt
burned-one None false = tt

burned-on : (f : ℕ → Option Running → Bool) (w : ℕ) (rs : List (Option Running)) (i : ℕ) → RunsOn (slice_index_or rs i None) (slice_index_or (burned f w rs) i None)
burned-on f w [] i = tt
burned-on f w (r ∷ rs) zero = burned-one r (f w r)
burned-on f w (r ∷ rs) (suc i) = burned-on f (w + 1) rs i

stamp-on : (a b : Option Running) → RunsOn a b → running_stamp b ≡ running_stamp a
stamp-on (Some r) (Some q) on = on.2
stamp-on (Some r) None on = absurd on
stamp-on None (Some q) on = absurd on
stamp-on None None on = refl

runnable-on : (pool : ℕ) (a b : Option Running) → RunsOn a b → runs (λ r. (r.pool == pool) && is_runnable r.mode) b ≡ runs (λ r. (r.pool == pool) && is_runnable r.mode) a
runnable-on pool (Some r) (Some q) on = ap (λ (at : ℕ). (at == pool) && is_runnable q.mode) on.0 ∙ ap (λ (mode : Mode). (r.pool == pool) && is_runnable mode) on.1
runnable-on pool (Some r) None on = absurd on
runnable-on pool None (Some q) on = absurd on
runnable-on pool None None on = refl

-- whether a work burns, once the heads of the pools are known
burns_beside_heads : ScenarioContents → (ℕ → Option ℕ) → ℕ → ℕ → Mode → Bool
burns_beside_heads S heads w pool mode =
    cond (is_unbound S pool) (is_runnable mode) (is_some_work (heads pool) w && (is_high pool || is_none (heads (pool + 1))))

burns-beside : (S : ScenarioContents) (s : State) (w : ℕ) (r : Running) → burns S s w (Some r) ≡ burns_beside_heads S (first_runnable S s) w r.pool r.mode
unfolding burns_beside_heads
burns-beside S s w r = refl

module _ (S : ScenarioContents) (s : State) (spent : ℕ) where
  abbrev after : State
  after = record (tick S s) { spent = spent }

  on : (w : ℕ) → RunsOn (running_at s w) (running_at after w)
  on w = burned-on (burns S s) 0 s.running w

  heads-on : ◌≡◌ {A = ℕ → Option ℕ} (first_runnable S after) (first_runnable S s)
  heads-on = fun_ext (λ pool.
      let test = λ (x : State) (w : ℕ). runs (λ r. (r.pool == pool) && is_runnable r.mode) (running_at x w) in
      let stamps : ◌≡◌ {A = ℕ → ℕ} (λ w. running_stamp (running_at after w)) (λ w. running_stamp (running_at s w)) = fun_ext (λ w. stamp-on (running_at s w) (running_at after w) (on w)) in
      let tests : ◌≡◌ {A = ℕ → Bool} (test after) (test s) = fun_ext (λ w. runnable-on pool (running_at s w) (running_at after w) (on w)) in
      ap (λ (key : ℕ → ℕ). first_below (by_least key) (test after) (length S.works)) stamps
      ∙ ap (λ (passes : ℕ → Bool). first_below (running_before s) passes (length S.works)) tests)

  burns-on : (w : ℕ) (r q : Running) → RunsOn (Some r) (Some q) → burns S after w (Some q) ≡ burns S s w (Some r)
  burns-on w r q same =
      burns-beside S after w q
      ∙ ap (λ (heads : ℕ → Option ℕ). burns_beside_heads S heads w q.pool q.mode) heads-on
      ∙ ap (λ (pool : ℕ). burns_beside_heads S (first_runnable S s) w pool q.mode) same.0
      ∙ ap (λ (mode : Mode). burns_beside_heads S (first_runnable S s) w r.pool mode) same.1
      ∙ sym (burns-beside S s w r)

  sign-on : (w : ℕ) (r q : Running) → RunsOn (Some r) (Some q) → run_sign S after w q ≡ run_sign S s w r
  sign-on w r q same =
      ap (λ (b : Bool). cond b sign.Burns (mode_sign q.mode)) (burns-on w r q same)
      ∙ ap (λ (mode : Mode). cond (burns S s w (Some r)) sign.Burns (mode_sign mode)) same.1

  -- Accounts.

  one-on : (w : ℕ) (a b : Option Running) (o : Option Account) → RunsOn a b → running_ticked S after w b o ≡ running_ticked S s w a o
  one-on w (Some r) (Some q) (Some account) same = ap (λ (what : Sign). Some (ticked what account)) (sign-on w r q same)
  one-on w (Some r) (Some q) None same = refl
  one-on w (Some r) None o same = absurd same
  one-on w None (Some q) o same = absurd same
  one-on w None None o same = refl

  running-on : (w : ℕ) (accounts : List (Option Account)) → all_running_ticked S after w accounts ≡ all_running_ticked S s w accounts
  running-on w [] = refl
  running-on w (o ∷ os) =
      ap (λ (x : Option Account). x ∷ all_running_ticked S after (w + 1) os) (one-on w (running_at s w) (running_at after w) o (on w))
      ∙ ap (λ (xs : List (Option Account)). running_ticked S s w (running_at s w) o ∷ xs) (running-on (w + 1) os)

  pending-on : (w : ℕ) (accounts : List (Option Account)) → all_pending_ticked after w accounts ≡ all_pending_ticked s w accounts
  pending-on w [] = refl
  pending-on w (o ∷ os) = ap (λ (xs : List (Option Account)). pending_ticked (pending_at s w) o ∷ xs) (pending-on (w + 1) os)

  ledger-on : (L : LedgerContents) → ledger_ticked S after L ≡ ledger_ticked S s L
  ledger-on L =
      ap (λ (pending : List (Option Account)). record { pending = pending; running = all_running_ticked S after 0 L.running }) (pending-on 0 L.pending)
      ∙ ap (λ (running : List (Option Account)). record { pending = all_pending_ticked s 0 L.pending; running = running }) (running-on 0 L.running)

  -- Totals.

  burner-on : (w : ℕ) (a b : Option Running) (T : TotalsContents) → RunsOn a b → cond (burns S after w b) (burner_counted S w b T) T ≡ cond (burns S s w a) (burner_counted S w a T) T
  burner-on w (Some r) (Some q) T same =
      ap (λ (c : Bool). cond c (burner_counted S w (Some q) T) T) (burns-on w r q same)
      ∙ ap (λ (pool : ℕ). cond (burns S s w (Some r)) (record T { queues = for_work count.Burned S (Some w) T.queues; pools = one_more_at pool T.pools }) T) same.0
  burner-on w (Some r) None T same = absurd same
  burner-on w None (Some q) T same = absurd same
  burner-on w None None T same = refl

  burners-on : (n : ℕ) (T : TotalsContents) → burners_counted S after n T ≡ burners_counted S s n T
  burners-on zero T = refl
  burners-on (suc n) T =
      ap (burner_counted_if S after n) (burners-on n T)
      ∙ burner-on n (running_at s n) (running_at after n) (burners_counted S s n T) (on n)

  idle-on : (n : ℕ) (counts : List ℕ) → idle_counted S after n counts ≡ idle_counted S s n counts
  idle-on zero counts = refl
  idle-on (suc n) counts =
      ap (λ (heads : ℕ → Option ℕ). cond (is_none (heads (2 * n)) && is_none (heads (2 * n + 1))) (one_more_at n (idle_counted S after n counts)) (idle_counted S after n counts)) heads-on
      ∙ ap (λ (xs : List ℕ). cond (is_idle_cpu S s n) (one_more_at n xs) xs) (idle-on n counts)

  totals-on : (T : TotalsContents) → totals_ticked S after T ≡ totals_ticked S s T
  totals-on T =
      ap (λ (x : TotalsContents). record x { idle = idle_counted S after S.cpus x.idle }) (burners-on (length S.works) T)
      ∙ ap (λ (counts : List ℕ). record (burners_counted S s (length S.works) T) { idle = counts }) (idle-on S.cpus (burners_counted S s (length S.works) T).idle)

  pub books-on : (B : BooksContents) → books_passed S B true after ≡ books_passed S B true s
  books-on B =
      ap (λ (ledger : LedgerContents). record { ledger = ledger; totals = totals_ticked S after B.totals }) (ledger-on B.ledger)
      ∙ ap (λ (totals : TotalsContents). record { ledger = ledger_ticked S s B.ledger; totals = totals }) (totals-on B.totals)
