-- A tick, once the head of each pool is known.
use Rattle.std.proofs.Common.{◌≡◌, ℕ, suc, ◌+◌, ◌*◌, ◌<◌, Bool, true, false, cond, ◌&&◌, ◌||◌, List, [], ◌∷◌, length, Option, Some, None, arith, refl, ap, ◌∙◌}
use Rattle.std.specs.Prelude.{slice_index_or, is_none, nat_le}
use Rattle.std.proofs.lemmas.Bool.{leb-false}
use Rattle.cmwq_types.specs.Contents.{ScenarioContents}
use Rattle.cmwq_table.specs.Counts.{burns, first_runnable, is_runnable, is_some_work}
use Rattle.cmwq_table.specs.Moves.{burned, one_less}
use Rattle.cmwq_table.specs.State.{State, is_high, pool_count}
use Rattle.cmwq_table.specs.declared.state.Running.{Running}
use Rattle.cmwq_plain.specs.BurningHeads.{burns_beside}
use Rattle.cmwq_plain.specs.Heads.{AreHeads}

-- tests that agree burn alike
burned-agree : (f g : ℕ → Option Running → Bool) → ((w : ℕ) (r : Option Running) → f w r ≡ g w r) → (w : ℕ) (rs : List (Option Running)) → burned f w rs ≡ burned g w rs
burned-agree f g same w [] = refl
burned-agree f g same w (r ∷ rs) =
    ap (λ (b : Bool). cond b (one_less r) r ∷ burned f (w + 1) rs) (same w r)
    ∙ ap (λ (rest : List (Option Running)). cond (g w r) (one_less r) r ∷ rest) (burned-agree f g same (w + 1) rs)

pub length-burned : (f : ℕ → Option Running → Bool) (w : ℕ) (rs : List (Option Running)) → length (burned f w rs) ≡ length rs
length-burned f w [] = refl
length-burned f w (r ∷ rs) = ap suc (length-burned f (w + 1) rs)

burns_beside-bound : (S : ScenarioContents) (s : State) (heads : List (Option ℕ)) (w : ℕ) (r : Running) → AreHeads S s (pool_count S) heads → (b : Bool) → nat_le (2 * S.cpus) r.pool ≡ b →
    cond b (is_runnable r.mode) (is_some_work (slice_index_or heads r.pool None) w && (is_high r.pool || is_none (slice_index_or heads (r.pool + 1) None)))
    ≡ cond b (is_runnable r.mode) (is_some_work (first_runnable S s r.pool) w && (is_high r.pool || is_none (first_runnable S s (r.pool + 1))))
burns_beside-bound S s heads w r are true e = refl
burns_beside-bound S s heads w r are false e =
    let bound : r.pool < 2 * S.cpus = leb-false (2 * S.cpus) r.pool e in
    ap (λ (head : Option ℕ). is_some_work head w && (is_high r.pool || is_none (slice_index_or heads (r.pool + 1) None))) (are r.pool (omega arith))
    ∙ ap (λ (head : Option ℕ). is_some_work (first_runnable S s r.pool) w && (is_high r.pool || is_none head)) (are (r.pool + 1) (omega arith))

burns_beside-burns : (S : ScenarioContents) (s : State) (heads : List (Option ℕ)) → AreHeads S s (pool_count S) heads → (w : ℕ) (r : Option Running) → burns_beside heads (2 * S.cpus) w r ≡ burns S s w r
burns_beside-burns S s heads are w (Some r) = burns_beside-bound S s heads w r are (nat_le (2 * S.cpus) r.pool) refl
burns_beside-burns S s heads are w None = refl

-- who burns beside the heads burns by the table
pub burned-by_heads : (S : ScenarioContents) (s : State) (heads : List (Option ℕ)) → AreHeads S s (pool_count S) heads → burned (burns_beside heads (2 * S.cpus)) 0 s.running ≡ burned (burns S s) 0 s.running
burned-by_heads S s heads are =
    burned-agree (burns_beside heads (2 * S.cpus)) (burns S s) (burns_beside-burns S s heads are) 0 s.running
