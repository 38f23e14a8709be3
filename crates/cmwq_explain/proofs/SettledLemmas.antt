-- At the end of a settled run each work has finished.
use Rattle.std.proofs.Common.{◌≡◌, ◌<◌, ◌≤◌, ℕ, zero, suc, Bool, true, false, cond, List, [], ◌∷◌, length, replicate, Option, Some, None, arith, refl, sym, ap, ◌∙◌, subst, inl, inr}
use Rattle.std.proofs.Math.Nat.{eq-or-lt_of_le}
use Rattle.std.proofs.lemmas.Bool.{eqb-true, ltb-true}
use Rattle.std.specs.Prelude.{nat_lt}
use Rattle.std.specs.List.{position_or_len}
use Rattle.std.specs.Str.{bytes_eq}
use Rattle.cmwq_types.specs.Contents.{ActorContents, ScenarioContents, WorkContents}
use Rattle.cmwq_types.specs.First.{count_below}
use Rattle.cmwq_types.specs.Scenario.{expand}
use Rattle.cmwq_types.specs.declared.instr.Instr.{Instr}
use Rattle.cmwq_types.specs.declared.instr.Instr.TheVariants.{Next}
use Rattle.cmwq_table.specs.State.{State, start}
use Rattle.cmwq_table.specs.Table.{after_all, run, table}
use Rattle.cmwq_table.proofs.RunLemmas.{after_all-append}
use Rattle.cmwq_types.specs.Scenario.{work_named}
use Rattle.cmwq_play.proofs.TextLemmas.{same_actor}
use Rattle.cmwq_settle.specs.Counting.{with_one_actor}
use Rattle.cmwq_table.specs.Counts.{is_quiet, pends_or_runs}
use Rattle.cmwq_settle.specs.Settled.{with_nexts}
use Rattle.cmwq_settle.proofs.LineLemmas.{expand-with_nexts}
use Rattle.cmwq_settle.proofs.OtherActors.{settled-is}
use Rattle.cmwq_explain.specs.Explained.{is_work_unfinished}
use Rattle.cmwq_explain.specs.Laws.{SettledRunsFinish}

-- Other actors come to the same states by the same instructions.

module _ (S : ScenarioContents) (other : ActorContents) where
  same-state : (i : Instr) (s : State) → (table (with_one_actor S other) s i).0 ≡ (table S s i).0
  unfolding table
  same-state i s = refl

  same-run : (s : State) (is : List Instr) → after_all (with_one_actor S other) s is ≡ after_all S s is
  same-run s [] = refl
  same-run s (i ∷ is) = ap (λ (t : State). after_all (with_one_actor S other) t is) (same-state i s) ∙ same-run (table S s i).0 is

-- A quiet machine has no work to finish.

counted : (f : ℕ → Bool) (n w : ℕ) → w < n → f w ≡ true → count_below f n ≡ 0 → ⊥
counted f zero w less passes none = absurd (omega (arith, less))
counted f (suc n) w less passes none = elim (eq-or-lt_of_le (let most : w ≤ n = omega (arith, less) in most)) [
  | inl at ↦ let one = ap (λ (b : Bool). cond {A = ℕ} b 1 0) (ap f (sym at) ∙ passes) in absurd (omega (arith, one, none))
  | inr below ↦ counted f n w below passes (omega (arith, none))
]

module _ (S : ScenarioContents) (s : State) (quiet : is_quiet S s ≡ true) where
  not-busy : (w : ℕ) (b : Bool) → w < length S.works → pends_or_runs s w ≡ b → b ≡ false
  not-busy w false there is = refl
  not-busy w true there is = absurd (counted (pends_or_runs s) (length S.works) w there is (eqb-true (count_below (pends_or_runs s) (length S.works)) 0 quiet))

  finished-if : (k : ℕ) (b : Bool) → nat_lt k (length S.works) ≡ b → is_work_unfinished s (cond {A = Option ℕ} b (Some k) None) ≡ false
  finished-if k true is = not-busy k (pends_or_runs s k) (ltb-true k (length S.works) is) refl
  finished-if k false is = refl

  all-finished : (name : List ℕ) → is_work_unfinished s (work_named S name) ≡ false
  all-finished name =
      let k = position_or_len (λ (work : WorkContents). bytes_eq work.name name) S.works in
      finished-if k (nat_lt k (length S.works)) refl

pub settled_runs_finish : SettledRunsFinish
unfolding SettledRunsFinish
settled_runs_finish S T actor name settled runs =
    let own = settled.0 in
    let n = settled.1 in
    let longer = with_nexts n own in
    let at : T ≡ with_one_actor S longer = settled.4 ∙ settled-is S own n settled.2.runs.alone in
    let alone = subst (λ (U : ScenarioContents). U.actors ≡ actor ∷ []) at runs.alone in
    let same : actor ≡ longer = same_actor (with_one_actor S longer) actor longer alone refl in
    let end : run T (expand actor) ≡ after_all S (run S (expand own)) (replicate n Next) =
    ap (λ (U : ScenarioContents). run U (expand actor)) at
    ∙ ap (λ (a : ActorContents). run (with_one_actor S longer) (expand a)) same
    ∙ same-run S longer (start S) (expand longer)
    ∙ ap (λ (is : List Instr). after_all S (start S) is) (expand-with_nexts n own)
    ∙ after_all-append S (start S) (expand own) (replicate n Next) in
    let finished = all-finished S (after_all S (run S (expand own)) (replicate n Next)) settled.2.settles.quiet name in
    ap (λ (s : State). is_work_unfinished s (work_named T name)) end
    ∙ ap (λ (U : ScenarioContents). is_work_unfinished (after_all S (run S (expand own)) (replicate n Next)) (work_named U name)) at
    ∙ finished
