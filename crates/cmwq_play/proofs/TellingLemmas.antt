-- What a teller tells of instructions and of more behind them, and what it keeps.
use Rattle.std.proofs.Common.{◌≡◌, ℕ, List, [], ◌∷◌, ◌++◌, refl, sym, ap, ◌∙◌, append_assoc}
use Rattle.cmwq_types.specs.Contents.{ScenarioContents}
use Rattle.cmwq_types.specs.declared.instr.Instr.{Instr}
use Rattle.cmwq_table.specs.State.{State}
use Rattle.cmwq_table.specs.Table.{after_all, table}
use Rattle.cmwq_play.specs.Telling.{kept_from, told_from}

module _ {T : Type 0} (told : T → ScenarioContents → State → Instr → List ℕ) (keeps : T → ScenarioContents → State → Instr → T) (S : ScenarioContents) where
  pub told_from-append : (t : T) (s : State) (xs ys : List Instr)
      → told_from told keeps t S s (xs ++ ys) ≡ told_from told keeps t S s xs ++ told_from told keeps (kept_from told keeps t S s xs) S (after_all S s xs) ys
  told_from-append t s [] ys = refl
  told_from-append t s (x ∷ xs) ys =
      let next = keeps t S s x in
      let after = (table S s x).0 in
      let first = told t S s x in
      ap (λ (more : List ℕ). first ++ more) (told_from-append next after xs ys)
      ∙ sym (append_assoc first (told_from told keeps next S after xs) (told_from told keeps (kept_from told keeps next S after xs) S (after_all S after xs) ys))

  pub kept_from-append : (t : T) (s : State) (xs ys : List Instr) → kept_from told keeps t S s (xs ++ ys) ≡ kept_from told keeps (kept_from told keeps t S s xs) S (after_all S s xs) ys
  kept_from-append t s [] ys = refl
  kept_from-append t s (x ∷ xs) ys = kept_from-append (keeps t S s x) (table S s x).0 xs ys
