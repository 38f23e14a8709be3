-- No work waited longer than what was spent.
use Rattle.std.proofs.Common.{◌≡◌, ℕ, ◌+◌, ◌*◌, ◌≤◌, Bool, true, false, cond, Option, Some, None, arith, refl, sym, ap, subst, length}
use Rattle.std.proofs.lemmas.Bool.{le-ltb}
use Rattle.cmwq_types.specs.Contents.{ScenarioContents}
use Rattle.cmwq_types.specs.Setting.{IsSetting}
use Rattle.cmwq_types.specs.declared.instr.Instr.{Instr}
use Rattle.cmwq_types.specs.declared.reply.Refusal.{Refusal}
use Rattle.cmwq_table.proofs.CounterLemmas.{effect-spent}
use Rattle.cmwq_table.specs.State.{State, pending_at, running_at}
use Rattle.cmwq_table.specs.Table.{answer, effect, is_free, refusal, table}
use Rattle.cmwq_ledger.specs.Ledger.{lets_pass}
use Rattle.cmwq_ledger.proofs.RoomLemmas.{free-same}
use Rattle.cmwq_blame.specs.Blame.{BlameContents, are_below, blame_after, blame_ticked, no_blame, table_of, waited, work_counts}
use Rattle.cmwq_blame.specs.Bounds.{IsBlameWithin}
use Rattle.cmwq_blame.specs.Table.{count_at}
use Rattle.cmwq_blame.proofs.CountingLemmas.{pending-few, running-few, table-at}

-- a count of a table is what it was made of
pub waited-in : (n : ℕ) (f : ℕ → Option ℕ → ℕ) (w : ℕ) (o : Option ℕ) → waited (table_of n f) w o ≡ cond (are_below n w o) (f w o) 0
waited-in n f w o = by (are_below n w o) refl where
  by : (b : Bool) → are_below n w o ≡ b → cond b (count_at n (table_of n f).counts w o) 0 ≡ cond b (f w o) 0
  by true there = table-at f n w o there
  by false there = refl

cond-most : (b : Bool) (m n : ℕ) → m ≤ n → cond b m 0 ≤ n
cond-most true m n up = up
cond-most false m n up = omega arith

pub begun-within : (S : ScenarioContents) → IsBlameWithin 0 (no_blame S)
begun-within S w o =
    let is = waited-in (length S.works) (λ w other. 0) w o in
    let few = cond-most (are_below (length S.works) w o) 0 0 (omega arith) in
    omega (arith, is, few)

up-within : (m n : ℕ) (B : BlameContents) → m ≤ n → IsBlameWithin m B → IsBlameWithin n B
up-within m n B up within w o = (let here = within w o in omega (arith, up, here))

ticked-within : (S : ScenarioContents) (s : State) (n : ℕ) (B : BlameContents) → IsBlameWithin n B → IsBlameWithin (n + 2) (blame_ticked S s B)
ticked-within S s n B within w o =
    let is = waited-in B.works (λ w other. waited B w other + work_counts S s w other) w o in
    let here = within w o in
    let pending = pending-few S s w (pending_at s w) o in
    let running = running-few S s w (running_at s w) o in
    let few = cond-most (are_below B.works w o) (waited B w o + work_counts S s w o) (n + 2) (omega (arith, here, pending, running)) in
    omega (arith, is, few)

never : (s t : State) → t.time ≡ s.time → lets_pass s t ≡ false
never s t same = le-ltb s.time t.time (omega (arith, same))

module _ (S : ScenarioContents) (B : BlameContents) (s : State) (i : Instr) (setting : IsSetting S) (within : IsBlameWithin (512 * s.spent) B) where
  spent-within : (b : Bool) → is_free S s i ≡ b → (passes : Bool) → lets_pass s (effect S s i).0 ≡ passes
      → IsBlameWithin (512 * ((effect S s i).0.spent + cond b 0 1)) (cond passes (blame_ticked S s B) B)
  spent-within b is false stays =
      let spent = effect-spent S s i setting in
      up-within (512 * s.spent) (512 * ((effect S s i).0.spent + cond b 0 1)) B (omega (arith, spent)) within
  spent-within true is true passes = absurd (cc (passes, never s (effect S s i).0 (ap (λ (t : State). t.time) (free-same S s i is))))
  spent-within false is true passes =
      let spent = effect-spent S s i setting in
      up-within (512 * s.spent + 2) (512 * ((effect S s i).0.spent + 1)) (blame_ticked S s B) (omega (arith, spent)) (ticked-within S s (512 * s.spent) B within)

  answer-within : (o : Option Refusal)
      → IsBlameWithin (512 * (answer S s i o (effect S s i)).0.spent) (cond (lets_pass s (answer S s i o (effect S s i)).0) (blame_ticked S s B) B)
  answer-within (Some why) = subst (λ (b : Bool). IsBlameWithin (512 * s.spent) (cond b (blame_ticked S s B) B)) (sym (never s s refl)) within
  answer-within None = spent-within (is_free S s i) refl (lets_pass s (effect S s i).0) refl

  -- what was spent bounds what is counted
  pub after-within : IsBlameWithin (512 * (table S s i).0.spent) (blame_after S B s i)
  unfolding table
  after-within = answer-within (refusal S s i)
