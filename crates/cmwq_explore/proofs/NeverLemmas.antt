-- Choices that are known not to be taken, with no copy of the machine.
use Rattle.std.proofs.Common.{◌≡◌, ℕ, Bool, true, false, true≢false, ◌&&◌, ◌||◌, inl, inr, List, Option, Some, None, is_some, refl, sym, ap, ◌∙◌}
use Rattle.std.specs.Prelude.{if◌then◌else◌, is_none, nat_lt}
use Rattle.cmwq_types.specs.Contents.{ScenarioContents}
use Rattle.cmwq_types.specs.declared.instr.Instr.{Instr}
use Rattle.cmwq_types.specs.declared.instr.Instr.TheVariants as instr
use Rattle.cmwq_types.specs.declared.moves.Move.{Move}
use Rattle.cmwq_types.specs.declared.reply.Cause.{Cause}
use Rattle.cmwq_types.specs.declared.reply.Cause.TheVariants.{Due, Pool}
use Rattle.cmwq_types.specs.declared.reply.Refusal.{Refusal}
use Rattle.cmwq_types.specs.declared.reply.Refusal.TheVariants.{NoSuchPool, NothingToDo, Spent, Unsettled}
use Rattle.cmwq_types.specs.declared.reply.Reply.{Reply}
use Rattle.cmwq_table.specs.Counts.{first_due, or_else}
use Rattle.cmwq_table.specs.Moves.{first_moving, next_move}
use Rattle.cmwq_table.specs.State.{State}
use Rattle.cmwq_table.specs.Table.{answer, effect, is_free, nothing_to_do, operands, refuse_unless, situation, spent_all, table, unsettled}
use Rattle.cmwq_orders.proofs.OrderLemmas.{line-taken, none_or_some, none_some, own-taken, some_same}
use Rattle.cmwq_orders.specs.Orders.{Explored, cannot_come, comes_later, is_own, may_go, moved, taken}
use Rattle.cmwq_orders.specs.declared.choice.Before.{Before}
use Rattle.cmwq_orders.specs.declared.choice.Choice.TheVariants.{Line, Own}

-- who may have spent the steps comes later
spent-later : (b : Bool) (why : Refusal) → refuse_unless b Spent ≡ Some why → comes_later why ≡ true
spent-later true why e = absurd (none_some why e)
spent-later false why e = ap comes_later (sym (some_same Spent why e))

judged : (S : ScenarioContents) (s : State) (i : Instr) (why : Refusal) (a b c : Option Refusal) → a ≡ None → c ≡ Some why → comes_later why ≡ true
    → ((x : Refusal) → b ≡ Some x → comes_later x ≡ true) → cannot_come (answer S s i (or_else a (or_else b c)) (effect S s i)).1 ≡ true
judged S s i why (Some x) b c none some later spent = absurd (none_some x (sym none))
judged S s i why None (Some x) c none some later spent = spent x refl
judged S s i why None None (Some x) none some later spent = ap comes_later (some_same x why some) ∙ later
judged S s i why None None None none some later spent = absurd (none_some why some)

-- what the situation doesn't allow now can't come now
refused-now : (S : ScenarioContents) (s : State) (i : Instr) (why : Refusal) → operands S s i ≡ None → situation S s i ≡ Some why → comes_later why ≡ true
    → cannot_come (table S s i).1 ≡ true
unfolding table
refused-now S s i why fits is later =
    judged S s i why (operands S s i) (spent_all S s i) (situation S s i) fits is later (λ x e. spent-later (is_free S s i || nat_lt s.spent S.steps) x e)

moved-comes : (e f : Explored) (after : State × Reply) → moved e after ≡ Some f → cannot_come after.1 ≡ false
moved-comes e f after h = by (cannot_come after.1) refl h
  where
    by : (b : Bool) → cannot_come after.1 ≡ b → (if b then None else Some (record e { machine = after.0 })) ≡ Some f → cannot_come after.1 ≡ false
    by true is h = absurd (none_some f h)
    by false is h = is

is-none : (o : Option Move) → is_some o ≡ false → o ≡ None
is-none (Some x) h = absurd (true≢false h)
is-none None h = refl

unsettled-by : (a b : Option ℕ) → (is_none a && is_none b) ≡ false → (c : Cause) × (unsettled a b ≡ Some (Unsettled c))
unsettled-by (Some w) b h = (Due, refl)
unsettled-by None (Some pool) h = (Pool pool, refl)
unsettled-by None None h = absurd (true≢false h)

module _ (S : ScenarioContents) (before : List Before) (e : Explored) where
  never : (i : Instr) (why : Refusal) → (is_own S before e i ≡ true → operands S e.machine i ≡ None) → situation S e.machine i ≡ Some why → comes_later why ≡ true
      → taken S before e (Own i) ≡ None
  never i why fits is later = elim (none_or_some (taken S before e (Own i))) [
    | inl none ↦ none
    | inr some ↦
        let own = own-taken S e some.0 before i some.1 in
        absurd (true≢false (sym (refused-now S e.machine i why (fits own.0) is later) ∙ moved-comes e some.0 (table S e.machine i) own.1))
  ]

  -- who may not go doesn't
  pub line_never : (actor : ℕ) → may_go S before e actor ≡ false → taken S before e (Line actor) ≡ None
  line_never actor stays = elim (none_or_some (taken S before e (Line actor))) [
    | inl none ↦ none
    | inr some ↦ absurd (true≢false (sym (line-taken S e some.0 before actor some.1).0 ∙ stays))
  ]

  -- a pool without a move makes none
  pub step_never : (pool : ℕ) → is_some (next_move S e.machine pool) ≡ false → taken S before e (Own (instr.Step pool)) ≡ None
  step_never pool idle =
      never (instr.Step pool) NothingToDo (λ own. ap (λ (b : Bool). refuse_unless b NoSuchPool) own) (ap nothing_to_do (is-none (next_move S e.machine pool) idle)) refl

  -- no tick comes while something can happen without time
  pub tick_never : (is_none (first_due S e.machine) && is_none (first_moving S e.machine)) ≡ false → taken S before e (Own instr.Tick) ≡ None
  tick_never busy =
      let why = unsettled-by (first_due S e.machine) (first_moving S e.machine) busy in
      never instr.Tick (Unsettled why.0) (λ own. refl) why.1 refl
