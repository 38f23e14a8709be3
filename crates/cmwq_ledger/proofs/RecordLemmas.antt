-- What is read off the state behind an instruction is what the books come to by the table.
use Rattle.std.proofs.Common.{◌≡◌, ℕ, ◌<◌, Bool, true, false, cond, refl, sym, ap, ◌∙◌}
use Rattle.std.specs.Prelude.{nat_lt}
use Rattle.std.proofs.lemmas.Bool.{ltb-true}
use Rattle.cmwq_types.specs.Contents.{ScenarioContents}
use Rattle.cmwq_types.specs.Setting.{IsSetting}
use Rattle.cmwq_types.specs.declared.instr.Instr.{Instr}
use Rattle.cmwq_types.specs.declared.reply.Reply.{Reply}
use Rattle.cmwq_table.specs.State.{State}
use Rattle.cmwq_table.specs.Table.{table}
use Rattle.cmwq_picture.proofs.TickLemmas.{time-ticks}
use Rattle.cmwq_ledger.specs.Books.{BooksContents, books_after, books_moved, books_passed}
use Rattle.cmwq_ledger.specs.Ledger.{ledger_by, ledger_moved, ledger_ticked, lines_ending_at, lines_by, lines_ended}
use Rattle.cmwq_ledger.specs.Totals.{totals_by, totals_moved, totals_ticked}
use Rattle.cmwq_ledger.proofs.TickLemmas.{books-on}

-- the books after an instruction that came to this
abbrev books_by : ScenarioContents → BooksContents → State → Instr → State × Reply → BooksContents
books_by S B s i after =
    record { ledger = ledger_by S B.ledger s i after; totals = totals_by S B.totals s i after (lines_by S B.ledger s i after) }

module _ (S : ScenarioContents) (B : BooksContents) (s t : State) (i : Instr) (reply : Reply) (setting : IsSetting S) (is : (t, reply) ≡ table S s i) where
  time-after : t.time ≡ (table S s i).0.time
  time-after = ap (λ (after : State × Reply). after.0.time) is

  passed-on : (b : Bool) → nat_lt s.time t.time ≡ b → books_passed S B b t ≡ books_passed S B b s
  passed-on true e =
      let later : s.time < (table S s i).0.time = ltb-true s.time (table S s i).0.time (ap (λ (k : ℕ). nat_lt s.time k) (sym time-after) ∙ e) in
      let ticks = time-ticks S s i setting later in
      let same : t ≡ _ = ap (λ (after : State × Reply). after.0) is ∙ ticks.1 in
      ap (books_passed S B true) same ∙ books-on S s ticks.0 B
  passed-on false e = refl

  moved-by : (b : Bool) → books_moved S (books_passed S B b s) t i reply
      ≡ record {
        ledger = ledger_moved (cond b (ledger_ticked S s B.ledger) B.ledger) t i reply;
        totals = totals_moved S (cond b (totals_ticked S s B.totals) B.totals) t i reply (lines_ended (cond b (ledger_ticked S s B.ledger) B.ledger) t.time i reply);
      }
  moved-by true = refl
  moved-by false = refl

  ended-by : (b : Bool) → lines_ended (books_passed S B b s).ledger t.time i reply ≡ lines_ended (cond b (ledger_ticked S s B.ledger) B.ledger) t.time i reply
  ended-by true = refl
  ended-by false = refl

  pub books-recorded : (time : ℕ) → time ≡ s.time → books_moved S (books_passed S B (nat_lt time t.time) t) t i reply ≡ books_after S B s i
  books-recorded time at =
      ap (λ (k : ℕ). books_moved S (books_passed S B (nat_lt k t.time) t) t i reply) at
      ∙ ap (λ (P : BooksContents). books_moved S P t i reply) (passed-on (nat_lt s.time t.time) refl)
      ∙ moved-by (nat_lt s.time t.time)
      ∙ ap (books_by S B s i) is

  pub line-recorded : (time : ℕ) → time ≡ s.time → lines_ended (books_passed S B (nat_lt time t.time) t).ledger t.time i reply ≡ lines_ending_at S B.ledger s i
  line-recorded time at =
      ap (λ (k : ℕ). lines_ended (books_passed S B (nat_lt k t.time) t).ledger t.time i reply) at
      ∙ ap (λ (P : BooksContents). lines_ended P.ledger t.time i reply) (passed-on (nat_lt s.time t.time) refl)
      ∙ ended-by (nat_lt s.time t.time)
      ∙ ap (lines_by S B.ledger s i) is
