-- Whether the steps are spent is told after the halves.
use Rattle.std.proofs.Common.{◌≡◌, ℕ, ◌+◌, ◌<◌, List, [], ◌++◌, codes, arith, nat_lt, sym, ap, ◌∙◌}
use Rattle.std.proofs.lemmas.Bool.{cond-true, lt-ltb}
use Rattle.cmwq_types.specs.Contents.{ScenarioContents}
use Rattle.cmwq_table.specs.State.{State}
use Rattle.cmwq_why_text.specs.WhyText.{spent_text}
use Rattle.cmwq_why_laws.specs.Laws.{KeepsText, halves_text}

unspent : (S : ScenarioContents) (s : State) → s.spent < S.steps → spent_text S s ≡ []
unspent S s more = cond-true (nat_lt s.spent S.steps) [] (codes "; spent") (lt-ltb s.spent S.steps more)

-- where the halves are told alike, and steps are only spent, the text stays
pub keeps : (S : ScenarioContents) (s t : State) (w : ℕ) → t.spent ≡ s.spent + 1 → halves_text S t w ≡ halves_text S s w → KeepsText S s t w
keeps S s t w spends same = (
  same,
  λ more. ap (λ (text : List ℕ). text ++ spent_text S t) same
      ∙ ap (λ (text : List ℕ). halves_text S s w ++ text) (unspent S t more ∙ sym (unspent S s (omega arith))),
)
