-- A line that has no fault, or a later one, may end, and then some scenario's text begins with it.
use Rattle.std.proofs.Common.{◌≡◌, ℕ, suc, zero, ◌+◌, ◌<◌, ◌≤◌, ◌⊎◌, inl, inr, true, List, [], ◌∷◌, ◌++◌, length, ltb, take, drop, Result, Ok, Err, append_assoc, arith, ap, refl, sym, ◌∙◌, subst}
use Rattle.std.proofs.lemmas.Bool.Decides.{nat_tests}
use Rattle.std.proofs.lemmas.List.{take-append-drop}
use Rattle.std.specs.Prelude.{◌↔◌}
use Rattle.cmwq_types.specs.Contents.{ScenarioContents}
use Rattle.cmwq_types.specs.declared.limits.TheConstants.{MAX_TEXT}
use Rattle.cmwq_grammar.specs.Cutting.{lines_of}
use Rattle.cmwq_grammar.specs.FaultLaw.{Begins, FaultAtEnd, FaultInLine, IsFault}
use Rattle.cmwq_grammar.specs.Grammar.{Spells}
use Rattle.cmwq_grammar.specs.Meaning.{FaultAt, reads}
use Rattle.cmwq_fitting.specs.Fitting.{fault_read, is_over, may_end}
use Rattle.cmwq_fitting.specs.Ends.{IsLineOf, MayGoOn}

below : (n limit : ℕ) → ltb n limit ≡ true → n < limit
below n limit e = grind (arith, nat_tests)

below_is : (n limit : ℕ) → n < limit → ltb n limit ≡ true
below_is n limit e = grind (arith, nat_tests)

-- what a text begins with, it begins with a front of
front : (lines : List (List ℕ)) (k : ℕ) → Begins lines → Begins (take k lines)
front lines k begins =
    let more : List (List ℕ) = begins.1 in
    let parts : take k lines ++ (drop k lines ++ more) ≡ lines ++ more =
    sym (append_assoc (take k lines) (drop k lines) more) ∙ ap (λ (ls : List (List ℕ)). ls ++ more) (take-append-drop k lines) in
    (begins.0, drop k lines ++ more, begins.2, begins.3 ∙ sym parts, begins.4)

shorter : (lines : List (List ℕ)) (m n : ℕ) → m ≤ n → take m (take n lines) ≡ take m lines
shorter lines zero n le = refl
shorter lines (suc m) zero le = absurd (omega arith)
shorter [] (suc m) (suc n) le = refl
shorter (line ∷ lines) (suc m) (suc n) le = ap (λ (ls : List (List ℕ)). line ∷ ls) (shorter lines m n (omega arith))

fewer : (lines : List (List ℕ)) (m n : ℕ) → m ≤ n → Begins (take n lines) → Begins (take m lines)
fewer lines m n le begins = subst Begins (shorter lines m n le) (front (take n lines) m begins)

split : (m n : ℕ) → (m ≤ n) ⊎ (n + 1 ≤ m)
split zero n = inl (omega arith)
split (suc m) zero = inr (omega arith)
split (suc m) (suc n) = elim (split m n) [
  | inl le ↦ inl (omega arith)
  | inr more ↦ inr (omega arith)
]

-- a later fault: the lines before it are fine
goes : (line : ℕ) (text : List ℕ) (fault : FaultAt) → line < fault.line → IsFault text fault → MayGoOn line text
goes line text fault later (inl it) = absurd (let none : fault.line ≡ 0 = ap (λ (f : FaultAt). f.line) it.1 in omega (arith, none, later))
goes line text fault later (inr (inl it)) =
    let at : FaultInLine (lines_of text) it.1 fault = it.2 in
    let is : fault.line ≡ it.1 + 1 = at.line in
    fewer (lines_of text) line it.1 (omega (arith, is, later)) at.before
goes line text fault later (inr (inr it)) = front (lines_of text) line it.1.begins

-- where some text begins so, a fault is later
later : (line : ℕ) (text : List ℕ) (fault : FaultAt) → IsLineOf line text → MayGoOn line text → IsFault text fault → line < fault.line
later line text fault is begins (inl it) = absurd (let short : length text ≤ MAX_TEXT = is.short in omega (arith, it.0, short))
later line text fault is begins (inr (inl it)) =
    let at : FaultInLine (lines_of text) it.1 fault = it.2 in
    let there : fault.line ≡ it.1 + 1 = at.line in
    elim (split line it.1) [
      | inl before ↦ omega (arith, there, before)
      | inr behind ↦ absurd (at.with (fewer (lines_of text) (it.1 + 1) line behind begins))
    ]
later line text fault is begins (inr (inr it)) =
    let at : FaultAtEnd text fault = it.1 in
    let there : fault.line ≡ length (lines_of text) + 1 = at.line in
    let within : line ≤ length (lines_of text) = is.there in
    omega (arith, there, within)

module _ (spells : (text : List ℕ) (S : ScenarioContents) → reads text ≡ Ok S → Spells text S) (faulty : (text : List ℕ) (fault : FaultAt) → reads text ≡ Err fault ↔ IsFault text fault) where
  ends_at : (line : ℕ) (text : List ℕ) (r : Result ScenarioContents FaultAt) → reads text ≡ r → IsLineOf line text
      → is_over line (fault_read r) ≡ true ↔ MayGoOn line text
  ends_at line text (Ok S) read is = (
    λ over. (let spelled = spells text S read in
        front (lines_of text) line (text, [], S, sym (nothing_behind (lines_of text)), spelled.is_text)),
    λ begins. refl,
  )
    where
      nothing_behind : (ls : List (List ℕ)) → ls ++ [] ≡ ls
      nothing_behind [] = refl
      nothing_behind (l ∷ ls) = ap (λ (rest : List (List ℕ)). l ∷ rest) (nothing_behind ls)
  ends_at line text (Err fault) read is = (
    λ over. goes line text fault (below line fault.line over) ((faulty text fault).0 read),
    λ begins. below_is line fault.line (later line text fault is begins ((faulty text fault).0 read)),
  )

  pub ends : (line : ℕ) (text : List ℕ) → IsLineOf line text → may_end line text ≡ true ↔ MayGoOn line text
  ends line text is = ends_at line text (reads text) refl is
