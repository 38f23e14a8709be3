-- The lines before a fault are those of the text cut there, and the table has what goes on after them.
use Rattle.std.proofs.Common.{◌≡◌, ◌≢◌, ℕ, zero, suc, ◌+◌, ◌-◌, ◌≤◌, ◌⊎◌, inl, inr, Bool, true, false, not, ◌&&◌, cond, eqb, List, [], ◌∷◌, ◌++◌, length, take, arith, ap, sym, ◌∙◌, refl, Result, Ok, Err}
use Rattle.std.proofs.lemmas.Bool.Decides.{nat_tests}
use Rattle.std.proofs.lemmas.List.{take_all}
use Rattle.std.specs.List.{list_all, slice_split}
use Rattle.std.specs.Prelude.{IfOk, MatchResult, OnOk}
use Rattle.cmwq_asm.specs.declared.fault.AsmError.{AsmError}
use Rattle.cmwq_asm.specs.declared.fault.AsmError.TheVariants as asm
use Rattle.cmwq_grammar.specs.declared.next.Next.{Next}
use Rattle.cmwq_grammar.specs.declared.why.Why.{Why}
use Rattle.cmwq_types.specs.declared.limits.TheConstants.{MAX_TEXT}
use Rattle.cmwq_grammar.proofs.CallerLemmas.{cut_none, line_cut}
use Rattle.cmwq_grammar.specs.Cutting.{lines_of, without_empty_last}
use Rattle.cmwq_grammar.specs.FaultLaw.{FaultAtEnd, FaultInLine, IsFault}
use Rattle.cmwq_grammar.specs.Meaning.{FaultAt, stage_after}
use Rattle.cmwq_grammar.specs.Stages.{Stage, Start}
use Rattle.cmwq_verdict.specs.FaultPlaces.{line_start}

abbrev not_feed : ℕ → Bool
not_feed byte = not (eqb byte 10)

-- a text is one line without a line feed, or begins with a line and its line feed
abbrev Cut : List ℕ → Type 0
Cut text = (list_all not_feed text ≡ true) ⊎ ((line : List ℕ) × (rest : List ℕ) × (text ≡ line ++ 10 ∷ rest) × (list_all not_feed line ≡ true))

cut : (text : List ℕ) → Cut text
cut [] = inl refl
cut (x ∷ text) = at (eqb x 10) refl (cut text)
  where
    feed : eqb x 10 ≡ true → x ≡ 10
    feed e = grind (arith, nat_tests)

    on : eqb x 10 ≡ false → (line : List ℕ) → list_all not_feed line ≡ true → list_all not_feed (x ∷ line) ≡ true
    on e line all = ap (λ (b : Bool). not b && list_all not_feed line) e ∙ all

    at : (b : Bool) → eqb x 10 ≡ b → Cut text → Cut (x ∷ text)
    at true e later = inr ([], text, ap (λ (y : ℕ). y ∷ text) (feed e), refl)
    at false e (inl all) = inl (on e text all)
    at false e (inr it) = inr (x ∷ it.0, it.1, ap (λ (ys : List ℕ). x ∷ ys) it.2, on e it.0 it.3)

-- the next line begins behind the line feed
start_behind : (n : ℕ) (line rest : List ℕ) → list_all not_feed line ≡ true → line_start (suc n) (line ++ 10 ∷ rest) ≡ length line + 1 + line_start n rest
start_behind n [] rest all = omega arith
start_behind n (x ∷ line) rest all = at (eqb x 10) refl (start_behind n line rest)
  where
    at : (b : Bool) → eqb x 10 ≡ b → (list_all not_feed line ≡ true → line_start (suc n) (line ++ 10 ∷ rest) ≡ length line + 1 + line_start n rest)
        → suc (cond (eqb x 10) (line_start n (line ++ 10 ∷ rest)) (line_start (suc n) (line ++ 10 ∷ rest))) ≡ suc (length line) + 1 + line_start n rest
    at true e later = (let clash : true ≡ false = sym all ∙ ap (λ (b : Bool). not b && list_all not_feed line) e in cc)
    at false e later =
        let rest_of : list_all not_feed line ≡ true = ap (λ (b : Bool). not b && list_all not_feed line) (sym e) ∙ all in
        let found = later rest_of in
        let same = ap (λ (b : Bool). suc (cond b (line_start n (line ++ 10 ∷ rest)) (line_start (suc n) (line ++ 10 ∷ rest)))) e in
        omega (arith, found, same)

-- where there is no line feed no further line begins
no_start : (n : ℕ) (text : List ℕ) → list_all not_feed text ≡ true → line_start (suc n) text ≡ length text
no_start n [] all = refl
no_start n (x ∷ text) all = at (eqb x 10) refl (no_start n text)
  where
    at : (b : Bool) → eqb x 10 ≡ b → (list_all not_feed text ≡ true → line_start (suc n) text ≡ length text)
        → suc (cond (eqb x 10) (line_start n text) (line_start (suc n) text)) ≡ suc (length text)
    at true e later = (let clash : true ≡ false = sym all ∙ ap (λ (b : Bool). not b && list_all not_feed text) e in cc)
    at false e later =
        let rest_of : list_all not_feed text ≡ true = ap (λ (b : Bool). not b && list_all not_feed text) (sym e) ∙ all in
        ap (λ (b : Bool). suc (cond b (line_start n text) (line_start (suc n) text))) e ∙ ap suc (later rest_of)

take_on : (line rest : List ℕ) (k m : ℕ) → m ≡ length line + 1 + k → take m (line ++ 10 ∷ rest) ≡ line ++ 10 ∷ take k rest
take_on [] rest k m e = ap (λ (j : ℕ). take j (10 ∷ rest)) (number m k (omega (arith, e)))
  where
    number : (a b : ℕ) → a ≡ b + 1 → a ≡ suc b
    number a b h = omega (arith, h)
take_on (x ∷ line) rest k zero e = absurd (omega (arith, e))
take_on (x ∷ line) rest k (suc m) e = ap (λ (ys : List ℕ). x ∷ ys) (take_on line rest k m (omega (arith, e)))

empty : (m : ℕ) (ls : List (List ℕ)) → ls ≡ [] → take m ls ≡ []
empty zero ls e = refl
empty (suc m) ls e = ap (take (suc m)) e

one_line : (n : ℕ) (text : List ℕ) → list_all not_feed text ≡ true → take (suc n) (lines_of text) ≡ lines_of text
one_line n text all =
    let pieces : slice_split (λ byte. eqb byte 10) text ≡ text ∷ [] = cut_none (λ byte. eqb byte 10) text all in
    ap (λ (ps : List (List ℕ)). take (suc n) (without_empty_last ps)) pieces ∙ at (eqb (length text) 0) ∙ sym (ap without_empty_last pieces)
  where
    at : (b : Bool) → take (suc n) (cond b [] (text ∷ [])) ≡ cond b [] (text ∷ [])
    at true = refl
    at false = ap (λ (ls : List (List ℕ)). text ∷ ls) (empty n [] refl)

-- the text cut where line n begins has the lines before it
pub front_lines : (n : ℕ) (text : List ℕ) → lines_of (take (line_start n text) text) ≡ take n (lines_of text)
front_lines zero text = refl
front_lines (suc n) text = elim (cut text) [
  | inl none ↦ ap lines_of (take_all (line_start (suc n) text) text (let all = no_start n text none in omega (arith, all))) ∙ sym (one_line n text none)
  | inr it ↦ (let line : List ℕ = it.0 in
      let rest : List ℕ = it.1 in
      let whole : text ≡ line ++ 10 ∷ rest = it.2 in
      ap (λ (t : List ℕ). lines_of (take (line_start (suc n) t) t)) whole
      ∙ ap lines_of (take_on line rest (line_start n rest) (line_start (suc n) (line ++ 10 ∷ rest)) (start_behind n line rest it.3))
      ∙ line_cut line (take (line_start n rest) rest) it.3 ∙ ap (λ (ls : List (List ℕ)). line ∷ ls) (front_lines n rest)
      ∙ sym (ap (take (suc n)) (ap lines_of whole ∙ line_cut line rest it.3)))
]

-- reading reaches a stage before a fault that is in a line or behind the last one
pub record Reached (text : List ℕ) (line : ℕ) : Type 0 where
  pub short : length text ≤ MAX_TEXT
  pub stage : Stage
  pub is : stage_after 1 (take (line - 1) (lines_of text)) Start ≡ Ok stage

pub reached : (text : List ℕ) (fault : FaultAt) → fault.line ≢ 0 → IsFault text fault → Reached text fault.line
reached text fault some (inl it) = absurd (some (ap (λ (f : FaultAt). f.line) it.1))
reached text fault some (inr (inl it)) =
    let at : FaultInLine (lines_of text) it.1 fault = it.2 in
    let before : fault.line - 1 ≡ it.1 = (let e : fault.line ≡ it.1 + 1 = at.line in omega (arith, e)) in
    record {
      short = it.0;
      stage = (at.why).0;
      is = ap (λ (n : ℕ). stage_after 1 (take n (lines_of text)) Start) before ∙ (at.why).1;
    }
reached text fault some (inr (inr it)) =
    let at : FaultAtEnd text fault = it.1 in
    let before : fault.line - 1 ≡ length (lines_of text) = (let e : fault.line ≡ length (lines_of text) + 1 = at.line in omega (arith, e)) in
    record {
      short = it.0;
      stage = (at.why).0;
      is = ap (λ (n : ℕ). stage_after 1 (take n (lines_of text)) Start) before
          ∙ ap (λ (ls : List (List ℕ)). stage_after 1 ls Start) (take_all (length (lines_of text)) (lines_of text) (omega arith)) ∙ (at.why).1;
    }

-- What the assembler answered.

abbrev Answers : Result Next AsmError → Next → Type 0
Answers r x = MatchResult r (λ n. n ≡ x) (λ e. e ≡ asm.NoMemory)

pub not_told : (r : Result Next AsmError) (x : Next) (e : AsmError) (line : ℕ) (why : Why) → Answers r x → r ≡ Err e → e ≡ asm.At line why → ⊥
not_told (Ok n) x e line why answers is at = cc
not_told (Err f) x e line why answers is at = cc

pub next_is : (r : Result Next AsmError) (x n : Next) → Answers r x → r ≡ Ok n → n ≡ x
next_is (Ok m) x n answers is = cc
next_is (Err f) x n answers is = cc

-- an answer that is such is also such
pub ok_with : {A E : Type 0} (P Q : A → Type 0) (r : Result A E) → IfOk r P → ((x : A) → P x → Q x) → IfOk r Q
ok_with P Q (Ok x) holds to = to x holds
ok_with P Q (Err e) holds to = tt

pub on_ok : {A E : Type 0} (P Q : Type 0) (r : Result A E) → OnOk r P → (P → Q) → OnOk r Q
on_ok P Q (Ok x) holds to = to holds
on_ok P Q (Err e) holds to = tt
