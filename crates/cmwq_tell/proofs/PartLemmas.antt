-- The parts of a run are all of its instructions.
use Rattle.std.proofs.Common.{◌≡◌, ◌≤◌, ◌+◌, ◌-◌, ℕ, suc, Bool, true, false, cond, List, [], ◌∷◌, ◌++◌, replicate, arith, refl, sym, ap, ◌∙◌}
use Rattle.std.proofs.lemmas.Bool.{and_parts}
use Rattle.std.specs.List.{flat_map}
use Rattle.std.specs.Prelude.{◌&&◌}
use Rattle.cmwq_types.specs.Contents.{ScenarioContents}
use Rattle.cmwq_types.specs.ExactEquality.{same_instr}
use Rattle.cmwq_types.specs.contracts.instr.InstrPartialEq.TheImpl as instr_eq
use Rattle.cmwq_types.specs.declared.instr.Instr.{Instr}
use Rattle.cmwq_table.specs.State.{State, start}
use Rattle.cmwq_table.specs.Table.{table}
use Rattle.cmwq_tell.specs.Laws.{PartsAreAll, instr_said, instrs_said, part_spelled}
use Rattle.cmwq_tell.specs.RunTold.{Part, has_come, joined, joins, part_at, parts_from}

-- the first of them begins at this position
abbrev BeginsAt : ℕ → List Part → Type 0
BeginsAt k [] = Unit {0}
BeginsAt k (part ∷ parts) = (part.first ≡ k) × (k ≤ part.last)

module _ (S : ScenarioContents) where
  joined-begins : (k : ℕ) (s : State) (i : Instr) (parts : List Part) → BeginsAt (k + 1) parts → BeginsAt k (joined (part_at S k s i) parts)
  joined-begins k s i [] begins = (refl, omega arith)
  joined-begins k s i (next ∷ others) begins = by (joins (part_at S k s i) next) where
    by : (b : Bool) → BeginsAt k (cond b (record (part_at S k s i) { last = next.last } ∷ others) (part_at S k s i ∷ next ∷ others))
    by true = (refl, omega (arith, begins.1))
    by false = (refl, omega arith)

  begins : (k : ℕ) (s : State) (instrs : List Instr) → BeginsAt k (parts_from S k s instrs)
  begins k s [] = tt
  begins k s (i ∷ is) = joined-begins k s i (parts_from S (k + 1) (table S s i).0 is) (begins (k + 1) (table S s i).0 is)

  one-spelled : (k : ℕ) (i : Instr) → instrs_said S k (replicate (k + 1 - k) i) ≡ instr_said S k i ∷ []
  one-spelled k i =
      let one : k + 1 - k ≡ 1 = omega arith in
      ap (λ (n : ℕ). instrs_said S k (replicate n i)) one

  joined-spelled : (k : ℕ) (s : State) (i : Instr) (parts : List Part) → BeginsAt (k + 1) parts
      → flat_map (part_spelled S) (joined (part_at S k s i) parts) ≡ instr_said S k i ∷ flat_map (part_spelled S) parts
  joined-spelled k s i [] begins = ap (λ (lines : List (List ℕ)). lines ++ []) (one-spelled k i)
  joined-spelled k s i (next ∷ others) begins = by (joins (part_at S k s i) next) refl where
    by : (b : Bool) → joins (part_at S k s i) next ≡ b
        → flat_map (part_spelled S) (cond b (record (part_at S k s i) { last = next.last } ∷ others) (part_at S k s i ∷ next ∷ others))
        ≡ instr_said S k i ∷ flat_map (part_spelled S) (next ∷ others)
    by true j =
        let outer = and_parts (has_come S s i && next.come) (instr_eq.ghosts.eq i next.instr) j in
        let is : i ≡ next.instr = same_instr i next.instr outer.1 in
        let longer : next.last + 1 - k ≡ suc (next.last + 1 - (k + 1)) = omega (arith, begins.1) in
        ap (λ (n : ℕ). instrs_said S k (replicate n i) ++ flat_map (part_spelled S) others) longer
        ∙ ap (λ (x : Instr). instr_said S k i ∷ (instrs_said S (k + 1) (replicate (next.last + 1 - (k + 1)) x) ++ flat_map (part_spelled S) others)) is
        ∙ ap (λ (first : ℕ). instr_said S k i ∷ (instrs_said S first (replicate (next.last + 1 - first) next.instr) ++ flat_map (part_spelled S) others)) (sym begins.0)
    by false j = ap (λ (lines : List (List ℕ)). lines ++ flat_map (part_spelled S) (next ∷ others)) (one-spelled k i)

  spelled : (k : ℕ) (s : State) (instrs : List Instr) → flat_map (part_spelled S) (parts_from S k s instrs) ≡ instrs_said S k instrs
  spelled k s [] = refl
  spelled k s (i ∷ is) =
      let t = (table S s i).0 in
      joined-spelled k s i (parts_from S (k + 1) t is) (begins (k + 1) t is)
      ∙ ap (λ (lines : List (List ℕ)). instr_said S k i ∷ lines) (spelled (k + 1) t is)

pub parts_are_all : PartsAreAll
unfolding PartsAreAll
parts_are_all S instrs = spelled S 0 (start S) instrs
