-- Lines of `next`, and the instructions that they stand for.
use Rattle.std.proofs.Common.{◌≡◌, ℕ, zero, suc, ◌+◌, ◌*◌, ◌/◌, ◌%◌, List, ◌++◌, replicate, arith, refl, sym, ap, ◌∙◌, append-nil}
use Rattle.std.proofs.lemmas.Grind.{flat_map-append}
use Rattle.cmwq_types.specs.Contents.{ActorContents}
use Rattle.cmwq_types.specs.Scenario.{expand, expand_lines}
use Rattle.cmwq_types.specs.declared.instr.Instr.{Instr}
use Rattle.cmwq_types.specs.declared.instr.Instr.TheVariants as instr
use Rattle.cmwq_types.specs.declared.limits.TheConstants.{MAX_TIMES}
use Rattle.cmwq_types.specs.declared.scenario.Line.{Line}
use Rattle.cmwq_runs.proofs.LineLemmas.{replicate_add}
use Rattle.cmwq_settle.specs.Settled.{next_line, next_lines, rest_lines, with_nexts}
use Rattle.cmwq_settle.specs.Settling.{followed}

full-nexts : (k m : ℕ) → expand_lines (replicate k (next_line m)) ≡ replicate (k * m) instr.Next
full-nexts zero m = let none : 0 ≡ 0 * m = omega arith in ap (λ (n : ℕ). replicate n instr.Next) none
full-nexts (suc k) m =
    let all : m + k * m ≡ suc k * m = omega arith in
    ap (λ (more : List Instr). replicate m instr.Next ++ more) (full-nexts k m)
    ∙ sym (replicate_add m (k * m) instr.Next) ∙ ap (λ (n : ℕ). replicate n instr.Next) all

rest-nexts : (r : ℕ) → expand_lines (rest_lines r) ≡ replicate r instr.Next
rest-nexts zero = refl
rest-nexts (suc r) = append-nil (replicate (suc r) instr.Next)

-- so many full lines, and a rest
both-nexts : (k m r n : ℕ) → k * m + r ≡ n → expand_lines (replicate k (next_line m) ++ rest_lines r) ≡ replicate n instr.Next
both-nexts k m r n all =
    flat_map-append (λ (line : Line). replicate line.times line.instr) (replicate k (next_line m)) (rest_lines r)
    ∙ ap (λ (front : List Instr). front ++ expand_lines (rest_lines r)) (full-nexts k m)
    ∙ ap (λ (rest : List Instr). replicate (k * m) instr.Next ++ rest) (rest-nexts r)
    ∙ sym (replicate_add (k * m) r instr.Next) ∙ ap (λ (i : ℕ). replicate i instr.Next) all

-- the lines stand for so many `next`
pub expand-next_lines : (n : ℕ) → expand_lines (next_lines n) ≡ replicate n instr.Next
expand-next_lines n = both-nexts (n / MAX_TIMES) MAX_TIMES (n % MAX_TIMES) n (omega arith)

-- and behind an actor's lines for its instructions and them
pub expand-with_nexts : (n : ℕ) (actor : ActorContents) → expand (with_nexts n actor) ≡ followed actor n
expand-with_nexts n actor =
    flat_map-append (λ (line : Line). replicate line.times line.instr) actor.lines (next_lines n)
    ∙ ap (λ (more : List Instr). expand actor ++ more) (expand-next_lines n)
