-- The instructions of some of the lines.
use Rattle.std.proofs.Common.{◌≡◌, ℕ, zero, suc, ◌+◌, ◌-◌, ◌<◌, ◌≤◌, List, [], ◌∷◌, ◌++◌, replicate, sym, ap, ◌∙◌, append-nil, zero-add, length, length-append, take, drop, arith}
use Rattle.std.proofs.lemmas.Grind.{flat_map-append}
use Rattle.std.proofs.lemmas.List.{length-replicate, take-append-drop, take_more}
use Rattle.std.specs.Prelude.{slice_index_or}
use Rattle.cmwq_types.specs.Scenario.{expand_lines}
use Rattle.cmwq_types.specs.declared.instr.Instr.{Instr}
use Rattle.cmwq_types.specs.declared.instr.Instr.TheVariants.{Queue}
use Rattle.cmwq_types.specs.declared.scenario.Line.{Line}

-- the instructions of a line in two parts
pub replicate_add : {A : Type 0} (m n : ℕ) (x : A) → replicate (m + n) x ≡ replicate m x ++ replicate n x
replicate_add zero n x = ap (λ (k : ℕ). replicate k x) (zero-add n)
replicate_add (suc m) n x =
    let next : suc m + n ≡ suc (m + n) = omega arith in
    ap (λ (k : ℕ). replicate k x) next ∙ ap (λ xs. x ∷ xs) (replicate_add m n x)

-- so many of an instruction, and what is left of them
pub replicate_rest : {A : Type 0} (k n : ℕ) (x : A) → k ≤ n → replicate n x ≡ replicate k x ++ replicate (n - k) x
replicate_rest k n x within =
    let whole : n ≡ k + (n - k) = omega arith in
    ap (λ (m : ℕ). replicate m x) whole ∙ replicate_add k (n - k) x

-- the instructions of one line more
pub expand_lines-more : (lines : List Line) (i : ℕ) (d : Line) → i < length lines → expand_lines (take (i + 1) lines) ≡ expand_lines (take i lines) ++ replicate (slice_index_or lines i d).times (slice_index_or lines i d).instr
expand_lines-more lines i d within =
    let line = slice_index_or lines i d in
    ap expand_lines (take_more lines i d within)
    ∙ flat_map-append (λ l. replicate l.times l.instr) (take i lines) (line ∷ [])
    ∙ ap (λ (more : List Instr). expand_lines (take i lines) ++ more) (append-nil (replicate line.times line.instr))

-- and those of the lines that are left
pub expand_lines-rest : (lines : List Line) (i : ℕ) → expand_lines lines ≡ expand_lines (take i lines) ++ expand_lines (drop i lines)
expand_lines-rest lines i = ap expand_lines (sym (take-append-drop i lines)) ∙ flat_map-append (λ line. replicate line.times line.instr) (take i lines) (drop i lines)

-- the lines up to one and that line are no more instructions than all
pub expand_lines-within : (lines : List Line) (i : ℕ) (d : Line) → i < length lines → length (expand_lines (take i lines)) + (slice_index_or lines i d).times ≤ length (expand_lines lines)
expand_lines-within lines i d within =
    let line = slice_index_or lines i d in
    let these = replicate line.times line.instr in
    let more = ap length (expand_lines-more lines i d within) ∙ length-append (expand_lines (take i lines)) these in
    let all = ap length (expand_lines-rest lines (i + 1)) ∙ length-append (expand_lines (take (i + 1) lines)) (expand_lines (drop (i + 1) lines)) in
    omega (arith, more, all, length-replicate line.times line.instr)

-- the plainest line
unfoldable pub no_line : Line
no_line = record { instr = Queue (record { 0 = 0 }) 0; times = 0 }
