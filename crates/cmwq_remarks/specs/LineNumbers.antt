-- The numbers of a text's lines, from 1, blank ones and comments counted.
use Rattle.std.specs.Prelude.{ℕ, suc, ◌+◌, ◌-◌, List, [], ◌∷◌, length, ◌==◌, if◌then◌else◌, nat_lt}
use Rattle.cmwq_types.specs.declared.scenario.Line.{Line}
use Rattle.cmwq_grammar.specs.Cutting.{is_empty, lines_of, words_of, worded}

-- the number, counted on from n, of the line that stands behind so many others that have words, and has some itself
abbrev pub number_from : (n : ℕ) → List (List ℕ) → (others : ℕ) → ℕ
number_from n [] others = n
number_from n (line ∷ lines) others =
    if is_empty (words_of line)
    then number_from (suc n) lines others
    else if others == 0 then n else number_from (suc n) lines (others - 1)

-- the actor's lines end the text: the number of the one behind so many others of them
abbrev pub number_of_last : (text : List ℕ) → (count place : ℕ) → ℕ
number_of_last text count place = number_from 1 (lines_of text) (length (worded (lines_of text)) - count + place)

-- which line has the instruction at this place of a run, each line's instruction counted as often as it stands
abbrev pub line_at : List Line → ℕ → ℕ
line_at [] place = 0
line_at (line ∷ lines) place = if nat_lt place line.times then 0 else suc (line_at lines (place - line.times))
