-- How lines are written: the operands behind a first word, and the words that stand for those of a kernel. The tables are this project's own.
use Rattle.std.specs.Prelude.{ℕ, Bool, false, ◌||◌, List, [], ◌∷◌, ◌++◌, Option, None, Some, ◌==◌, drop, length, option_map, position, take, if◌then◌else◌}
use Rattle.std.specs.Str.{bytes_eq}
use Rattle.cmwq_types.specs.Fields.{shape_of}
use Rattle.cmwq_types.specs.First.{or_else}
use Rattle.cmwq_types.specs.Mnemonics.{mnemonic_of}
use Rattle.cmwq_types.specs.declared.mnemonic.Mnemonic.{Mnemonic}
use Rattle.cmwq_grammar.specs.Cutting.{lines_of, words_of}
use Rattle.cmwq_grammar.specs.declared.next.Next.{Next}
use Rattle.cmwq_grammar.specs.declared.next.Next.TheVariants as next
use Rattle.cmwq_language.specs.Meanings.{operand_names}
use Rattle.cmwq_verdict.specs.declared.forms.TheConstants.{CALLS, DECLARATIONS, DECLARERS, OPERATIONS}

-- these words begin with this one
abbrev pub begin_with : (word : List ℕ) → List (List ℕ) → Bool
begin_with word [] = false
begin_with word (first ∷ others) = bytes_eq first word

-- what follows the word in the first of the lines that begins with it
abbrev pub rest_in : List (List ℕ) → (word : List ℕ) → Option (List ℕ)
rest_in [] word = None
rest_in (line ∷ lines) word = if begin_with word (words_of line) then Some (drop (length word) line) else rest_in lines word

-- the operands of a line that begins with this word, each behind a blank
abbrev pub instruction_operands : Option Mnemonic → Option (List ℕ)
instruction_operands None = None
instruction_operands (Some mnemonic) = Some (operand_names (shape_of mnemonic))

abbrev pub operands_at : Next → (word : List ℕ) → Option (List ℕ)
operands_at (next.Operation room) word = rest_in (lines_of OPERATIONS.now) word
operands_at (next.Instruction room works queues actor) word = or_else (instruction_operands (mnemonic_of word)) (rest_in (lines_of DECLARATIONS.now) word)
operands_at other word = rest_in (lines_of DECLARATIONS.now) word

-- how such a line is written
abbrev pub form_at : Next → (word : List ℕ) → Option (List ℕ)
form_at next word = option_map (λ operands. word ++ operands) (operands_at next word)

-- Words of a kernel: calls, which instructions and operations stand for, and what declares.

abbrev pub kernel_words : Next → List ℕ
kernel_words (next.Operation room) = CALLS.now
kernel_words (next.Instruction room works queues actor) = CALLS.now
kernel_words other = DECLARERS.now

-- a call's name: `queue_work` of `queue_work(q,`
abbrev pub ends_name : ℕ → Bool
ends_name byte = (byte == 40) || (byte == 59)

abbrev pub front_to : Option ℕ → List ℕ → List ℕ
front_to None word = word
front_to (Some n) word = take n word

abbrev pub call_name : List ℕ → List ℕ
call_name word = front_to (position ends_name word) word

-- how the line is written that stands for the call
abbrev pub form_of_word : Next → Option (List ℕ) → Option (List ℕ)
form_of_word next None = None
form_of_word next (Some word) = form_at next (drop 1 word)

abbrev pub kernel_form : Next → (word : List ℕ) → Option (List ℕ)
kernel_form next word = form_of_word next (rest_in (lines_of (kernel_words next)) (call_name word))
