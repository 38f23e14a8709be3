-- The page on what a scenario's text may say.
use Rattle.std.specs.Prelude.{◌≡◌, ℕ, List, ◌++◌, codes, map, true}
use Rattle.std.specs.List.{flat_map}
use Rattle.cmwq_types.specs.Fields.{shape_of}
use Rattle.cmwq_types.specs.Listing.{flag_words}
use Rattle.cmwq_types.specs.Mnemonics.{mnemonics, spelling}
use Rattle.cmwq_types.specs.declared.mnemonic.Mnemonic.{Mnemonic}
use Rattle.cmwq_language.specs.Limits.{in_bodies, in_lines, limited_text}
use Rattle.cmwq_language.specs.Meanings.{flag_meaning, flag_word, meaning, operand_names, queue_flags}
use Rattle.cmwq_language.specs.declared.meanings.QueueFlag.{QueueFlag}
use Rattle.cmwq_language.specs.declared.page.TheConstants.{AT_THE_END, FLAGS_FOLLOW, INSTRUCTIONS_FOLLOW, OPERATIONS_FOLLOW, TEXTS}

-- `  FLAG: what it means`
abbrev pub flag_line : QueueFlag → List ℕ
flag_line flag = codes "  " ++ flag_word flag ++ flag_meaning flag

-- `  WORD OPERANDS: what it does`
abbrev pub instruction_line : Mnemonic → List ℕ
instruction_line word = codes "  " ++ spelling word ++ operand_names (shape_of word) ++ meaning word

-- the lines with their limits, the flags, the operations, and the instructions
abbrev pub language_page : List ℕ
language_page =
    TEXTS.now ++ flat_map limited_text in_lines ++ FLAGS_FOLLOW.now ++ flat_map flag_line queue_flags ++ OPERATIONS_FOLLOW.now
    ++ flat_map limited_text in_bodies
    ++ INSTRUCTIONS_FOLLOW.now
    ++ flat_map instruction_line mnemonics
    ++ AT_THE_END.now

-- it has a line for each flag that a listing may have, in the listing's order
abbrev pub HasEachFlag : Type 0
HasEachFlag =
    map flag_word queue_flags
    ≡ flag_words (record { highpri = true; unbound = true; cpu_intensive = true; freezable = true; ordered = true; mem_reclaim = true })
