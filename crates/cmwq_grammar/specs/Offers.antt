-- Which words a further line of a text may begin with.
use Rattle.std.specs.Prelude.{◌≡◌, ℕ, ◌+◌, Bool, true, List, [], ◌∷◌, ◌++◌, length, map, Ok, if◌then◌else◌, codes, nat_lt}
use Rattle.std.specs.List.{filter}
use Rattle.cmwq_types.specs.Listing.{word_if}
use Rattle.cmwq_types.specs.Mnemonics.{mnemonics, spelling}
use Rattle.cmwq_types.specs.declared.limits.TheConstants.{MAX_ACTORS, MAX_LINES, MAX_OPS, MAX_QUEUES, MAX_WORKS}
use Rattle.cmwq_grammar.specs.Cutting.{words_of}
use Rattle.cmwq_grammar.specs.FaultLaw.{Begins}
use Rattle.cmwq_grammar.specs.Instructions.{Operands, Makes, OfWork, OfQueue, OfNumber, operands_of}
use Rattle.cmwq_grammar.specs.Meaning.{stage_after}
use Rattle.cmwq_grammar.specs.LineReasons.{all_have_bodies}
use Rattle.cmwq_grammar.specs.Stages.{Stage, Start, Cpus, Workers, Steps, Queues, Works, Bodies, Body, Actor}
use Rattle.cmwq_grammar.specs.declared.next.Next.{Next}
use Rattle.cmwq_grammar.specs.declared.next.Next.TheVariants as next

-- Some scenario's text, its length left aside, begins with these lines and then has a line whose first word is this one.
abbrev pub GoesOnWith : List (List ℕ) → List ℕ → Type 0
GoesOnWith lines word =
    (line : List ℕ) × (rest : List (List ℕ)) × (words_of line ≡ word ∷ rest) × Begins (lines ++ line ∷ [])

-- The table: what a further line may be at each stage.
abbrev pub next_offered : Stage → Next
next_offered Start = next.Cpus
next_offered (Cpus cpus) = next.Workers
next_offered (Workers cpus workers) = next.Steps
next_offered (Steps cpus workers steps) = next.Flushes
next_offered (Queues S) = next.Declaration (nat_lt (length S.queues) MAX_QUEUES) (nat_lt 0 (length S.queues))
next_offered (Works S) = next.Work (nat_lt (length S.works) MAX_WORKS)
next_offered (Bodies S done) = if all_have_bodies S done then next.Actor else next.Body
next_offered (Body S done ops) = next.Operation (nat_lt (length ops + 1) MAX_OPS)
next_offered (Actor S name lines) =
    next.Instruction (nat_lt (length lines) MAX_LINES) (nat_lt 0 (length S.works)) (nat_lt 0 (length S.queues)) (nat_lt (length S.actors + 1) MAX_ACTORS)

-- whether there is one of what the first operand names
abbrev pub has_named : Bool → Bool → Operands → Bool
has_named works queues (Makes instr) = true
has_named works queues (OfWork after) = works
has_named works queues (OfQueue after) = queues
has_named works queues (OfNumber high after) = true

-- the words of operations but for `finish`
abbrev pub operation_words : List (List ℕ)
operation_words = codes "burn" ∷ codes "sleep" ∷ codes "queue" ∷ codes "delay" ∷ codes "mod" ∷ codes "cancel" ∷ []

-- and the words that such a line begins with
abbrev pub words_of_next : Next → List (List ℕ)
words_of_next next.Cpus = codes "cpus" ∷ []
words_of_next next.Workers = codes "workers" ∷ []
words_of_next next.Steps = codes "steps" ∷ []
words_of_next next.Flushes = codes "flushes" ∷ []
words_of_next (next.Declaration room queues) = word_if room (codes "queue") ++ word_if queues (codes "work") ++ codes "actor" ∷ []
words_of_next (next.Work room) = word_if room (codes "work") ++ codes "body" ∷ []
words_of_next next.Body = codes "body" ∷ []
words_of_next next.Actor = codes "actor" ∷ []
words_of_next (next.Operation room) = (if room then operation_words else []) ++ codes "finish" ∷ []
words_of_next (next.Instruction room works queues actor) =
    (if room then map spelling (filter (λ mnemonic. has_named works queues (operands_of mnemonic)) mnemonics) else []) ++ word_if actor (codes "actor")

abbrev pub next_words : Stage → List (List ℕ)
next_words stage = words_of_next (next_offered stage)

-- this is what a further line may be after these lines
abbrev pub IsNextAfter : List (List ℕ) → Next → Type 0
IsNextAfter lines next = (stage : Stage) × (stage_after 1 lines Start ≡ Ok stage) × (next ≡ next_offered stage)
