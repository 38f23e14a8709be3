-- An actor's line: what is read is said so, and what is said so is read.
use Rattle.std.proofs.Common.{◌≡◌, ℕ, suc, ◌<◌, ◌≤◌, ◌^◌, Bool, true, ◌&&◌, ◌⊎◌, List, [], ◌∷◌, ◌++◌, length, get_or, ltb, Option, Some, None, Ok, Err, arith, refl, sym, ap, ◌∙◌, inl, inr, subst, codes, append_assoc, append-nil}
use Rattle.std.specs.Fmt.{decimal}
use Rattle.std.specs.Str.{bytes_eq}
use Rattle.cmwq_types.specs.Contents.{ScenarioContents}
use Rattle.cmwq_types.specs.Faults.{names_declared, within}
use Rattle.cmwq_types.specs.Listing.{actor_line, instr_words}
use Rattle.cmwq_types.specs.Mnemonics.{first_spelled, mnemonic_of, mnemonics, spelling}
use Rattle.cmwq_types.specs.Scenario.{queue_at, work_at}
use Rattle.cmwq_types.specs.Values.{IsInstr, IsLine}
use Rattle.cmwq_types.specs.declared.instr.Instr.{Instr}
use Rattle.cmwq_types.specs.declared.instr.Instr.TheVariants as instr
use Rattle.cmwq_types.specs.declared.limits.TheConstants.{MAX_QUEUES, MAX_TIMES, MAX_WORKS}
use Rattle.cmwq_types.specs.declared.mnemonic.Mnemonic.{Mnemonic}
use Rattle.cmwq_types.specs.declared.mnemonic.Mnemonic.TheVariants as mnemonic
use Rattle.cmwq_types.specs.declared.scenario.Line.{Line}
use Rattle.cmwq_grammar.specs.LineFields.{◌>>=◌, declared_at, made_last, number_where, number_within}
use Rattle.cmwq_grammar.specs.Grammar.{Says}
use Rattle.cmwq_grammar.specs.Instructions.{Operands, Makes, OfWork, OfQueue, OfNumber, instr_at, instr_named, line_at, line_times, operands_at, operands_of, queue_id, queue_names, then_times, times_at, work_id, work_names}
use Rattle.cmwq_grammar.specs.declared.why.Why.TheVariants as why
use Rattle.cmwq_grammar.proofs.Basics.{ok_same, bind_ok, bind_at, and_true, below, true_and, chosen, same_word}
use Rattle.cmwq_grammar.proofs.FieldLemmas.{declared_read, ended_again, last_read, where_read, where_again, within_fits, fits_within}
use Rattle.cmwq_grammar.proofs.LineLemmas.{not_standing}
use Rattle.cmwq_grammar.proofs.NameLists.{GoodNames, name_of_queue, name_of_work, queue_below, queue_declared, work_below, work_declared}

-- Read: what the table makes of words is an instruction that those words say.

put_first : (word first : List ℕ) (rest words : List (List ℕ)) → word ≡ first → rest ≡ words → word ∷ rest ≡ first ∷ words
put_first word first rest words is e = ap (λ (w : List ℕ). w ∷ rest) is ∙ ap (λ (ws : List (List ℕ)). first ∷ ws) e

-- the instruction that these operands make is said by the words so far and then by theirs
SaidBehind : ScenarioContents → List (List ℕ) → Operands → Type 0
SaidBehind S words (Makes i) = (instr_words S i ≡ words) × (names_declared S i ≡ true) × IsInstr i
SaidBehind S words (OfWork next) =
    (work : ℕ) → ltb work (length S.works) ≡ true → work < 2 ^ 16 → SaidBehind S (words ++ (work_at S work).name ∷ []) (next (work_id work))
SaidBehind S words (OfQueue next) =
    (queue : ℕ) → ltb queue (length S.queues) ≡ true → queue < 2 ^ 8 → SaidBehind S (words ++ (queue_at S queue).name ∷ []) (next (queue_id queue))
SaidBehind S words (OfNumber high next) = (n : ℕ) → n < suc high → SaidBehind S (words ++ decimal n ∷ []) (next n)

-- each line of the table by the same steps
table_said : (S : ScenarioContents) (mnemonic : Mnemonic) → SaidBehind S (spelling mnemonic ∷ []) (operands_of mnemonic)
unfolding SaidBehind
table_said S mnemonic.Queue = assumption
table_said S _ = assumption

-- the words are the instruction's and then these
abbrev pub InstrRead : ScenarioContents → List (List ℕ) → Instr × List (List ℕ) → Type 0
InstrRead D words found = (words ≡ instr_words D found.0 ++ found.1) × (names_declared D found.0 ≡ true) × IsInstr found.0

-- numbers of works and queues fit their types
pub record FewNames (D : ScenarioContents) : Type 0 where
  pub works : length D.works ≤ MAX_WORKS
  pub queues : length D.queues ≤ MAX_QUEUES

-- an operand's word stands behind the words so far
operand_behind : (words rest after : List (List ℕ)) (word : List ℕ) → rest ≡ word ∷ after → (words ++ word ∷ []) ++ after ≡ words ++ rest
operand_behind words rest after word e = append_assoc words (word ∷ []) after ∙ ap (λ (ws : List (List ℕ)). words ++ ws) (sym e)

operands_read : (D : ScenarioContents) (operands : Operands) (words rest : List (List ℕ)) (found : Instr × List (List ℕ)) → FewNames D → SaidBehind D words operands
    → operands_at D operands rest ≡ Ok found → InstrRead D (words ++ rest) found
unfolding SaidBehind
operands_read D (Makes i) words rest found few said e =
    let same : (i, rest) ≡ found = ok_same (i, rest) found e in
    subst (λ (f : Instr × List (List ℕ)). InstrRead D (words ++ rest) f) same (ap (λ (ws : List (List ℕ)). ws ++ rest) (sym said.0), said.1, said.2)
operands_read D (OfWork next) words rest found few said e =
    let work = bind_ok (declared_at (work_names D) rest) (λ work. operands_at D (next (work_id work.0)) work.1) found e in
    let n : ℕ = (work.0).0 in
    let after : List (List ℕ) = (work.0).1 in
    let there : (rest ≡ get_or (work_names D) n [] ∷ after) × (n < length (work_names D)) = declared_read (work_names D) rest work.0 work.1 in
    let declared : ltb n (length D.works) ≡ true = work_below D n there.1 in
    let small : n < length D.works = below n (length D.works) declared in
    let name : List ℕ = (work_at D n).name in
    subst (λ (ws : List (List ℕ)). InstrRead D ws found) (operand_behind words rest after name (there.0 ∙ ap (λ (w : List ℕ). w ∷ after) (name_of_work D n)))
    (operands_read D (next (work_id n)) (words ++ name ∷ []) after found few (said n declared (omega (arith, few.works))) work.2)
operands_read D (OfQueue next) words rest found few said e =
    let queue = bind_ok (declared_at (queue_names D) rest) (λ queue. operands_at D (next (queue_id queue.0)) queue.1) found e in
    let n : ℕ = (queue.0).0 in
    let after : List (List ℕ) = (queue.0).1 in
    let there : (rest ≡ get_or (queue_names D) n [] ∷ after) × (n < length (queue_names D)) = declared_read (queue_names D) rest queue.0 queue.1 in
    let declared : ltb n (length D.queues) ≡ true = queue_below D n there.1 in
    let small : n < length D.queues = below n (length D.queues) declared in
    let name : List ℕ = (queue_at D n).name in
    subst (λ (ws : List (List ℕ)). InstrRead D ws found) (operand_behind words rest after name (there.0 ∙ ap (λ (w : List ℕ). w ∷ after) (name_of_queue D n)))
    (operands_read D (next (queue_id n)) (words ++ name ∷ []) after found few (said n declared (omega (arith, few.queues))) queue.2)
operands_read D (OfNumber high next) words rest found few said e =
    let number = bind_ok (number_where (within 0 high) rest) (λ n. operands_at D (next n.0) n.1) found e in
    let n : ℕ = (number.0).0 in
    let after : List (List ℕ) = (number.0).1 in
    let there : (rest ≡ decimal n ∷ after) × (within 0 high n ≡ true) = where_read (within 0 high) rest number.0 number.1 in
    let fits : (0 ≤ n) × (n ≤ high) = within_fits 0 high n there.1 in
    subst (λ (ws : List (List ℕ)). InstrRead D ws found) (operand_behind words rest after (decimal n) there.0)
    (operands_read D (next n) (words ++ decimal n ∷ []) after found few (said n (omega (arith, fits.1))) number.2)

spelled_so : (mnemonics : List Mnemonic) (word : List ℕ) (mnemonic : Mnemonic) → first_spelled mnemonics word ≡ Some mnemonic → word ≡ spelling mnemonic
spelled_so [] word mnemonic e = cc
spelled_so (m ∷ more) word mnemonic e =
    elim (chosen (bytes_eq word (spelling m)) (Some m) (first_spelled more word) (Some mnemonic) e) [
      | inl it ↦ (let same : m ≡ mnemonic = some_same m mnemonic it.1 in same_word word (spelling m) it.0 ∙ ap spelling same)
      | inr other ↦ spelled_so more word mnemonic other.1
    ]
  where
    some_same : (x y : Mnemonic) → Some x ≡ Some y → x ≡ y
    some_same x y h = cc

pub instr_read : (D : ScenarioContents) (word : List ℕ) (rest : List (List ℕ)) (found : Instr × List (List ℕ)) → FewNames D → instr_at D word rest ≡ Ok found
    → InstrRead D (word ∷ rest) found
unfolding instr_at
instr_read D word rest found few e = by_mnemonic (mnemonic_of word) refl e
  where
    by_mnemonic : (named : Option Mnemonic) → mnemonic_of word ≡ named → instr_named D word named rest ≡ Ok found → InstrRead D (word ∷ rest) found
    by_mnemonic (Some m) is h = subst (λ (w : List ℕ). InstrRead D (w ∷ rest) found) (sym (spelled_so mnemonics word m is)) (operands_read D (operands_of m) (spelling m ∷ []) rest found few (table_said D m) h)
    by_mnemonic None is h = not_standing why.Misplaced word found h

-- Again: an instruction's words are read as it.

number_given : (high n : ℕ) (rest : List (List ℕ)) → n < suc high → ltb high (10 ^ 10) ≡ true → number_where (within 0 high) (decimal n ∷ rest) ≡ Ok (n, rest)
number_given high n rest fits wide =
    let small : high < 10 ^ 10 = below high (10 ^ 10) wide in
    where_again (within 0 high) n rest (omega arith) (fits_within 0 high n (omega arith) (omega arith))

-- the instruction's words and then these are read as it
abbrev pub InstrReads : ScenarioContents → Instr → List (List ℕ) → Type 0
InstrReads D i left = (word : List ℕ) × (rest : List (List ℕ)) × (instr_words D i ++ left ≡ word ∷ rest) × (instr_at D word rest ≡ Ok (i, left))

ruleset operands_again = (work_declared, queue_declared, number_given)

-- each line of the table by the same steps
pub instr_again : (D : ScenarioContents) (i : Instr) (left : List (List ℕ)) → GoodNames [] (work_names D) → GoodNames [] (queue_names D) → names_declared D i ≡ true
    → IsInstr i → InstrReads D i left
unfolding instr_at
instr_again D (instr.Queue work cpu) left works queues names is = (_, _, refl, search operands_again)
instr_again D _ left works queues names is = (_, _, refl, search operands_again)

-- The whole line.

abbrev pub good_line : ScenarioContents → Line → Bool
good_line D line = names_declared D line.instr && within 1 MAX_TIMES line.times

-- the words after the instruction's say how often it stands
abbrev TimesSaid : List (List ℕ) → ℕ → Type 0
TimesSaid left times = (left ≡ codes "*" ∷ decimal times ∷ []) ⊎ ((times ≡ 1) × (left ≡ []))

times_read : (i : Instr) (left : List (List ℕ)) (line : Line) → times_at i left ≡ Ok line
    → (line.instr ≡ i) × TimesSaid left line.times × (within 1 MAX_TIMES line.times ≡ true)
times_read i [] line e =
    subst (λ (l : Line). (l.instr ≡ i) × TimesSaid [] l.times × (within 1 MAX_TIMES l.times ≡ true)) (ok_same (line_times i 1) line e) (refl, inr (refl, refl), refl)
times_read i (word ∷ rest) line e =
    elim (chosen (bytes_eq word (codes "*")) (number_within 1 MAX_TIMES rest >>= made_last (line_times i)) (Err why.ExtraWord) (Ok line) e) [
      | inl it ↦ (let n = bind_ok (number_where (within 1 MAX_TIMES) rest) (made_last (line_times i)) line it.1 in
          let made : ((n.0).1 ≡ []) × (line_times i (n.0).0 ≡ line) = last_read (line_times i) n.0 line n.2 in
          let number : (rest ≡ decimal (n.0).0 ∷ (n.0).1) × (within 1 MAX_TIMES (n.0).0 ≡ true) = where_read (within 1 MAX_TIMES) rest n.0 n.1 in
          let whole : word ∷ rest ≡ codes "*" ∷ decimal (n.0).0 ∷ [] =
          put_first word (codes "*") rest (decimal (n.0).0 ∷ []) (same_word word (codes "*") it.0) (number.0 ∙ ap (λ (ws : List (List ℕ)). decimal (n.0).0 ∷ ws) made.0) in
          subst (λ (l : Line). (l.instr ≡ i) × TimesSaid (word ∷ rest) l.times × (within 1 MAX_TIMES l.times ≡ true)) made.1 (refl, inl whole, number.1))
      | inr no_star ↦ (let no : Err why.ExtraWord ≡ Ok line = no_star.1 in cc)
    ]

times_again : (i : Instr) (left : List (List ℕ)) (times : ℕ) → TimesSaid left times → within 1 MAX_TIMES times ≡ true → times_at i left ≡ Ok (line_times i times)
times_again i left times (inl said) fits =
    let small : (1 ≤ times) × (times ≤ MAX_TIMES) = within_fits 1 MAX_TIMES times fits in
    ap (times_at i) said
    ∙ bind_at (number_where (within 1 MAX_TIMES) (decimal times ∷ [])) (made_last (line_times i)) (times, []) (where_again (within 1 MAX_TIMES) times [] (omega arith) fits)
    ∙ ended_again (line_times i times)
times_again i left times (inr said) fits = ap (times_at i) said.1 ∙ ap (λ (n : ℕ). Ok (line_times i n)) (sym said.0)

said_times : (D : ScenarioContents) (i : Instr) (words left : List (List ℕ)) (times : ℕ) → words ≡ instr_words D i ++ left → TimesSaid left times
    → Says (actor_line D (line_times i times)) words
said_times D i words left times e (inl said) = inl (e ∙ ap (λ (ws : List (List ℕ)). instr_words D i ++ ws) said)
said_times D i words left times e (inr said) = inr (said.0, e ∙ ap (λ (ws : List (List ℕ)). instr_words D i ++ ws) said.1 ∙ append-nil (instr_words D i))

-- a line's words say it, and it is good
abbrev pub LineRead : ScenarioContents → List (List ℕ) → Line → Type 0
LineRead D words line = Says (actor_line D line) words × (good_line D line ≡ true) × IsLine line

pub line_read : (D : ScenarioContents) (word : List ℕ) (rest : List (List ℕ)) (line : Line) → FewNames D → line_at D word rest ≡ Ok line → LineRead D (word ∷ rest) line
unfolding line_at
line_read D word rest line few e =
    let there : (f : Instr × List (List ℕ)) × (instr_at D word rest ≡ Ok f) × (then_times f ≡ Ok line) = bind_ok (instr_at D word rest) then_times line e in
    let read : InstrRead D (word ∷ rest) there.0 = instr_read D word rest there.0 few there.1 in
    let i = (there.0).0 in
    let times : (line.instr ≡ i) × TimesSaid (there.0).1 line.times × (within 1 MAX_TIMES line.times ≡ true) = times_read i (there.0).1 line there.2 in
    let few_times : (1 ≤ line.times) × (line.times ≤ MAX_TIMES) = within_fits 1 MAX_TIMES line.times times.2 in
    subst (λ (j : Instr). LineRead D (word ∷ rest) (line_times j line.times)) (sym times.0) (
      said_times D i (word ∷ rest) (there.0).1 line.times read.0 times.1,
      true_and (names_declared D i) (within 1 MAX_TIMES line.times) read.1 times.2,
      record { instr = read.2; times = omega (arith, few_times.1) },
    )

pub line_again : (D : ScenarioContents) (line : Line) (said : List (List ℕ)) → GoodNames [] (work_names D) → GoodNames [] (queue_names D) → good_line D line ≡ true
    → IsLine line → Says (actor_line D line) said
    → (word : List ℕ) × (rest : List (List ℕ)) × (said ≡ word ∷ rest) × (line_at D word rest ≡ Ok line)
unfolding line_at
line_again D line said works queues good is says =
    let tests : (names_declared D line.instr ≡ true) × (within 1 MAX_TIMES line.times ≡ true) =
    and_true (names_declared D line.instr) (within 1 MAX_TIMES line.times) good in
    let left : (ws : List (List ℕ)) × (said ≡ instr_words D line.instr ++ ws) × TimesSaid ws line.times = left_of says in
    let read : InstrReads D line.instr left.0 = instr_again D line.instr left.0 works queues tests.0 is.instr in (
      read.0,
      read.1,
      left.1 ∙ read.2,
      bind_at (instr_at D read.0 read.1) then_times (line.instr, left.0) read.3 ∙ times_again line.instr left.0 line.times left.2 tests.1,
    )
  where
    left_of : Says (actor_line D line) said → (ws : List (List ℕ)) × (said ≡ instr_words D line.instr ++ ws) × TimesSaid ws line.times
    left_of (inl h) = (codes "*" ∷ decimal line.times ∷ [], h, inl refl)
    left_of (inr h) = ([], h.1 ∙ sym (append-nil (instr_words D line.instr)), inr (h.0, refl))
