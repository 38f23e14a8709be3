-- Declarations and operations: what is read is said so, and what is said so is read.
use Rattle.std.proofs.Common.{◌≡◌, ℕ, ◌<◌, ◌≤◌, ◌^◌, Bool, true, false, ◌&&◌, List, [], ◌∷◌, length, get_or, ltb, Option, Some, None, Result, Ok, Err, arith, refl, sym, ap, ◌∙◌, inl, inr, subst, codes}
use Rattle.std.specs.Fmt.{decimal}
use Rattle.std.specs.Str.{bytes_eq}
use Rattle.cmwq_types.specs.Contents.{ScenarioContents, WorkContents}
use Rattle.cmwq_types.proofs.FieldLemmas.{op_fields_again, op_word_again}
use Rattle.cmwq_types.proofs.FieldLemmas as parts
use Rattle.cmwq_types.specs.Faults.{is_finish, within}
use Rattle.cmwq_types.specs.Fields.{fields, used}
use Rattle.cmwq_types.specs.Listing.{op_line, operand_words, queue_line, work_line}
use Rattle.cmwq_types.specs.Name.{is_name}
use Rattle.cmwq_types.specs.Operations.{first_op_word, op_fields_of, op_shape_of, op_spelling, op_with, op_word_of, op_word_read, op_words}
use Rattle.cmwq_types.specs.Scenario.{plain_flags, queue_at, work_at}
use Rattle.cmwq_types.specs.declared.fields.Fields.{Fields}
use Rattle.cmwq_types.specs.declared.fields.Shape.{Shape}
use Rattle.cmwq_types.specs.declared.fields.Shape.TheVariants as shape
use Rattle.cmwq_types.specs.declared.limits.TheConstants.{MAX_TICKS}
use Rattle.cmwq_types.specs.declared.operation.OpWord.{OpWord}
use Rattle.cmwq_types.specs.declared.operation.OpWord.TheVariants as words
use Rattle.cmwq_types.specs.declared.scenario.Flags.{Flags}
use Rattle.cmwq_types.specs.declared.scenario.Op.{Op}
use Rattle.cmwq_types.specs.declared.scenario.Op.TheVariants as op
use Rattle.cmwq_types.specs.declared.scenario.QueueDecl.{QueueDecl}
use Rattle.cmwq_grammar.specs.LineFields.{◌>>=◌, after_word, declared_at, made_last, new_name_at, number_at, number_where}
use Rattle.cmwq_grammar.specs.Grammar.{Says}
use Rattle.cmwq_grammar.specs.Instructions.{cannot_stand, queue_names, work_names}
use Rattle.cmwq_grammar.specs.LineReasons.{flags_at_line, made_op, not_in_body, op_at_line, op_named, op_operands_at, queue_at_line, queue_of_flags, then_cpu, then_flags, then_max, then_number, then_queue, then_ticks, work_at_line, new_work}
use Rattle.cmwq_grammar.specs.declared.why.Why.{Why}
use Rattle.cmwq_grammar.proofs.Basics.{fine, ok_same, bind_ok, bind_at, and_true, true_and, chosen, same_word, below}
use Rattle.cmwq_grammar.proofs.FieldLemmas.{IsNew, declared_read, ended_read, ended_again, given_read, given_again, last_read, new_name_read, new_name_again, number_read, number_again, where_read, where_again, within_fits}
use Rattle.cmwq_grammar.proofs.FlagLemmas.{flags_read, flags_again}
use Rattle.cmwq_grammar.proofs.NameLists.{GoodNames, name_of_queue, name_of_work, queue_below, queue_declared, work_below, work_declared}

-- `queue NAME max N FLAG..`

pub queue_read : (D : ScenarioContents) (rest : List (List ℕ)) (queue : QueueDecl) → queue_at_line D rest ≡ Ok queue
    → Says (queue_line queue) (codes "queue" ∷ rest) × IsNew (queue_names D) queue.name × (is_name queue.name ≡ true)
unfolding queue_at_line
queue_read D rest queue e =
    let name : (n : List ℕ × List (List ℕ)) × (new_name_at (queue_names D) rest ≡ Ok n) × (then_max n ≡ Ok queue) =
    bind_ok (new_name_at (queue_names D) rest) then_max queue e in
    let word : (after : List (List ℕ)) × (after_word (codes "max") (name.0).1 ≡ Ok after) × (then_number (name.0).0 after ≡ Ok queue) =
    bind_ok (after_word (codes "max") (name.0).1) (then_number (name.0).0) queue name.2 in
    let max : (n : ℕ × List (List ℕ)) × (number_at word.0 ≡ Ok n) × (then_flags (name.0).0 n ≡ Ok queue) =
    bind_ok (number_at word.0) (then_flags (name.0).0) queue word.2 in
    let flags : (f : Flags) × (flags_at_line (max.0).1 plain_flags ≡ Ok f) × (queue_of_flags (name.0).0 (max.0).0 f ≡ Ok queue) =
    bind_ok (flags_at_line (max.0).1 plain_flags) (queue_of_flags (name.0).0 (max.0).0) queue max.2 in
    let built : QueueDecl = record { name = (name.0).0; max = (max.0).0; flags = flags.0 } in
    let same : built ≡ queue = ok_same built queue flags.2 in
    let named : (rest ≡ (name.0).0 ∷ (name.0).1) × (is_name (name.0).0 ≡ true) × IsNew (queue_names D) (name.0).0 = new_name_read (queue_names D) rest name.0 name.1 in
    let given : (name.0).1 ≡ codes "max" ∷ word.0 = given_read (codes "max") (name.0).1 word.0 word.1 in
    let number : (word.0 ≡ decimal (max.0).0 ∷ (max.0).1) × ((max.0).0 < 10 ^ 10) = number_read word.0 max.0 max.1 in
    let whole : codes "queue" ∷ rest ≡ codes "queue" ∷ (name.0).0 ∷ codes "max" ∷ decimal (max.0).0 ∷ (max.0).1 =
    ap (λ (ws : List (List ℕ)). codes "queue" ∷ ws) (named.0 ∙ ap (λ (ws : List (List ℕ)). (name.0).0 ∷ ws) (given ∙ ap (λ (ws : List (List ℕ)). codes "max" ∷ ws) number.0)) in
    subst (λ (q : QueueDecl). Says (queue_line q) (codes "queue" ∷ rest) × IsNew (queue_names D) q.name × (is_name q.name ≡ true)) same
    (((max.0).1, flags_read (max.0).1 flags.0 flags.1, whole), named.2, named.1)

pub queue_again : (D : ScenarioContents) (queue : QueueDecl) (said : List (List ℕ)) → Says (queue_line queue) said → IsNew (queue_names D) queue.name
    → is_name queue.name ≡ true → queue.max < 10 ^ 10 → (rest : List (List ℕ)) × (said ≡ codes "queue" ∷ rest) × (queue_at_line D rest ≡ Ok queue)
unfolding queue_at_line
queue_again D queue said says new is small =
    let flags = says.0 in
    let rest : List (List ℕ) = queue.name ∷ codes "max" ∷ decimal queue.max ∷ flags in (
      rest,
      says.2,
      bind_at (new_name_at (queue_names D) rest) then_max (queue.name, codes "max" ∷ decimal queue.max ∷ flags) (new_name_again (queue_names D) queue.name (codes "max" ∷ decimal queue.max ∷ flags) is new)
          ∙ bind_at (after_word (codes "max") (codes "max" ∷ decimal queue.max ∷ flags)) (then_number queue.name) (decimal queue.max ∷ flags) (given_again (codes "max") (decimal queue.max ∷ flags))
          ∙ bind_at (number_at (decimal queue.max ∷ flags)) (then_flags queue.name) (queue.max, flags) (number_again queue.max flags small)
          ∙ bind_at (flags_at_line flags plain_flags) (queue_of_flags queue.name queue.max) queue.flags (flags_again queue.flags flags says.1),
    )

-- `work NAME QUEUE`

pub work_read : (D : ScenarioContents) (rest : List (List ℕ)) (work : WorkContents) → work_at_line D rest ≡ Ok work
    → Says (work_line D work) (codes "work" ∷ rest) × IsNew (work_names D) work.name × (is_name work.name ≡ true) × (ltb work.queue.0 (length D.queues) ≡ true) × (work.body ≡ [])
unfolding work_at_line
work_read D rest work e =
    let name : (n : List ℕ × List (List ℕ)) × (new_name_at (work_names D) rest ≡ Ok n) × (then_queue D n ≡ Ok work) =
    bind_ok (new_name_at (work_names D) rest) (then_queue D) work e in
    let queue : (q : ℕ × List (List ℕ)) × (declared_at (queue_names D) (name.0).1 ≡ Ok q) × (made_last (new_work (name.0).0) q ≡ Ok work) =
    bind_ok (declared_at (queue_names D) (name.0).1) (made_last (new_work (name.0).0)) work name.2 in
    let made : ((queue.0).1 ≡ []) × (new_work (name.0).0 (queue.0).0 ≡ work) = last_read (new_work (name.0).0) queue.0 work queue.2 in
    let named : (rest ≡ (name.0).0 ∷ (name.0).1) × (is_name (name.0).0 ≡ true) × IsNew (work_names D) (name.0).0 = new_name_read (work_names D) rest name.0 name.1 in
    let there : ((name.0).1 ≡ get_or (queue_names D) (queue.0).0 [] ∷ (queue.0).1) × ((queue.0).0 < length (queue_names D)) =
    declared_read (queue_names D) (name.0).1 queue.0 queue.1 in
    let last : (name.0).1 ≡ (queue_at D (queue.0).0).name ∷ [] =
    there.0 ∙ ap (λ (n : List ℕ). n ∷ (queue.0).1) (name_of_queue D (queue.0).0) ∙ ap (λ (ws : List (List ℕ)). (queue_at D (queue.0).0).name ∷ ws) made.0 in
    let whole : codes "work" ∷ rest ≡ codes "work" ∷ (name.0).0 ∷ (queue_at D (queue.0).0).name ∷ [] =
    ap (λ (ws : List (List ℕ)). codes "work" ∷ ws) (named.0 ∙ ap (λ (ws : List (List ℕ)). (name.0).0 ∷ ws) last) in
    subst (λ (w : WorkContents). Says (work_line D w) (codes "work" ∷ rest) × IsNew (work_names D) w.name × (is_name w.name ≡ true) × (ltb w.queue.0 (length D.queues) ≡ true) × (w.body ≡ [])) made.1
    (whole, named.2, named.1, queue_below D (queue.0).0 there.1, refl)

pub work_again : (D : ScenarioContents) (work : WorkContents) (said : List (List ℕ)) → Says (work_line D work) said → GoodNames [] (queue_names D)
    → IsNew (work_names D) work.name → is_name work.name ≡ true → ltb work.queue.0 (length D.queues) ≡ true
    → (rest : List (List ℕ)) × (said ≡ codes "work" ∷ rest) × (work_at_line D rest ≡ Ok (new_work work.name work.queue.0))
unfolding work_at_line
work_again D work said says good new is below =
    let queue = (queue_at D work.queue.0).name in (
      work.name ∷ queue ∷ [],
      says,
      bind_at (new_name_at (work_names D) (work.name ∷ queue ∷ [])) (then_queue D) (work.name, queue ∷ []) (new_name_again (work_names D) work.name (queue ∷ []) is new)
          ∙ bind_at (declared_at (queue_names D) (queue ∷ [])) (made_last (new_work work.name)) (work.queue.0, []) (queue_declared D work.queue.0 [] good below)
          ∙ ended_again (new_work work.name work.queue.0),
    )

-- Operations.

-- the operands of an operation fit
abbrev pub good_fields : ℕ → ℕ → Shape → Fields → Bool
good_fields cpus works shape.Alone f = true
good_fields cpus works shape.Ticks f = within 1 MAX_TICKS f.number
good_fields cpus works shape.Work f = ltb f.id works
good_fields cpus works shape.WorkCpu f = ltb f.id works && ltb f.cpu cpus
good_fields cpus works shape.WorkTicks f = ltb f.id works && within 0 MAX_TICKS f.number
good_fields cpus works other f = false

abbrev pub good_op : ℕ → ℕ → Op → Bool
good_op cpus works o = good_fields cpus works (op_shape_of (op_word_of o)) (op_fields_of o)

-- an operation has this shape
abbrev pub has_op : Shape → Bool
has_op shape.Alone = true
has_op shape.Ticks = true
has_op shape.Work = true
has_op shape.WorkCpu = true
has_op shape.WorkTicks = true
has_op other = false

pub has_op_of : (m : OpWord) → has_op (op_shape_of m) ≡ true
has_op_of words.Burn = refl
has_op_of _ = refl

pub finish_is : (o : Op) → is_finish o ≡ true → o ≡ op.Finish
finish_is op.Finish e = refl
finish_is _ e = cc

-- a number that is the last word
last_number : (test : ℕ → Bool) (make : ℕ → Fields) (rest : List (List ℕ)) (f : Fields) → (number_where test rest >>= made_last make) ≡ Ok f
    → (n : ℕ) × (make n ≡ f) × (rest ≡ decimal n ∷ []) × (test n ≡ true)
last_number test make rest f e =
    let number = bind_ok (number_where test rest) (made_last make) f e in
    let made : ((number.0).1 ≡ []) × (make (number.0).0 ≡ f) = last_read make number.0 f number.2 in
    let there : (rest ≡ decimal (number.0).0 ∷ (number.0).1) × (test (number.0).0 ≡ true) = where_read test rest number.0 number.1 in
    ((number.0).0, made.1, there.0 ∙ ap (λ (ws : List (List ℕ)). decimal (number.0).0 ∷ ws) made.0, there.1)

-- a work that is the next word
next_work : (D : ScenarioContents) (next : ℕ × List (List ℕ) → Result Fields Why) (rest : List (List ℕ)) (f : Fields) → (declared_at (work_names D) rest >>= next) ≡ Ok f
    → (work : ℕ) × (after : List (List ℕ)) × (rest ≡ (work_at D work).name ∷ after) × (ltb work (length D.works) ≡ true) × (next (work, after) ≡ Ok f)
next_work D next rest f e =
    let work = bind_ok (declared_at (work_names D) rest) next f e in
    let there : (rest ≡ get_or (work_names D) (work.0).0 [] ∷ (work.0).1) × ((work.0).0 < length (work_names D)) = declared_read (work_names D) rest work.0 work.1 in
    ((work.0).0, (work.0).1, there.0 ∙ ap (λ (n : List ℕ). n ∷ (work.0).1) (name_of_work D (work.0).0), work_below D (work.0).0 there.1, work.2)

-- operands that were read: the words are theirs, they fit, and there are no others
abbrev FieldsRead : ScenarioContents → Shape → List (List ℕ) → Fields → Type 0
FieldsRead D s rest f = (rest ≡ operand_words D s f) × (good_fields D.cpus (length D.works) s f ≡ true) × (used s f ≡ f)

fields_read : (D : ScenarioContents) (s : Shape) (rest : List (List ℕ)) (f : Fields) → op_operands_at D s rest ≡ Ok f → FieldsRead D s rest f
fields_read D shape.Alone rest f e =
    let done : (rest ≡ []) × (fields 0 0 0 ≡ f) = ended_read (fields 0 0 0) rest f e in
    subst (FieldsRead D shape.Alone rest) done.1 (done.0, refl, refl)
fields_read D shape.Ticks rest f e =
    let ticks = last_number (within 1 MAX_TICKS) (fields 0 0) rest f e in
    subst (FieldsRead D shape.Ticks rest) ticks.1 (ticks.2, ticks.3, refl)
fields_read D shape.Work rest f e =
    let make = λ (work : ℕ). fields 0 work 0 in
    let work = next_work D (made_last make) rest f e in
    let made : (work.1 ≡ []) × (make work.0 ≡ f) = last_read make (work.0, work.1) f work.4 in
    subst (FieldsRead D shape.Work rest) made.1 (work.2 ∙ ap (λ (ws : List (List ℕ)). (work_at D work.0).name ∷ ws) made.0, work.3, refl)
fields_read D shape.WorkCpu rest f e =
    let work = next_work D (then_cpu D) rest f e in
    let below = λ (n : ℕ). ltb n D.cpus in
    let cpu = last_number below (λ (cpu : ℕ). fields cpu work.0 0) work.1 f work.4 in
    subst (FieldsRead D shape.WorkCpu rest) cpu.1
    (work.2 ∙ ap (λ (ws : List (List ℕ)). (work_at D work.0).name ∷ ws) cpu.2, true_and (ltb work.0 (length D.works)) (below cpu.0) work.3 cpu.3, refl)
fields_read D shape.WorkTicks rest f e =
    let work = next_work D then_ticks rest f e in
    let test = within 0 MAX_TICKS in
    let ticks = last_number test (fields 0 work.0) work.1 f work.4 in
    subst (FieldsRead D shape.WorkTicks rest) ticks.1
    (work.2 ∙ ap (λ (ws : List (List ℕ)). (work_at D work.0).name ∷ ws) ticks.2, true_and (ltb work.0 (length D.works)) (test ticks.0) work.3 ticks.3, refl)
fields_read D _ rest f e = cc

op_spelled : (ms : List OpWord) (word : List ℕ) (m : OpWord) → first_op_word ms word ≡ Some m → word ≡ op_spelling m
op_spelled [] word m e = cc
op_spelled (x ∷ more) word m e =
    elim (chosen (bytes_eq word (op_spelling x)) (Some x) (first_op_word more word) (Some m) e) [
      | inl it ↦ (let same : x ≡ m = some_same x m it.1 in same_word word (op_spelling x) it.0 ∙ ap op_spelling same)
      | inr other ↦ op_spelled more word m other.1
    ]
  where
    some_same : (x y : OpWord) → Some x ≡ Some y → x ≡ y
    some_same x y h = cc

pub not_standing : {A B : Type 0} (reason : Why) (word : List ℕ) (y : A) → cannot_stand reason word ≡ Ok y → B
unfolding cannot_stand
not_standing reason word y e =
    elim (chosen _ (Err reason) (Err _) (Ok y) e) [ inl it ↦ (let no : Err reason ≡ Ok y = it.1 in cc) | inr it ↦ (let no = it.1 in cc) ]

-- an operation that was read
abbrev pub OpRead : ScenarioContents → List ℕ → List (List ℕ) → Op → Type 0
OpRead D word rest next = Says (op_line D next) (word ∷ rest) × (good_op D.cpus (length D.works) next ≡ true)

pub op_read : (D : ScenarioContents) (word : List ℕ) (rest : List (List ℕ)) (next : Op) → op_at_line D word rest ≡ Ok next → OpRead D word rest next
unfolding op_at_line
op_read D word rest next e = by_word (op_word_read word) refl e
  where
    -- what these words and operands say of an operation of a word and operands
    SaidSo : OpWord → Fields → Type 0
    SaidSo m f = (word ∷ rest ≡ op_spelling m ∷ operand_words D (op_shape_of m) f) × (good_fields D.cpus (length D.works) (op_shape_of m) f ≡ true)

    by_word : (named : Option OpWord) → op_word_read word ≡ named → op_named D word named rest ≡ Ok next → OpRead D word rest next
    by_word (Some m) is h =
        let operands = bind_ok (op_operands_at D (op_shape_of m) rest) (made_op m) next h in
        let f : Fields = operands.0 in
        let read : FieldsRead D (op_shape_of m) rest f = fields_read D (op_shape_of m) rest f operands.1 in
        let whole : word ∷ rest ≡ op_spelling m ∷ operand_words D (op_shape_of m) f =
        ap (λ (w : List ℕ). w ∷ rest) (op_spelled op_words word m is) ∙ ap (λ (ws : List (List ℕ)). op_spelling m ∷ ws) read.0 in
        let same : op_fields_of (op_with m f) ≡ f = op_fields_again m f ∙ read.2 in
        let said : SaidSo (op_word_of (op_with m f)) (op_fields_of (op_with m f)) =
        subst (λ (g : Fields). SaidSo (op_word_of (op_with m f)) g) (sym same) (subst (λ (w : OpWord). SaidSo w f) (sym (op_word_again m f)) (whole, read.1)) in
        subst (λ (o : Op). OpRead D word rest o) (ok_same (op_with m f) next operands.2) said
    by_word None is h = not_standing (not_in_body word) word next h

last_number_again : (test : ℕ → Bool) (make : ℕ → Fields) (n : ℕ) → n < 10 ^ 10 → test n ≡ true → (number_where test (decimal n ∷ []) >>= made_last make) ≡ Ok (make n)
last_number_again test make n small passes =
    bind_at (number_where test (decimal n ∷ [])) (made_last make) (n, []) (where_again test n [] small passes) ∙ ended_again (make n)

work_next : (D : ScenarioContents) (next : ℕ × List (List ℕ) → Result Fields Why) (work : ℕ) (rest : List (List ℕ)) → GoodNames [] (work_names D) → ltb work (length D.works) ≡ true
    → (declared_at (work_names D) ((work_at D work).name ∷ rest) >>= next) ≡ next (work, rest)
work_next D next work rest names declared = bind_at (declared_at (work_names D) ((work_at D work).name ∷ rest)) next (work, rest) (work_declared D work rest names declared)

-- operands that fit are read again
fields_read_again : (D : ScenarioContents) (s : Shape) (f : Fields) → GoodNames [] (work_names D) → D.cpus ≤ 16 → good_fields D.cpus (length D.works) s f ≡ true
    → op_operands_at D s (operand_words D s f) ≡ Ok (used s f)
fields_read_again D shape.Alone f names few good = ended_again (fields 0 0 0)
fields_read_again D shape.Ticks f names few good =
    let fits : (1 ≤ f.number) × (f.number ≤ MAX_TICKS) = within_fits 1 MAX_TICKS f.number good in
    last_number_again (within 1 MAX_TICKS) (fields 0 0) f.number (omega (arith, fits.1)) good
fields_read_again D shape.Work f names few good =
    work_next D (made_last (λ work. fields 0 work 0)) f.id [] names good ∙ ended_again (fields 0 f.id 0)
fields_read_again D shape.WorkCpu f names few good =
    let tests : (ltb f.id (length D.works) ≡ true) × (ltb f.cpu D.cpus ≡ true) = and_true (ltb f.id (length D.works)) (ltb f.cpu D.cpus) good in
    let there : f.cpu < D.cpus = below f.cpu D.cpus tests.1 in
    work_next D (then_cpu D) f.id (decimal f.cpu ∷ []) names tests.0
    ∙ last_number_again (λ n. ltb n D.cpus) (λ cpu. fields cpu f.id 0) f.cpu (omega arith) tests.1
fields_read_again D shape.WorkTicks f names few good =
    let test = within 0 MAX_TICKS in
    let tests : (ltb f.id (length D.works) ≡ true) × (test f.number ≡ true) = and_true (ltb f.id (length D.works)) (test f.number) good in
    let fits : (0 ≤ f.number) × (f.number ≤ MAX_TICKS) = within_fits 0 MAX_TICKS f.number tests.1 in
    work_next D then_ticks f.id (decimal f.number ∷ []) names tests.0 ∙ last_number_again test (fields 0 f.id) f.number (omega (arith, fits.1)) tests.1
fields_read_again D _ f names few good = cc

op_word_found : (m : OpWord) → op_word_read (op_spelling m) ≡ Some m
op_word_found words.Burn = refl
op_word_found _ = refl

with_used : (m : OpWord) (f : Fields) → op_with m (used (op_shape_of m) f) ≡ op_with m f
with_used words.Burn f = refl
with_used _ f = refl

-- a word and operands that fit are read as their operation
pub op_of_words : (D : ScenarioContents) (m : OpWord) (f : Fields) → GoodNames [] (work_names D) → D.cpus ≤ 16 → good_fields D.cpus (length D.works) (op_shape_of m) f ≡ true
    → op_at_line D (op_spelling m) (operand_words D (op_shape_of m) f) ≡ Ok (op_with m f)
unfolding op_at_line
op_of_words D m f names few good =
    let rest : List (List ℕ) = operand_words D (op_shape_of m) f in
    ap (λ (named : Option OpWord). op_named D (op_spelling m) named rest) (op_word_found m)
    ∙ bind_at (op_operands_at D (op_shape_of m) rest) (made_op m) (used (op_shape_of m) f) (fields_read_again D (op_shape_of m) f names few good)
    ∙ ap (λ (o : Op). fine o) (with_used m f)

-- the words of an operation are read as it
abbrev pub OpReads : ScenarioContents → List (List ℕ) → Op → Type 0
OpReads D said next = (word : List ℕ) × (rest : List (List ℕ)) × (said ≡ word ∷ rest) × (op_at_line D word rest ≡ Ok next)

pub op_again : (D : ScenarioContents) (next : Op) (said : List (List ℕ)) → GoodNames [] (work_names D) → D.cpus ≤ 16 → good_op D.cpus (length D.works) next ≡ true
    → Says (op_line D next) said → OpReads D said next
op_again D next said names few good says = (
  op_spelling (op_word_of next),
  operand_words D (op_shape_of (op_word_of next)) (op_fields_of next),
  says,
  op_of_words D (op_word_of next) (op_fields_of next) names few good ∙ ap (λ (o : Op). fine o) (parts.op_again next),
)
