-- The scenario with one actor who gives certain instructions.
use Rattle.std.proofs.Common.{◌≡◌, ℕ, ◌+◌, ◌≤◌, Bool, true, false, ◌&&◌, List, [], ◌∷◌, ◌++◌, map, length, leb, ltb, Option, Some, None, arith, refl, ap, ◌∙◌}
use Rattle.std.proofs.lemmas.Bool.Decides.{nat_tests}
use Rattle.std.proofs.lemmas.List.{length-map}
use Rattle.std.proofs.lemmas.List.Elements.{recursion_from_All}
use Rattle.std.specs.List.{All, AllByRecursion, list_any}
use Rattle.std.specs.Prelude.{IsTrue}
use Rattle.std.specs.Str.{bytes_eq}
use Rattle.cmwq_types.specs.Contents.{ScenarioContents, WorkContents}
use Rattle.cmwq_types.specs.Faults.{IsValid, actor_fault, counts_fault, fault_if, fault_unless, first_along, is_body, is_declared, line_fault, names_declared, numbers_fault, op_fault, or_else, queue_fault, work_fault}
use Rattle.cmwq_types.specs.Fields.{fields_of, shape_of, word_of}
use Rattle.cmwq_types.specs.Scenario.{expand_lines}
use Rattle.cmwq_types.specs.declared.check.Fault.{Fault}
use Rattle.cmwq_types.specs.declared.check.Fault.TheVariants as fault
use Rattle.cmwq_types.specs.declared.fields.Shape.{Shape}
use Rattle.cmwq_types.specs.declared.fields.Shape.TheVariants as shape
use Rattle.cmwq_types.specs.declared.instr.Instr.{Instr}
use Rattle.cmwq_types.specs.declared.limits.TheConstants.{MAX_ACTORS, MAX_LINES, MAX_OPS, MAX_QUEUES, MAX_WORKS}
use Rattle.cmwq_types.specs.declared.scenario.Line.{Line}
use Rattle.cmwq_types.specs.declared.scenario.Op.{Op}
use Rattle.cmwq_types.specs.declared.scenario.Op.TheVariants as op
use Rattle.cmwq_annotated.specs.Acted.{acted, actor_of, once}

-- the actor gives just these instructions
pub expand_once : (instrs : List Instr) → expand_lines (map once instrs) ≡ instrs
expand_once [] = refl
expand_once (i ∷ instrs) = ap (λ (is : List Instr). i ∷ is) (expand_once instrs)

-- Faults.

pub no_first : (a b : Option Fault) → or_else a b ≡ None → (a ≡ None) × (b ≡ None)
no_first (Some f) b e = cc
no_first None b e = (refl, e)

none_first : (a b : Option Fault) → a ≡ None → b ≡ None → or_else a b ≡ None
none_first a b p q = ap (λ (x : Option Fault). or_else x b) p ∙ q

pub no_unless : (t : Bool) (f : Fault) → fault_unless t f ≡ None → t ≡ true
no_unless true f e = refl
no_unless false f e = cc

unless_none : (t : Bool) (f : Fault) → t ≡ true → fault_unless t f ≡ None
unless_none t f e = ap (λ (b : Bool). fault_unless b f) e

both_of : (a b : Bool) → (a && b) ≡ true → (a ≡ true) × (b ≡ true)
both_of true b e = (refl, e)
both_of false b e = cc

same_along : {A : Type 0} (judge again : List A → A → Option Fault) → ((before : List A) (x : A) → judge before x ≡ again before x) → (before xs : List A)
    → first_along judge before xs ≡ first_along again before xs
same_along judge again same before [] = refl
same_along judge again same before (x ∷ xs) =
    ap (λ (first : Option Fault). or_else first (first_along judge (before ++ x ∷ []) xs)) (same before x)
    ∙ ap (λ (rest : Option Fault). or_else (again before x) rest) (same_along judge again same (before ++ x ∷ []) xs)

-- With other actors the works are judged alike.

module _ (S : ScenarioContents) (name : List ℕ) (instrs : List Instr) where
  same_op : (o : Op) → op_fault (acted S name instrs) o ≡ op_fault S o
  same_op (op.Queue work cpu) = refl
  same_op _ = refl

  same_work : (before : List WorkContents) (work : WorkContents) → work_fault (acted S name instrs) before work ≡ work_fault S before work
  same_work before work =
      ap (λ (ops : Option Fault). or_else (fault_if (list_any (λ other. bytes_eq other.name work.name) before) fault.Duplicate)
      (or_else (fault_unless (ltb work.queue.0 (length S.queues)) fault.Unknown)
      (or_else (fault_unless (leb (length work.body) MAX_OPS) fault.TooMany) (or_else (fault_unless (is_body work.body) fault.BadBody) ops))))
      (same_along (λ before o. op_fault (acted S name instrs) o) (λ before o. op_fault S o) (λ before o. same_op o) [] work.body)

  same_declared : (s : Shape) (id : ℕ) → is_declared (acted S name instrs) s id ≡ is_declared S s id
  same_declared shape.Work id = refl
  same_declared _ id = refl

  declared_line : (i : Instr) → names_declared S i ≡ true → line_fault (acted S name instrs) (once i) ≡ None
  declared_line i declared = none_first (fault_unless (names_declared (acted S name instrs) i) fault.Unknown) None (unless_none (names_declared (acted S name instrs) i) fault.Unknown (same_names i ∙ declared)) refl
    where
      same_names : (j : Instr) → names_declared (acted S name instrs) j ≡ names_declared S j
      same_names j = same_declared (shape_of (word_of j)) (fields_of j).id

  declared_lines : (before : List Line) (is : List Instr) → AllByRecursion (λ i. names_declared S i ≡ true) is
      → first_along (λ before line. line_fault (acted S name instrs) line) before (map once is) ≡ None
  declared_lines before [] all = refl
  declared_lines before (i ∷ is) all =
      none_first (line_fault (acted S name instrs) (once i)) (first_along (λ before line. line_fault (acted S name instrs) line) (before ++ once i ∷ []) (map once is))
      (declared_line i all.0) (declared_lines (before ++ once i ∷ []) is all.1)

  pub acted_valid : IsValid S → All (λ i. IsTrue (names_declared S i)) instrs → length instrs ≤ MAX_LINES → IsValid (acted S name instrs)
  acted_valid valid declared few =
      let T = acted S name instrs in
      let a = no_first (numbers_fault S) (or_else (counts_fault S) (or_else (first_along queue_fault [] S.queues) (or_else (first_along (work_fault S) [] S.works) (first_along (actor_fault S) [] S.actors)))) valid in
      let b = no_first (counts_fault S) (or_else (first_along queue_fault [] S.queues) (or_else (first_along (work_fault S) [] S.works) (first_along (actor_fault S) [] S.actors))) a.1 in
      let c = no_first (first_along queue_fault [] S.queues) (or_else (first_along (work_fault S) [] S.works) (first_along (actor_fault S) [] S.actors)) b.1 in
      let d = no_first (first_along (work_fault S) [] S.works) (first_along (actor_fault S) [] S.actors) c.1 in
      let counts = no_unless (leb (length S.queues) MAX_QUEUES && leb (length S.works) MAX_WORKS && leb (length S.actors) MAX_ACTORS) fault.TooMany b.0 in
      let declared_few = both_of (leb (length S.queues) MAX_QUEUES && leb (length S.works) MAX_WORKS) (leb (length S.actors) MAX_ACTORS) counts in
      let long : length (map once instrs) ≡ length instrs = length-map instrs once in
      let lines : leb (length (map once instrs)) MAX_LINES ≡ true = grind (arith, nat_tests) in
      none_first (numbers_fault S) (or_else (counts_fault T) (or_else (first_along queue_fault [] S.queues) (or_else (first_along (work_fault T) [] S.works) (first_along (actor_fault T) [] T.actors)))) a.0
      (none_first (counts_fault T) (or_else (first_along queue_fault [] S.queues) (or_else (first_along (work_fault T) [] S.works) (first_along (actor_fault T) [] T.actors)))
      (unless_none ((leb (length S.queues) MAX_QUEUES && leb (length S.works) MAX_WORKS) && true) fault.TooMany (and_true_of (leb (length S.queues) MAX_QUEUES && leb (length S.works) MAX_WORKS) declared_few.0))
      (none_first (first_along queue_fault [] S.queues) (or_else (first_along (work_fault T) [] S.works) (first_along (actor_fault T) [] T.actors)) c.0
      (none_first (first_along (work_fault T) [] S.works) (first_along (actor_fault T) [] T.actors)
      (same_along (work_fault T) (work_fault S) same_work [] S.works ∙ d.0)
      (none_first (actor_fault T [] (actor_of name instrs)) None
      (none_first (fault_unless (leb (length (map once instrs)) MAX_LINES) fault.TooMany) (first_along (λ before line. line_fault T line) [] (map once instrs))
      (unless_none (leb (length (map once instrs)) MAX_LINES) fault.TooMany lines)
      (declared_lines [] instrs (recursion_from_All (λ i. names_declared S i ≡ true) instrs declared))) refl))))
    where
      and_true_of : (b : Bool) → b ≡ true → (b && true) ≡ true
      and_true_of true e = refl
      and_true_of false e = e
