-- What mends a text's fault: the table of reasons, with a sentence for each.
use Rattle.std.specs.Prelude.{ℕ, Bool, true, false, List, ◌++◌, codes, Option, None, Some}
use Rattle.std.specs.Str.{bytes_eq}
use Rattle.cmwq_types.specs.declared.check.Fault.{Fault}
use Rattle.cmwq_types.specs.declared.check.Fault.TheVariants as faults
use Rattle.cmwq_grammar.specs.declared.next.Next.{Next}
use Rattle.cmwq_grammar.specs.declared.next.Next.TheVariants.{Operation}
use Rattle.cmwq_grammar.specs.declared.why.Why.{Why}
use Rattle.cmwq_grammar.specs.declared.why.Why.TheVariants as whys
use Rattle.cmwq_fitting.specs.KnownWords.{last_body}
use Rattle.cmwq_fitting.specs.declared.numbers.Limits.{Limits}
use Rattle.cmwq_fitting.specs.declared.offer.Offer.{Offer}
pub use Rattle.cmwq_verdict.specs.Cures.{sentence}
use Rattle.cmwq_verdict.specs.Hints.{limits_text}

-- the limits of the number at fault
abbrev pub range_sentence : Option Limits → List ℕ
range_sentence None = sentence (codes "the number is out of its limits")
range_sentence (Some limits) = sentence (codes "the number is out of its limits: it must be " ++ limits_text limits.low limits.high)

-- the flag `ordered`, or else the number behind `max`
abbrev pub flags_sentence : (is_ordered : Bool) → List ℕ
flags_sentence true = sentence (codes "an ordered queue has max 1")
flags_sentence false = sentence (codes "max takes 1 to 512; a kernel's 0, its default, is 256 in Linux 6.1 and 6.12")

-- in an open body, or elsewhere
abbrev pub order_sentence : (body : Option (List ℕ)) → List ℕ
order_sentence (Some work) = sentence (codes "the body of " ++ (work ++ codes " is open: its operations belong here, and finish ends it"))
order_sentence None = sentence (codes "lines come in this order: cpus, workers, steps, flushes, queues, work items, bodies in the order of their work items, actors")

abbrev pub body_sentence : (body : Option (List ℕ)) → List ℕ
body_sentence (Some work) = sentence (codes "the body of " ++ (work ++ codes " lacks the finish that ends it"))
body_sentence None = sentence (codes "a body ends with its one finish")

module _ (word : List ℕ) (limits : Option Limits) (body : Option (List ℕ)) where
  abbrev pub fault_sentence : Fault → List ℕ
  fault_sentence faults.Range = range_sentence limits
  fault_sentence faults.TooMany = sentence (codes "at most 32 queues, 256 work items of 64 operations, 16 actors of 4096 lines")
  fault_sentence faults.Duplicate = sentence (codes "two queues, work items or actors can't have the same name, and a flag is given once")
  fault_sentence faults.Unknown = sentence (codes "no earlier line declares a work item or a queue with this name")
  fault_sentence faults.BadBody = body_sentence body
  fault_sentence faults.BadFlags = flags_sentence (bytes_eq word (codes "ordered"))

  abbrev pub why_sentence : Why → List ℕ
  why_sentence whys.BadUtf8 = sentence (codes "the line has bytes that aren't UTF-8, perhaps in a comment")
  why_sentence whys.BadWord = sentence (codes "this word means nothing here; the words that fit are listed above")
  why_sentence whys.BadName = sentence (codes "a name has 1 to 15 small letters, digits and _, and begins with a letter")
  why_sentence whys.BadNumber = sentence (codes "a number has 1 to 10 digits, no sign, and no 0 before other digits")
  why_sentence whys.MissingWord = sentence (codes "the line or the text ends too early")
  why_sentence whys.ExtraWord = sentence (codes "the line has a word too many; `* N` after an instruction repeats it")
  why_sentence whys.Misplaced = order_sentence body
  why_sentence whys.TooLong = sentence (codes "a text has at most 4194304 bytes")
  why_sentence (whys.Fault fault) = fault_sentence fault

abbrev pub limits_offered : Option Offer → Option Limits
limits_offered None = None
limits_offered (Some offer) = offer.limits

-- the work whose body is open behind these lines
abbrev pub open_body_after : (lines : List ℕ) → Option Next → Option (List ℕ)
open_body_after lines (Some (Operation room)) = last_body lines
open_body_after lines next = None
