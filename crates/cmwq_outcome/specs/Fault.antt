-- How the program tells a fault.
use Rattle.std.specs.Prelude.{ℕ, List, ◌∷◌, [], ◌++◌, codes}
use Rattle.std.specs.Fmt.{decimal}
use Rattle.cmwq_verdict.specs.Names.{fault_name, why_name}
use Rattle.cmwq_asm.specs.declared.fault.AsmError.TheVariants as texts
use Rattle.cmwq_image.specs.declared.error.ImageError.TheVariants as images
use Rattle.cmwq_streams.specs.declared.error.PlayError.{PlayError}
use Rattle.cmwq_streams.specs.declared.error.PlayError.TheVariants as errors

-- the exit status: 1 for the input, 2 where the command line has to say more, 3 for reading and writing, 4 for what ran out (0 is good)
abbrev pub status_of : PlayError → ℕ
status_of (errors.Asm (texts.At line why)) = 1
status_of (errors.Asm texts.NoMemory) = 4
status_of (errors.Image images.NoMemory) = 4
status_of (errors.Image fault) = 1
status_of errors.Actors = 1
status_of errors.TooLong = 1
status_of errors.NeverQuiet = 1
status_of errors.NoSuchWork = 1
status_of errors.NoSuchFlush = 1
status_of errors.PastEnd = 1
status_of errors.TooWide = 2
status_of errors.Read = 3
status_of errors.Write = 3
status_of errors.Full = 4
status_of errors.Tickets = 4
status_of errors.NoMemory = 4

-- the line on standard error, which `told` ends
abbrev pub fault_written : List ℕ → List ℕ
fault_written text = text ++ 10 ∷ []

abbrev pub line_of : PlayError → List ℕ
line_of (errors.Asm (texts.At line why)) = fault_written (codes "line " ++ decimal line ++ codes ": " ++ why_name why)
line_of (errors.Asm texts.NoMemory) = fault_written (codes "no memory")
line_of (errors.Image images.Magic) = fault_written (codes "image: Magic")
line_of (errors.Image images.Version) = fault_written (codes "image: Version")
line_of (errors.Image images.Truncated) = fault_written (codes "image: Truncated")
line_of (errors.Image images.Extra) = fault_written (codes "image: Extra")
line_of (errors.Image (images.BadField offset)) = fault_written (codes "image: BadField " ++ decimal offset)
line_of (errors.Image (images.Fault fault)) = fault_written (codes "image: " ++ fault_name fault)
line_of (errors.Image images.NoMemory) = fault_written (codes "no memory")
line_of errors.Actors = fault_written (codes "actors")
line_of errors.Full = fault_written (codes "full")
line_of errors.Tickets = fault_written (codes "tickets")
line_of errors.TooLong = fault_written (codes "too long")
line_of errors.NeverQuiet = fault_written (codes "never quiet")
line_of errors.TooWide = fault_written (codes "more than 500 columns: give --from and --to")
line_of errors.NoSuchWork = fault_written (codes "no such work")
line_of errors.NoSuchFlush = fault_written (codes "no such flush")
line_of errors.PastEnd = fault_written (codes "past the end")
line_of errors.Read = fault_written (codes "read")
line_of errors.Write = fault_written (codes "write")
line_of errors.NoMemory = fault_written (codes "no memory")
