-- What is known of a file that is opened.
use Rattle.std.specs.Prelude.{ℕ, Bool, false, List, Option, None, Some, codes, if◌then◌else◌}
use Rattle.std.specs.List.{list_any}
pub use Rattle.cmwq_request.specs.Request.{is_input}
use Rattle.cmwq_request.specs.declared.request.Request.{Request}
use Rattle.cmwq_request.specs.declared.request.Request.TheVariants.{Do, Strict, Sweep, TraceData, Asm, Play, Explore, Check}
use Rattle.cmwq_command.specs.declared.file_store.Opened.{Opened}
use Rattle.cmwq_command.specs.declared.file_store.Opened.TheVariants.{File, Input}

-- what is left of it
abbrev pub opened_bytes : {F : Type 0} → (F → Option (List ℕ)) → Opened F → Option (List ℕ)
opened_bytes remaining (File file) = remaining file
opened_bytes remaining (Input bytes) = Some bytes.now

-- standard input, of which these bytes were read, stands as `-`; of other files nothing is known
abbrev pub input_bytes : (input : Option (List ℕ)) → (path : List ℕ) → Option (List ℕ)
input_bytes input path = if is_input path then input else None

-- the path by which the system tells what a file is: that of standard input is `/proc/self/fd/0`
abbrev pub looked_at : (path : List ℕ) → List ℕ
looked_at path = if is_input path then codes "/proc/self/fd/0" else path

-- whether a file that is read for the request is standard input
abbrev pub names_input : Request → Bool
names_input (Do file task) = is_input file.now
names_input (Strict file kind) = is_input file.now
names_input (Sweep file sweep) = is_input file.now
names_input (TraceData file out) = is_input file.now
names_input (Asm file out) = is_input file.now
names_input (Play file capacity) = is_input file.now
names_input (Explore file exploration) = is_input file.now
names_input (Check files) = list_any (λ file. is_input file.now) files.items
names_input request = false
