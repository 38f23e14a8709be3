-- How far a reader looks: what stands behind the longest image makes no difference to what is read.
use Rattle.std.proofs.Common.{◌≡◌, ℕ, zero, suc, ◌+◌, ◌*◌, ◌<◌, ◌≤◌, ◌⊎◌, inl, inr, Bool, true, false, cond, eqb, List, [], ◌∷◌, ◌++◌, length, take, drop, Option, Some, None, Result, Ok, Err, refl, sym, ap, subst, ◌∙◌, arith}
use Rattle.std.proofs.Math.Nat.{suc-mul}
use Rattle.std.proofs.lemmas.Bool.{cases_lt, eqb-true}
use Rattle.std.proofs.lemmas.List.{length-append, length-drop, length-take-le, take_all, take-append-drop, take-append-le, drop-append-le}
use Rattle.std.specs.Int.{Width, w8, w16, w32, byte_len, from_be_bytes}
use Rattle.std.specs.Str.{bytes_eq}
use Rattle.cmwq_types.specs.Contents.{ScenarioContents}
use Rattle.cmwq_types.specs.Faults.{first_fault, IsValid}
use Rattle.cmwq_image.specs.Image.{all_flags, magic}
use Rattle.cmwq_image.specs.ImageFault.{Place, Reader, ◌>>=◌, hand_on, done, many, field, accepted, behind, if_within, read_number, read_version, read_name, name_in_field, read_queue, read_op_tag, op_tagged, op_room, read_op, read_instr_tag, tagged, instr_room, read_instr, read_work, read_line, read_actor, read_head, scenario_at, judged, unless_faulty, from_there, reading}
use Rattle.cmwq_image.specs.Limits.{HasSize}
use Rattle.cmwq_image.specs.Versions.{IsImageOf}
use Rattle.cmwq_types.specs.Values.{IsScenario}
use Rattle.cmwq_image.specs.declared.error.ImageError.{ImageError}
use Rattle.cmwq_image.specs.declared.error.ImageError.TheVariants as errors
use Rattle.cmwq_image.specs.declared.head.Head.{Head}
use Rattle.cmwq_image.specs.declared.version.TheConstants.{FIRST_VERSION, VERSION}
use Rattle.cmwq_image.proofs.Codec.{place, open_field}
use Rattle.cmwq_image.proofs.FieldCodecs.{InRange, within_is}
use Rattle.cmwq_image.proofs.ReadingLemmas.{image_read}
use Rattle.cmwq_image.proofs.SizeLemmas.{sized}
use Rattle.cmwq_image.proofs.WholeCodecs.{Versioned, rest_image, versioned}

-- what was given of these bytes: as much is given where more stand behind them, and no more than so many are gone
abbrev pub Gave : {A : Type 0} → Reader A → ℕ → (A → Type 0) → ℕ → (front more : List ℕ) → Result (A × Place) ImageError → Type 0
Gave {A} read size Fits at front more (Ok found) =
    Fits found.0 × (length front ≤ length found.1.rest + size) × (read (place at (front ++ more)) ≡ done found.0 (place found.1.at (found.1.rest ++ more)))
Gave read size Fits at front more (Err e) = read (place at (front ++ more)) ≡ Err e

-- a reader that looks at no more than so many bytes, and gives values that fit
pub record Near {A : Type 0} (read : Reader A) (size : ℕ) (Fits : A → Type 0) : Type 0 where
  pub same : (at : ℕ) (front more : List ℕ) → size ≤ length front → Gave read size Fits at front more (read (place at front))

-- what every value is
abbrev Any : {A : Type 0} → A → Type 0
Any x = Unit {0}

-- ---- nothing, and one field

-- reading nothing looks at no bytes
near_done : {A : Type 0} (value : A) (Fits : A → Type 0) → Fits value → Near (done value) 0 Fits
near_done value Fits fits = record { same = λ at front more long. (fits, omega arith, refl) }

-- a field, where more stand behind the bytes
field_more : {A : Type 0} (fault : ℕ → ImageError) (size : ℕ) (meaning : List ℕ → Option A) (at : ℕ) (front more : List ℕ) → size ≤ length front
    → field fault size meaning (place at (front ++ more)) ≡ accepted (fault at) (place (at + size) (drop size front ++ more)) (meaning (take size front))
field_more {A} fault size meaning at front more long =
    open_field fault size meaning (place at (front ++ more)) (omega (arith, length-append front more))
    ∙ ap (λ (b : List ℕ). accepted (fault at) (place (at + size) (drop size (front ++ more))) (meaning b)) (take-append-le size front more long)
    ∙ ap (λ (b : List ℕ). accepted (fault at) (place (at + size) b) (meaning (take size front))) (drop-append-le size front more long)

-- a field looks at its own bytes
near_field : {A : Type 0} (fault : ℕ → ImageError) (size : ℕ) (meaning : List ℕ → Option A) (Fits : A → Type 0)
    → ((bytes : List ℕ) (x : A) → meaning bytes ≡ Some x → Fits x) → Near (field fault size meaning) size Fits
near_field {A} fault size meaning Fits fits = record {
  same = λ at front more long.
      subst (Gave (field fault size meaning) size Fits at front more) (sym (open_field fault size meaning (place at front) long)) (go at front more long (meaning (take size front)) refl);
}
  where
    go : (at : ℕ) (front more : List ℕ) → size ≤ length front → (found : Option A) → meaning (take size front) ≡ found
        → Gave (field fault size meaning) size Fits at front more (accepted (fault at) (behind size (place at front)) found)
    go at front more long (Some x) t = (
      fits (take size front) x t,
      omega (arith, length-drop size front),
      field_more fault size meaning at front more long ∙ ap (accepted (fault at) (place (at + size) (drop size front ++ more))) t,
    )
    go at front more long None t =
        field_more fault size meaning at front more long ∙ ap (accepted (fault at) (place (at + size) (drop size front ++ more))) t

-- ---- one after the other

-- what was given of the first part, and of what follows it
later : {A B : Type 0} (first : Reader A) (next : A → Reader B) (size rest : ℕ) (Goal : B → Type 0) (at : ℕ) (front more : List ℕ) (x : A) (mid : Place)
    → length front ≤ length mid.rest + size → first (place at (front ++ more)) ≡ done x (place mid.at (mid.rest ++ more))
    → (r : Result (B × Place) ImageError) → Gave (next x) rest Goal mid.at mid.rest more r → Gave (first >>= next) (size + rest) Goal at front more r
later first next size rest Goal at front more x mid short same (Ok found) g = (g.0, omega (arith, g.1, short), ap (hand_on next) same ∙ g.2)
later first next size rest Goal at front more x mid short same (Err e) g = ap (hand_on next) same ∙ g

-- what was given of the first part, where the rest looks at no more than so many bytes
both : {A B : Type 0} (first : Reader A) (next : A → Reader B) (size rest : ℕ) (Fits : A → Type 0) (Goal : B → Type 0) → ((x : A) → Fits x → Near (next x) rest Goal)
    → (at : ℕ) (front more : List ℕ) → size + rest ≤ length front → (r : Result (A × Place) ImageError) → Gave first size Fits at front more r
    → Gave (first >>= next) (size + rest) Goal at front more (hand_on next r)
both first next size rest Fits Goal others at front more long (Ok found) g =
    later first next size rest Goal at front more found.0 found.1 g.1 g.2 (next found.0 found.1)
    ((others found.0 g.0).same found.1.at found.1.rest more (omega (arith, g.1, long)))
both first next size rest Fits Goal others at front more long (Err e) g = ap (hand_on next) g

-- one reader after the other looks at as many bytes as both
near_then : {A B : Type 0} (first : Reader A) (next : A → Reader B) (size rest : ℕ) (Fits : A → Type 0) (Goal : B → Type 0)
    → Near first size Fits → ((x : A) → Fits x → Near (next x) rest Goal) → Near (first >>= next) (size + rest) Goal
near_then first next size rest Fits Goal one others = record {
  same = λ at front more long. both first next size rest Fits Goal others at front more long (first (place at front)) (one.same at front more (omega (arith, long)));
}

-- a reader that looks at fewer bytes
wider : {A : Type 0} (read : Reader A) (few size : ℕ) (Fits : A → Type 0) → few ≤ size → Near read few Fits → Near read size Fits
wider {A} read few size Fits less near = record {
  same = λ at front more long. go at front more (read (place at front)) (near.same at front more (omega (arith, long, less)));
}
  where
    go : (at : ℕ) (front more : List ℕ) (r : Result (A × Place) ImageError) → Gave read few Fits at front more r → Gave read size Fits at front more r
    go at front more (Ok found) g = (g.0, omega (arith, g.1, less), g.2)
    go at front more (Err e) g = g

-- so many of one kind look at so many times its bytes
near_many : {A : Type 0} (one : Reader A) (size : ℕ) → Near one size Any → (n : ℕ) → Near (many one n) (n * size) Any
near_many {A} one size near zero = wider (many one 0) 0 (0 * size) Any (omega arith) (near_done [] Any tt)
near_many {A} one size near (suc n) =
    wider (many one (suc n)) (size + (n * size + 0)) (suc n * size) Any (omega (arith, suc-mul n size))
    (near_then one (λ first. many one n >>= λ others. done (first ∷ others)) size (n * size + 0) Any Any near
    (λ first fits. near_then (many one n) (λ others. done (first ∷ others)) (n * size) 0 Any Any (near_many one size near n)
    (λ others all. near_done (first ∷ others) Any tt)))

-- ---- the fields of an image

-- a number looks at its bytes, and is within its limits
near_number : (width : Width) (low high : ℕ) → Near (read_number width low high) (byte_len width) (InRange low high)
near_number width low high =
    near_field errors.BadField (byte_len width) (λ bytes. if_within low high (from_be_bytes width bytes)) (InRange low high)
    (λ bytes n e. (within_is low high (from_be_bytes width bytes) n e).1)

-- each kind of field, and what follows it
version_then : {B : Type 0} {Goal : B → Type 0} (next : ℕ → Reader B) (rest : ℕ) → ((n : ℕ) → Near (next n) rest Goal) → Near (read_version >>= next) (2 + rest) Goal
version_then {Goal} next rest others =
    near_then read_version next 2 rest Any Goal (near_field (λ at. errors.Version) 2 (λ bytes. if_within FIRST_VERSION VERSION (from_be_bytes w16 bytes)) Any (λ bytes x e. tt)) (λ n fits. others n)

byte_then : {B : Type 0} {Goal : B → Type 0} (low high : ℕ) (next : ℕ → Reader B) (rest : ℕ) → ((n : ℕ) → InRange low high n → Near (next n) rest Goal)
    → Near (read_number w8 low high >>= next) (1 + rest) Goal
byte_then {Goal} low high next rest others = near_then (read_number w8 low high) next 1 rest (InRange low high) Goal (near_number w8 low high) others

short_then : {B : Type 0} {Goal : B → Type 0} (low high : ℕ) (next : ℕ → Reader B) (rest : ℕ) → ((n : ℕ) → InRange low high n → Near (next n) rest Goal)
    → Near (read_number w16 low high >>= next) (2 + rest) Goal
short_then {Goal} low high next rest others = near_then (read_number w16 low high) next 2 rest (InRange low high) Goal (near_number w16 low high) others

long_then : {B : Type 0} {Goal : B → Type 0} (low high : ℕ) (next : ℕ → Reader B) (rest : ℕ) → ((n : ℕ) → InRange low high n → Near (next n) rest Goal)
    → Near (read_number w32 low high >>= next) (4 + rest) Goal
long_then {Goal} low high next rest others = near_then (read_number w32 low high) next 4 rest (InRange low high) Goal (near_number w32 low high) others

name_then : {B : Type 0} {Goal : B → Type 0} (next : List ℕ → Reader B) (rest : ℕ) → ((name : List ℕ) → Near (next name) rest Goal) → Near (read_name >>= next) (16 + rest) Goal
name_then {Goal} next rest others = near_then read_name next 16 rest Any Goal (near_field errors.BadField 16 name_in_field Any (λ bytes x e. tt)) (λ name fits. others name)

-- so many parts of one kind
many_then : {A B : Type 0} {Goal : B → Type 0} (one : Reader A) (size : ℕ) → Near one size Any → (count : ℕ) (next : List A → Reader B) (rest : ℕ) → ((xs : List A) → Near (next xs) rest Goal)
    → Near (many one count >>= next) (count * size + rest) Goal
many_then {Goal} one size near count next rest others = near_then (many one count) next (count * size) rest Any Goal (near_many one size near count) (λ xs fits. others xs)

-- ---- the parts of an image

near_queue : (version : ℕ) → Near (read_queue version) 20 Any
unfolding read_queue
near_queue version =
    name_then _ 4 (λ name. short_then 0 65535 _ 2 (λ max m. byte_then 0 (all_flags version) _ 1 (λ bits b. byte_then 0 0 _ 0 (λ nothing n. near_done _ Any tt))))

near_op : (version : ℕ) → Near (read_op version) 8 Any
unfolding read_op
near_op version =
    near_then (read_op_tag version) _ 1 7 Any Any (near_field errors.BadField 1 (λ bytes. op_tagged version (from_be_bytes w8 bytes)) Any (λ bytes x e. tt))
    (λ tag fits. byte_then 0 (op_room tag).cpu _ 6 (λ cpu c. short_then 0 (op_room tag).a _ 4 (λ a b. long_then 0 (op_room tag).n _ 0 (λ n m. near_done _ Any tt))))

near_instr : (version : ℕ) → Near (read_instr version) 8 Any
unfolding read_instr
near_instr version =
    near_then (read_instr_tag version) _ 1 7 Any Any (near_field errors.BadField 1 (λ bytes. tagged version (from_be_bytes w8 bytes)) Any (λ bytes x e. tt))
    (λ tag fits. byte_then 0 (instr_room tag).cpu _ 6 (λ cpu c. short_then 0 (instr_room tag).a _ 4 (λ a b. long_then 0 (instr_room tag).n _ 0 (λ n m. near_done _ Any tt))))

-- a name, two bytes, and at most 64 operations of 8 bytes
near_work : (version : ℕ) → Near (read_work version) 530 Any
unfolding read_work
near_work version =
    name_then _ 514 (λ name. byte_then 0 255 _ 513 (λ queue q. byte_then 1 64 _ 512 (λ count few.
    wider _ (count * 8 + 0) 512 Any (omega (arith, few.1)) (many_then (read_op version) 8 (near_op version) count _ 0 (λ body. near_done _ Any tt)))))

near_line : (version : ℕ) → Near (read_line version) 12 Any
unfolding read_line
near_line version = near_then (read_instr version) _ 8 4 Any Any (near_instr version) (λ instr fits. long_then 0 4294967295 _ 0 (λ times t. near_done _ Any tt))

-- a name, two bytes, and at most 4096 lines of 12 bytes
near_actor : (version : ℕ) → Near (read_actor version) 49170 Any
unfolding read_actor
near_actor version =
    name_then _ 49154 (λ name. short_then 0 4096 _ 49152 (λ count few.
    wider _ (count * 12 + 0) 49152 Any (omega (arith, few.1)) (many_then (read_line version) 12 (near_line version) count _ 0 (λ lines. near_done _ Any tt))))

-- ---- the whole

-- no more parts than an image can have
abbrev FewParts : Head → Type 0
FewParts head = (head.queues ≤ 32) × (head.works ≤ 256) × (head.actors ≤ 16)

near_head : Near read_head 12 FewParts
unfolding read_head
near_head =
    byte_then 0 255 _ 11 (λ cpus c. byte_then 0 255 _ 10 (λ workers w. long_then 0 4294967295 _ 6 (λ steps s. short_then 0 65535 _ 4 (λ flushes f.
    byte_then 0 32 _ 3 (λ queues few_queues. short_then 0 256 _ 1 (λ works few_works. byte_then 0 16 _ 0 (λ actors few_actors.
    near_done _ FewParts (few_queues.1, few_works.1, few_actors.1))))))))

-- 2 + 12 + 32 * 20 + 256 * 530 + 16 * 49170 bytes
near_scenario : Near scenario_at 923054 Any
unfolding scenario_at
near_scenario =
    version_then _ 923052 (λ version. near_then read_head _ 12 923040 FewParts Any near_head
    (λ head few.
    wider _ (head.queues * 20 + (head.works * 530 + (head.actors * 49170 + 0))) 923040 Any (omega (arith, few.0, few.1, few.2))
    (many_then (read_queue version) 20 (near_queue version) head.queues _ (head.works * 530 + (head.actors * 49170 + 0)) (λ queues.
    many_then (read_work version) 530 (near_work version) head.works _ (head.actors * 49170 + 0) (λ works.
    many_then (read_actor version) 49170 (near_actor version) head.actors _ 0 (λ actors. near_done _ Any tt))))))

-- a byte that is left is the fault Extra
left_over : (S : ScenarioContents) (at : ℕ) (rest : List ℕ) → 0 < length rest → judged (done S (place at rest)) ≡ Err errors.Extra
left_over S at rest some = go (eqb (length rest) 0) refl
  where
    go : (b : Bool) → eqb (length rest) 0 ≡ b → cond b (unless_faulty S (first_fault S)) (Err errors.Extra) ≡ Err errors.Extra
    go true t = absurd (omega (arith, some, eqb-true (length rest) 0 t))
    go false t = refl

-- the parts are judged alike, where a byte is left behind them
judged_same : (front more : List ℕ) → 923054 < length front → (r : Result (ScenarioContents × Place) ImageError) → Gave scenario_at 923054 Any 4 front more r
    → judged (scenario_at (place 4 (front ++ more))) ≡ judged r
judged_same front more long (Ok found) g =
    ap judged g.2 ∙ left_over found.0 found.1.at (found.1.rest ++ more) (omega (arith, long, g.1, length-append found.1.rest more))
    ∙ sym (left_over found.0 found.1.at found.1.rest (omega (arith, long, g.1)))
judged_same front more long (Err e) g = ap judged g

-- what reading gives by the first four bytes
abbrev by_magic : Bool → List ℕ → Result ScenarioContents ImageError
by_magic is rest = from_there (cond is (Ok (place 4 rest)) (Err errors.Magic))

-- what stands behind a long front makes no difference to this
by_magic_same : (is : Bool) (front more : List ℕ) → 923054 < length front → by_magic is (front ++ more) ≡ by_magic is front
by_magic_same true front more long = judged_same front more long (scenario_at (place 4 front)) (near_scenario.same 4 front more (omega (arith, long)))
by_magic_same false front more long = refl

-- nor to reading
reading_more : (front more : List ℕ) → 923058 < length front → reading (front ++ more) ≡ reading front
unfolding reading
reading_more front more long =
    ap (λ (b : List ℕ). by_magic (bytes_eq b magic) (drop 4 (front ++ more))) (take-append-le 4 front more (omega (arith, long)))
    ∙ ap (λ (b : List ℕ). by_magic (bytes_eq (take 4 front) magic) b) (drop-append-le 4 front more (omega (arith, long)))
    ∙ by_magic_same (bytes_eq (take 4 front) magic) (drop 4 front) more (omega (arith, long, length-drop 4 front))

-- what stands far behind is not looked at
pub far_bytes : (n : ℕ) (bytes : List ℕ) → 923058 < n → reading (take n bytes) ≡ reading bytes
far_bytes n bytes far =
    elim (cases_lt n (length bytes)) [
      | inl less ↦
          sym (reading_more (take n bytes) (drop n bytes) (omega (arith, far, length-take-le n bytes (omega (arith, less)))))
          ∙ ap reading (take-append-drop n bytes)
      | inr all ↦ ap reading (take_all n bytes all)
    ]

-- the image of a scenario is read up to its end
pub image_size : (bytes : List ℕ) (S : ScenarioContents) → IsScenario S → HasSize S → IsImageOf bytes S → length bytes ≤ 923058
image_size bytes S contents sizes is = at_most (cases_lt 923054 (length (rest_image p)))
  where
    p : Versioned
    p = versioned is.version S

    whole : length bytes ≡ length (magic ++ rest_image p)
    whole = ap length is.written

    at_most : (923054 < length (rest_image p)) ⊎ (length (rest_image p) ≤ 923054) → length bytes ≤ 923058
    at_most (inl longer) =
        let read = image_read p (record { contents = contents; sized = sizes; has = is.has }) in
        let gave = subst (Gave scenario_at 923054 Any 4 (rest_image p) []) read (near_scenario.same 4 (rest_image p) [] (omega (arith, longer))) in
        absurd (omega (arith, longer, gave.1))
    at_most (inr short) = omega (arith, short, whole, length-append magic (rest_image p))

pub valid_image_size : (bytes : List ℕ) (S : ScenarioContents) → IsScenario S → IsValid S → IsImageOf bytes S → length bytes ≤ 923058
valid_image_size bytes S contents valid is = image_size bytes S contents (sized S valid) is
