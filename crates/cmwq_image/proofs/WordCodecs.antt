-- The words of operations and instructions: what is read of each is what is written.
use Rattle.std.proofs.Common.{◌≡◌, ℕ, ◌<◌, ◌≤◌, Bool, true, false, cond, eqb, List, [], ◌∷◌, ◌++◌, Option, Some, None, refl, sym, ap, subst, ◌∙◌, arith}
use Rattle.std.specs.Int.{w8, w16, w32, from_be_bytes}
use Rattle.std.specs.Prelude.{nat_le}
use Rattle.std.proofs.lemmas.Bool.{eqb-true}
use Rattle.std.proofs.lemmas.Bool.Decides.{nat_tests}
use Rattle.cmwq_types.specs.declared.instr.Instr.{Instr}
use Rattle.cmwq_types.specs.declared.instr.Instr.TheVariants as instr
use Rattle.cmwq_types.specs.declared.scenario.Op.{Op}
use Rattle.cmwq_types.specs.declared.scenario.Op.TheVariants as op
use Rattle.cmwq_image.specs.Image.{in_order, number, word, word_image, op_tag, op_word, instr_word, last_op_tag, last_tag, tag_of}
use Rattle.cmwq_image.specs.ImageFault.{◌>>=◌, done, field, read_number, first_with, op_tagged, op_room, read_op, tagged, instr_room, shape_room, read_instr}
use Rattle.cmwq_types.proofs.FieldLemmas.{op_word_again, word_again}
use Rattle.cmwq_types.specs.Fields.{fields, fields_of, instr_of, shape_of, word_of}
use Rattle.cmwq_types.specs.Mnemonics.{mnemonics}
use Rattle.cmwq_types.specs.Operations.{op_fields_of, op_shape_of, op_with, op_word_of, op_words}
use Rattle.cmwq_types.specs.Values.{AreFields, IsOp, IsInstr}
use Rattle.cmwq_types.specs.declared.fields.Fields.{Fields}
use Rattle.cmwq_types.specs.declared.fields.Shape.{Shape}
use Rattle.cmwq_types.specs.declared.fields.Shape.TheVariants as shape
use Rattle.cmwq_types.specs.declared.mnemonic.Mnemonic.{Mnemonic}
use Rattle.cmwq_types.specs.declared.mnemonic.Mnemonic.TheVariants as mnemonic
use Rattle.cmwq_types.specs.declared.operation.OpWord.{OpWord}
use Rattle.cmwq_types.specs.declared.operation.OpWord.TheVariants as words_of
use Rattle.cmwq_image.specs.declared.error.ImageError.TheVariants as errors
use Rattle.cmwq_image.specs.declared.word.FieldRoom.{FieldRoom}
use Rattle.cmwq_image.specs.declared.word.Word.{Word}
use Rattle.cmwq_image.proofs.Codec.{Codec, Meaning, of_field, bad_field, nothing, one_then}
use Rattle.cmwq_image.proofs.FieldCodecs.{InRange, numbers, wide8, wide16, wide32}

-- a word's fields have room
pub record Within (room : FieldRoom) (cpu a n : ℕ) : Type 0 where
  pub cpu_fits : cpu ≤ room.cpu
  pub a_fits : a ≤ room.a
  pub n_fits : n ≤ room.n

pub record IsRoom (room : FieldRoom) : Type 0 where
  pub cpu_fits : room.cpu < 256
  pub a_fits : room.a < 65536
  pub n_fits : room.n < 4294967296

-- What a kind of words is: its tags, the room behind each, and the values that they stand for.
pub record WordLaws {T B : Type 0} (code : T → ℕ) (tag_of : ℕ → Option T) (room : T → FieldRoom) (made : T → (cpu a n : ℕ) → B) (tag : B → T) (as_word : B → Word) (Fits : B → Type 0) : Type 0 where
  pub small : (t : T) → code t < 256
  pub known : (n : ℕ) (t : T) → tag_of n ≡ Some t → n ≡ code t
  pub some : T
  pub some_found : tag_of (code some) ≡ Some some
  pub is_room : (t : T) → IsRoom (room t)
  pub tagged : (x : B) → (as_word x).tag ≡ code (tag x)
  pub found : (x : B) → Fits x → tag_of (code (tag x)) ≡ Some (tag x)
  pub within : (x : B) → Fits x → Within (room (tag x)) (as_word x).cpu (as_word x).a (as_word x).n
  pub fits : (x : B) → tag_of (code (tag x)) ≡ Some (tag x) → Within (room (tag x)) (as_word x).cpu (as_word x).a (as_word x).n → Fits x
  pub made_tag : (t : T) (cpu a n : ℕ) → tag (made t cpu a n) ≡ t
  pub made_word : (t : T) (cpu a n : ℕ) → Within (room t) cpu a n → as_word (made t cpu a n) ≡ word (code t) cpu a n
  pub again : (x : B) → made (tag x) (as_word x).cpu (as_word x).a (as_word x).n ≡ x

-- the tag stands in the table
abbrev IsFound : {T : Type 0} (code : T → ℕ) (tag_of : ℕ → Option T) → T → Type 0
IsFound code tag_of t = tag_of (code t) ≡ Some t

tag_meaning : {T B : Type 0} (code : T → ℕ) (tag_of : ℕ → Option T) (room : T → FieldRoom) (made : T → (cpu a n : ℕ) → B) (tag : B → T) (as_word : B → Word) (Fits : B → Type 0)
    → WordLaws code tag_of room made tag as_word Fits → Meaning 1 (λ bytes. tag_of (from_be_bytes w8 bytes)) (λ t. number w8 (code t)) (IsFound code tag_of)
tag_meaning {T} code tag_of room made tag as_word Fits laws = record {
  small = omega arith;
  takes = λ bytes t fine size meant.
      let is : from_be_bytes w8 bytes ≡ code t = laws.known (from_be_bytes w8 bytes) t meant in
      (ap tag_of (sym is) ∙ meant, sym (wide8.back bytes size fine) ∙ ap (number w8) is);
  again = λ t fits. ap tag_of (wide8.again (code t) (laws.small t)) ∙ fits;
  long = λ t fits. refl;
  some = laws.some;
  some_fits = laws.some_found;
}

-- Behind a tag: the word's value has this tag, and these fields, and what is still to come has room.

abbrev Tagged : {T B : Type 0} (room : T → FieldRoom) (tag : B → T) (as_word : B → Word) → T → B → Type 0
Tagged room tag as_word t x = (tag x ≡ t) × Within (room t) (as_word x).cpu (as_word x).a (as_word x).n

words_n : {T B : Type 0} (code : T → ℕ) (tag_of : ℕ → Option T) (room : T → FieldRoom) (made : T → (cpu a n : ℕ) → B) (tag : B → T) (as_word : B → Word) (Fits : B → Type 0)
    → WordLaws code tag_of room made tag as_word Fits → (t : T) (cpu a : ℕ) → cpu ≤ (room t).cpu → a ≤ (room t).a
    → Codec (read_number w32 0 (room t).n >>= λ n. done (made t cpu a n)) (λ x. in_order (number w32 (as_word x).n ∷ []))
    (λ x. Tagged room tag as_word t x × ((as_word x).cpu ≡ cpu) × ((as_word x).a ≡ a))
words_n {T} {B} code tag_of room made tag as_word Fits laws t cpu a cpu_fits a_fits =
    one_then (read_number w32 0 (room t).n) (λ n. done (made t cpu a n)) (λ x. (as_word x).n) (number w32) (InRange 0 (room t).n)
    (λ x. []) (λ n x. x ≡ made t cpu a n) (λ x. in_order (number w32 (as_word x).n ∷ []))
    (λ x. Tagged room tag as_word t x × ((as_word x).cpu ≡ cpu) × ((as_word x).a ≡ a))
    (numbers w32 4294967296 0 (room t).n wide32 (omega arith) (laws.is_room t).n_fits)
    (λ n fits. nothing (made t cpu a n))
    (record {
      join = λ n x fits e.
          let is : as_word x ≡ word (code t) cpu a n = ap as_word e ∙ laws.made_word t cpu a n (record { cpu_fits = cpu_fits; a_fits = a_fits; n_fits = fits.1 }) in
          let cpu_is : (as_word x).cpu ≡ cpu = ap (λ (w : Word). w.cpu) is in
          let a_is : (as_word x).a ≡ a = ap (λ (w : Word). w.a) is in
          let n_is : (as_word x).n ≡ n = ap (λ (w : Word). w.n) is in
          let tag_is : tag x ≡ t = ap tag e ∙ laws.made_tag t cpu a n in
          let n_fits : n ≤ (room t).n = fits.1 in
          (n_is, ((tag_is, record { cpu_fits = omega arith; a_fits = omega arith; n_fits = omega arith }), cpu_is, a_is));
      cut = λ x h.
          let n_fits : (as_word x).n ≤ (room t).n = h.0.1.n_fits in (
            (omega arith, n_fits),
            sym (laws.again x) ∙ ap (λ (u : T). made u (as_word x).cpu (as_word x).a (as_word x).n) h.0.0
                ∙ ap (λ c. made t c (as_word x).a (as_word x).n) h.1 ∙ ap (λ b. made t cpu b (as_word x).n) h.2,
          );
      written = λ x h. refl;
    })

words_a : {T B : Type 0} (code : T → ℕ) (tag_of : ℕ → Option T) (room : T → FieldRoom) (made : T → (cpu a n : ℕ) → B) (tag : B → T) (as_word : B → Word) (Fits : B → Type 0)
    → WordLaws code tag_of room made tag as_word Fits → (t : T) (cpu : ℕ) → cpu ≤ (room t).cpu
    → Codec (read_number w16 0 (room t).a >>= λ a. read_number w32 0 (room t).n >>= λ n. done (made t cpu a n)) (λ x. in_order (number w16 (as_word x).a ∷ number w32 (as_word x).n ∷ []))
    (λ x. Tagged room tag as_word t x × ((as_word x).cpu ≡ cpu))
words_a {T} {B} code tag_of room made tag as_word Fits laws t cpu cpu_fits =
    one_then (read_number w16 0 (room t).a) (λ a. read_number w32 0 (room t).n >>= λ n. done (made t cpu a n)) (λ x. (as_word x).a) (number w16) (InRange 0 (room t).a)
    (λ x. in_order (number w32 (as_word x).n ∷ [])) (λ a x. Tagged room tag as_word t x × ((as_word x).cpu ≡ cpu) × ((as_word x).a ≡ a))
    (λ x. in_order (number w16 (as_word x).a ∷ number w32 (as_word x).n ∷ []))
    (λ x. Tagged room tag as_word t x × ((as_word x).cpu ≡ cpu))
    (numbers w16 65536 0 (room t).a wide16 (omega arith) (laws.is_room t).a_fits)
    (λ a fits. words_n code tag_of room made tag as_word Fits laws t cpu a cpu_fits fits.1)
    (record {
      join = λ a x fits h. (h.2, (h.0, h.1));
      cut = λ x h. let a_fits : (as_word x).a ≤ (room t).a = h.0.1.a_fits in ((omega arith, a_fits), (h.0, h.1, refl));
      written = λ x h. refl;
    })

words_cpu : {T B : Type 0} (code : T → ℕ) (tag_of : ℕ → Option T) (room : T → FieldRoom) (made : T → (cpu a n : ℕ) → B) (tag : B → T) (as_word : B → Word) (Fits : B → Type 0)
    → WordLaws code tag_of room made tag as_word Fits → (t : T)
    → Codec (read_number w8 0 (room t).cpu >>= λ cpu. read_number w16 0 (room t).a >>= λ a. read_number w32 0 (room t).n >>= λ n. done (made t cpu a n))
    (λ x. in_order (number w8 (as_word x).cpu ∷ number w16 (as_word x).a ∷ number w32 (as_word x).n ∷ [])) (Tagged room tag as_word t)
words_cpu {T} {B} code tag_of room made tag as_word Fits laws t =
    one_then (read_number w8 0 (room t).cpu) (λ cpu. read_number w16 0 (room t).a >>= λ a. read_number w32 0 (room t).n >>= λ n. done (made t cpu a n)) (λ x. (as_word x).cpu) (number w8) (InRange 0 (room t).cpu)
    (λ x. in_order (number w16 (as_word x).a ∷ number w32 (as_word x).n ∷ [])) (λ cpu x. Tagged room tag as_word t x × ((as_word x).cpu ≡ cpu))
    (λ x. in_order (number w8 (as_word x).cpu ∷ number w16 (as_word x).a ∷ number w32 (as_word x).n ∷ []))
    (Tagged room tag as_word t)
    (numbers w8 256 0 (room t).cpu wide8 (omega arith) (laws.is_room t).cpu_fits)
    (λ cpu fits. words_a code tag_of room made tag as_word Fits laws t cpu fits.1)
    (record {
      join = λ cpu x fits h. (h.1, h.0);
      cut = λ x h. let cpu_fits : (as_word x).cpu ≤ (room t).cpu = h.1.cpu_fits in ((omega arith, cpu_fits), (h, refl));
      written = λ x h. refl;
    })

words : {T B : Type 0} (code : T → ℕ) (tag_of : ℕ → Option T) (room : T → FieldRoom) (made : T → (cpu a n : ℕ) → B) (tag : B → T) (as_word : B → Word) (Fits : B → Type 0)
    → WordLaws code tag_of room made tag as_word Fits
    → Codec (field errors.BadField 1 (λ bytes. tag_of (from_be_bytes w8 bytes)) >>= λ t. read_number w8 0 (room t).cpu >>= λ cpu. read_number w16 0 (room t).a >>= λ a. read_number w32 0 (room t).n >>= λ n. done (made t cpu a n))
    (λ x. word_image (as_word x)) Fits
words {T} {B} code tag_of room made tag as_word Fits laws =
    one_then (field errors.BadField 1 (λ bytes. tag_of (from_be_bytes w8 bytes)))
    (λ t. read_number w8 0 (room t).cpu >>= λ cpu. read_number w16 0 (room t).a >>= λ a. read_number w32 0 (room t).n >>= λ n. done (made t cpu a n))
    tag (λ t. number w8 (code t)) (IsFound code tag_of)
    (λ x. in_order (number w8 (as_word x).cpu ∷ number w16 (as_word x).a ∷ number w32 (as_word x).n ∷ [])) (Tagged room tag as_word)
    (λ x. word_image (as_word x)) Fits
    (of_field errors.BadField bad_field 1 (λ bytes. tag_of (from_be_bytes w8 bytes)) (λ t. number w8 (code t)) (IsFound code tag_of) (tag_meaning code tag_of room made tag as_word Fits laws))
    (λ t fits. words_cpu code tag_of room made tag as_word Fits laws t)
    (record {
      join = λ t x found h. (h.0, laws.fits x (subst (IsFound code tag_of) (sym h.0) found) (subst (λ (u : T). Within (room u) (as_word x).cpu (as_word x).a (as_word x).n) (sym h.0) h.1));
      cut = λ x h. (laws.found x h, (refl, laws.within x h));
      written = λ x h. ap (λ n. number w8 n ++ in_order (number w8 (as_word x).cpu ∷ number w16 (as_word x).a ∷ number w32 (as_word x).n ∷ [])) (laws.tagged x);
    })

-- a step along the table of tags
pick : {T : Type 0} (code : T → ℕ) (n k : ℕ) (t found : T) (later : Option T) → code t ≡ k → (later ≡ Some found → n ≡ code found)
    → cond (eqb n k) (Some t) later ≡ Some found → n ≡ code found
pick {T} code n k t found later is rest e = go (eqb n k) refl e
  where
    go : (b : Bool) → eqb n k ≡ b → cond b (Some t) later ≡ Some found → n ≡ code found
    go true same h = let it : t ≡ found = cc in eqb-true n k same ∙ sym is ∙ ap code it
    go false same h = rest h

-- a test of a limit
at_most : (n high : ℕ) → nat_le n high ≡ true → n ≤ high
at_most n high h = grind (arith, nat_tests)

is_at_most : (n high : ℕ) → n ≤ high → nat_le n high ≡ true
is_at_most n high h = grind (arith, nat_tests)

-- what is found up to a last tag
up_to : {T : Type 0} (n last : ℕ) (found : Option T) (t : T) → cond (nat_le n last) found None ≡ Some t → (found ≡ Some t) × (n ≤ last)
up_to {T} n last found t e = go (nat_le n last) refl e
  where
    go : (b : Bool) → nat_le n last ≡ b → cond b found None ≡ Some t → (found ≡ Some t) × (n ≤ last)
    go true small h = (h, at_most n last small)
    go false large h = absurd cc

is_up_to : {T : Type 0} (n last : ℕ) (found : Option T) → n ≤ last → cond (nat_le n last) found None ≡ found
is_up_to n last found small = ap (λ b. cond b found None) (is_at_most n last small)

-- words with the same fields
plain : (tag cpu a n c b m : ℕ) → cpu ≡ c → a ≡ b → n ≡ m → word tag cpu a n ≡ word tag c b m
plain tag cpu a n c b m e f g = ap (λ x. word tag x a n) e ∙ ap (λ x. word tag c x n) f ∙ ap (λ x. word tag c b x) g

-- what has room in the fields of this shape is operands of the shape
shape_fits : (s : Shape) (f : Fields) → Within (shape_room s) f.cpu f.id f.number → AreFields s f
shape_fits shape.Alone f h = tt
shape_fits shape.Ticks f h = omega (arith, h.n_fits)
shape_fits shape.Work f h = omega (arith, h.a_fits)
shape_fits shape.WorkCpu f h = (omega (arith, h.a_fits), omega (arith, h.cpu_fits))
shape_fits shape.WorkTicks f h = (omega (arith, h.a_fits), omega (arith, h.n_fits))
shape_fits shape.WorkCpuTicks f h = (omega (arith, h.a_fits), omega (arith, h.cpu_fits), omega (arith, h.n_fits))
shape_fits shape.Queue f h = omega (arith, h.a_fits)
shape_fits shape.QueueNumber f h = (omega (arith, h.a_fits), omega (arith, h.n_fits))
shape_fits shape.Pool f h = omega (arith, h.cpu_fits)
shape_fits shape.Flush f h = omega (arith, h.a_fits)
shape_fits shape.Time f h = omega (arith, h.n_fits)

first_known : {W : Type 0} (tag : W → ℕ) (ms : List W) (n : ℕ) (m : W) → first_with tag ms n ≡ Some m → n ≡ tag m
first_known tag [] n m e = absurd cc
first_known tag (x ∷ ms) n m e = pick tag n (tag x) x m (first_with tag ms n) refl (first_known tag ms n m) e

-- ---- operations

-- each line of these tables by the same steps

op_small : (m : OpWord) → op_tag m < 256
op_small words_of.Burn = omega arith
op_small _ = omega arith

op_found : (m : OpWord) → first_with op_tag op_words (op_tag m) ≡ Some m
op_found words_of.Burn = refl
op_found _ = refl

op_is_room : (m : OpWord) → IsRoom (op_room m)
op_is_room words_of.Burn = record { cpu_fits = omega arith; a_fits = omega arith; n_fits = omega arith }
op_is_room _ = record { cpu_fits = omega arith; a_fits = omega arith; n_fits = omega arith }

op_within : (x : Op) → IsOp x → Within (op_room (op_word_of x)) (op_word x).cpu (op_word x).a (op_word x).n
op_within (op.Burn ticks) h = record { cpu_fits = omega arith; a_fits = omega arith; n_fits = omega arith }
op_within _ h = record { cpu_fits = omega arith; a_fits = omega arith; n_fits = omega arith }

op_fits : (x : Op) → Within (op_room (op_word_of x)) (op_word x).cpu (op_word x).a (op_word x).n → IsOp x
op_fits x h = shape_fits (op_shape_of (op_word_of x)) (op_fields_of x) h

abbrev op_made : OpWord → (cpu a n : ℕ) → Op
op_made m cpu a n = op_with m (fields cpu a n)

op_made_tag : (m : OpWord) (cpu a n : ℕ) → op_word_of (op_made m cpu a n) ≡ m
op_made_tag m cpu a n = op_word_again m (fields cpu a n)

op_made_word : (m : OpWord) (cpu a n : ℕ) → Within (op_room m) cpu a n → op_word (op_made m cpu a n) ≡ word (op_tag m) cpu a n
op_made_word words_of.Burn cpu a n h = plain 1 0 0 n cpu a n (omega (arith, h.cpu_fits)) (omega (arith, h.a_fits)) (omega (arith, h.n_fits))
op_made_word _ cpu a n h = plain _ _ _ _ cpu a n (omega (arith, h.cpu_fits)) (omega (arith, h.a_fits)) (omega (arith, h.n_fits))

op_again : (x : Op) → op_with (op_word_of x) (fields (op_word x).cpu (op_word x).a (op_word x).n) ≡ x
op_again (op.Burn ticks) = refl
op_again _ = refl

-- the operation of a version
abbrev pub OpFits : ℕ → Op → Type 0
OpFits version o = IsOp o × ((op_word o).tag ≤ last_op_tag version)

-- each version has the first tag
burn_found : (version : ℕ) → op_tagged version 1 ≡ Some words_of.Burn
burn_found version = go (nat_le version 3)
  where
    go : (b : Bool) → cond (nat_le 1 (cond b 4 7)) (first_with op_tag op_words 1) None ≡ Some words_of.Burn
    go true = refl
    go false = refl

op_laws : (version : ℕ) → WordLaws op_tag (op_tagged version) op_room op_made op_word_of op_word (OpFits version)
op_laws version = record {
  small = op_small;
  known = λ n t e. first_known op_tag op_words n t (up_to n (last_op_tag version) (first_with op_tag op_words n) t e).0;
  some = words_of.Burn;
  some_found = burn_found version;
  is_room = op_is_room;
  tagged = λ x. refl;
  found = λ x h. is_up_to (op_tag (op_word_of x)) (last_op_tag version) (first_with op_tag op_words (op_tag (op_word_of x))) h.1 ∙ op_found (op_word_of x);
  within = λ x h. op_within x h.0;
  fits = λ x found h. (
    op_fits x h,
    (up_to (op_tag (op_word_of x)) (last_op_tag version) (first_with op_tag op_words (op_tag (op_word_of x))) (op_word_of x) found).1,
  );
  made_tag = op_made_tag;
  made_word = op_made_word;
  again = op_again;
}

pub ops : (version : ℕ) → Codec (read_op version) (λ x. word_image (op_word x)) (OpFits version)
unfolding read_op
ops version = words op_tag (op_tagged version) op_room op_made op_word_of op_word (OpFits version) (op_laws version)

-- ---- instructions

-- each line of these tables by the same steps

instr_small : (m : Mnemonic) → tag_of m < 256
instr_small mnemonic.Queue = omega arith
instr_small _ = omega arith

instr_found : (m : Mnemonic) → first_with tag_of mnemonics (tag_of m) ≡ Some m
instr_found mnemonic.Queue = refl
instr_found _ = refl

instr_is_room : (m : Mnemonic) → IsRoom (instr_room m)
instr_is_room mnemonic.Queue = record { cpu_fits = omega arith; a_fits = omega arith; n_fits = omega arith }
instr_is_room _ = record { cpu_fits = omega arith; a_fits = omega arith; n_fits = omega arith }

instr_within : (x : Instr) → IsInstr x → Within (instr_room (word_of x)) (instr_word x).cpu (instr_word x).a (instr_word x).n
instr_within (instr.Queue work cpu) h = record { cpu_fits = omega arith; a_fits = omega arith; n_fits = omega arith }
instr_within _ h = record { cpu_fits = omega arith; a_fits = omega arith; n_fits = omega arith }

instr_fits : (x : Instr) → Within (instr_room (word_of x)) (instr_word x).cpu (instr_word x).a (instr_word x).n → IsInstr x
instr_fits x h = shape_fits (shape_of (word_of x)) (fields_of x) h

instr_made_tag : (m : Mnemonic) (cpu a n : ℕ) → word_of (instr_of m (fields cpu a n)) ≡ m
instr_made_tag m cpu a n = word_again m (fields cpu a n)

instr_made_word : (m : Mnemonic) (cpu a n : ℕ) → Within (instr_room m) cpu a n → instr_word (instr_of m (fields cpu a n)) ≡ word (tag_of m) cpu a n
instr_made_word mnemonic.Queue cpu a n h = plain (tag_of mnemonic.Queue) cpu a 0 cpu a n (omega (arith, h.cpu_fits)) (omega (arith, h.a_fits)) (omega (arith, h.n_fits))
instr_made_word _ cpu a n h = plain _ _ _ _ cpu a n (omega (arith, h.cpu_fits)) (omega (arith, h.a_fits)) (omega (arith, h.n_fits))

instr_again : (x : Instr) → instr_of (word_of x) (fields (instr_word x).cpu (instr_word x).a (instr_word x).n) ≡ x
instr_again (instr.Queue work cpu) = refl
instr_again _ = refl

abbrev made_of : Mnemonic → (cpu a n : ℕ) → Instr
made_of m cpu a n = instr_of m (fields cpu a n)

-- the instruction of a version
abbrev pub InstrFits : ℕ → Instr → Type 0
InstrFits version i = IsInstr i × ((instr_word i).tag ≤ last_tag version)

-- each version has the first tag
queue_found : (version : ℕ) → tagged version 16 ≡ Some mnemonic.Queue
queue_found version = go (eqb version 1) (eqb version 2) (eqb version 3)
  where
    go : (b c d : Bool) → cond (nat_le 16 (cond b 33 (cond c 35 (cond d 37 40)))) (first_with tag_of mnemonics 16) None ≡ Some mnemonic.Queue
    go true c d = refl
    go false true d = refl
    go false false true = refl
    go false false false = refl

instr_laws : (version : ℕ) → WordLaws tag_of (tagged version) instr_room made_of word_of instr_word (InstrFits version)
instr_laws version = record {
  small = instr_small;
  known = λ n t e. first_known tag_of mnemonics n t (up_to n (last_tag version) (first_with tag_of mnemonics n) t e).0;
  some = mnemonic.Queue;
  some_found = queue_found version;
  is_room = instr_is_room;
  tagged = λ x. refl;
  found = λ x h. is_up_to (tag_of (word_of x)) (last_tag version) (first_with tag_of mnemonics (tag_of (word_of x))) h.1 ∙ instr_found (word_of x);
  within = λ x h. instr_within x h.0;
  fits = λ x found h. (
    instr_fits x h,
    (up_to (tag_of (word_of x)) (last_tag version) (first_with tag_of mnemonics (tag_of (word_of x))) (word_of x) found).1,
  );
  made_tag = instr_made_tag;
  made_word = instr_made_word;
  again = instr_again;
}

pub instrs : (version : ℕ) → Codec (read_instr version) (λ x. word_image (instr_word x)) (InstrFits version)
unfolding read_instr
instrs version = words tag_of (tagged version) instr_room made_of word_of instr_word (InstrFits version) (instr_laws version)
