-- The fields of an image: what is read of each is what is written.
use Rattle.std.proofs.Common.{◌≡◌, ℕ, zero, suc, ◌-◌, ◌<◌, ◌≤◌, Bool, true, false, cond, ◌&&◌, List, [], ◌∷◌, ◌++◌, length, take, drop, replicate, Some, None, refl, sym, ap, subst, ◌∙◌, arith}
use Rattle.std.specs.Int.{Width, w8, w16, w32, byte_len, from_be_bytes, to_be_bytes}
use Rattle.std.specs.List.{flat_map, AllByRecursion}
use Rattle.std.specs.Prelude.{nat_le, IsTrue}
use Rattle.std.specs.Str.{bytes_eq}
use Rattle.std.proofs.lemmas.Bool.{and_parts}
use Rattle.std.proofs.lemmas.Bool.Decides.{nat_tests}
use Rattle.std.proofs.lemmas.List.{length-append, length-replicate, take_at, append-nil}
use Rattle.std.proofs.lemmas.List.Concat.{flat_map-cons}
use Rattle.std.proofs.lemmas.Nat.{be_bytes_2, be_bytes_4, from_be_bytes-to_be_bytes_2, from_be_bytes-to_be_bytes_4}
use Rattle.std.proofs.lemmas.Slice.Eq.{bytes_eq-Decides}
use Rattle.cmwq_types.specs.Faults.{within}
use Rattle.cmwq_types.specs.Name.{is_name, padded}
use Rattle.cmwq_image.specs.Image.{number, name_field}
use Rattle.cmwq_image.specs.ImageFault.{Reader, ◌>>=◌, done, many, read_number, if_within, read_version, read_name, name_in_field}
use Rattle.cmwq_image.specs.Limits.{AreBytes}
use Rattle.cmwq_image.specs.declared.error.ImageError.TheVariants as errors
use Rattle.cmwq_image.specs.declared.version.TheConstants.{FIRST_VERSION, VERSION}
use Rattle.cmwq_image.proofs.Codec.{Codec, Meaning, of_field, bad_field, bad_version, convert, nothing, one_then}

-- ---- numbers

pub record IsWide (width : Width) (limit : ℕ) : Type 0 where
  pub small : byte_len width ≤ 16
  pub long : (n : ℕ) → length (to_be_bytes width n) ≡ byte_len width
  pub back : (bytes : List ℕ) → length bytes ≡ byte_len width → AreBytes bytes → to_be_bytes width (from_be_bytes width bytes) ≡ bytes
  pub again : (n : ℕ) → n < limit → from_be_bytes width (to_be_bytes width n) ≡ n

byte_back : (bytes : List ℕ) → length bytes ≡ 1 → AreBytes bytes → to_be_bytes w8 (from_be_bytes w8 bytes) ≡ bytes
byte_back [] size fine = absurd (omega arith)
byte_back (b ∷ []) size fine = ap (λ n. n ∷ []) (omega (arith, fine 0))
byte_back (b ∷ c ∷ bytes) size fine = absurd (omega arith)

pub wide8 : IsWide w8 256
wide8 = record {
  small = omega arith;
  long = λ n. refl;
  back = byte_back;
  again = λ n less. omega arith;
}

pub wide16 : IsWide w16 65536
wide16 = record {
  small = omega arith;
  long = λ n. refl;
  back = λ bytes size fine. be_bytes_2 bytes _ size fine refl;
  again = λ n less. from_be_bytes-to_be_bytes_2 n less;
}

pub wide32 : IsWide w32 4294967296
wide32 = record {
  small = omega arith;
  long = λ n. refl;
  back = λ bytes size fine. be_bytes_4 bytes _ size fine refl;
  again = λ n less. from_be_bytes-to_be_bytes_4 n less;
}

abbrev pub InRange : ℕ → ℕ → ℕ → Type 0
InRange low high n = (low ≤ n) × (n ≤ high)

pub within_is : (low high n m : ℕ) → if_within low high n ≡ Some m → (n ≡ m) × InRange low high m
within_is low high n m h = go (within low high n) refl h
  where
    go : (b : Bool) → within low high n ≡ b → cond b (Some n) None ≡ Some m → (n ≡ m) × InRange low high m
    go true t e =
        let same : n ≡ m = cc in
        let parts = and_parts (nat_le low n) (nat_le n high) t in
        let a : low ≤ n = grind (arith, nat_tests) in
        let b : n ≤ high = grind (arith, nat_tests) in
        (same, (omega arith, omega arith))
    go false t e = absurd cc

is_within : (low high n : ℕ) → InRange low high n → if_within low high n ≡ Some n
is_within low high n h =
    let a : low ≤ n = h.0 in
    let b : n ≤ high = h.1 in
    grind (arith, nat_tests)

number_meaning : (width : Width) (limit low high : ℕ) → IsWide width limit → low ≤ high → high < limit
    → Meaning (byte_len width) (λ bytes. if_within low high (from_be_bytes width bytes)) (number width) (InRange low high)
number_meaning width limit low high wide some below = record {
  small = wide.small;
  takes = λ bytes n fine size meant.
      let is = within_is low high (from_be_bytes width bytes) n meant in
      (is.1, sym (wide.back bytes size fine) ∙ ap (to_be_bytes width) is.0);
  again = λ n fits. ap (if_within low high) (wide.again n (omega (arith, fits.1))) ∙ is_within low high n fits;
  long = λ n fits. wide.long n;
  some = low;
  some_fits = (omega arith, some);
}

pub numbers : (width : Width) (limit low high : ℕ) → IsWide width limit → low ≤ high → high < limit → Codec (read_number width low high) (number width) (InRange low high)
numbers width limit low high wide some below =
    of_field errors.BadField bad_field (byte_len width) (λ bytes. if_within low high (from_be_bytes width bytes)) (number width) (InRange low high)
    (number_meaning width limit low high wide some below)

pub versions : Codec read_version (number w16) (InRange FIRST_VERSION VERSION)
versions =
    of_field (λ at. errors.Version) bad_version 2 (λ bytes. if_within FIRST_VERSION VERSION (from_be_bytes w16 bytes)) (number w16) (InRange FIRST_VERSION VERSION)
    (number_meaning w16 65536 FIRST_VERSION VERSION wide16 (omega arith) (omega arith))

-- ---- names

name_meant : (bytes name : List ℕ) → name_in_field bytes ≡ Some name → IsTrue (is_name name) × (bytes ≡ name_field name)
name_meant [] name h = absurd cc
name_meant (len ∷ bytes) name h = go (bytes_eq (len ∷ bytes) (name_field (take len bytes)) && is_name (take len bytes)) refl h
  where
    go : (b : Bool) → (bytes_eq (len ∷ bytes) (name_field (take len bytes)) && is_name (take len bytes)) ≡ b → cond b (Some (take len bytes)) None ≡ Some name
        → IsTrue (is_name name) × (len ∷ bytes ≡ name_field name)
    go true t e =
        let same : take len bytes ≡ name = cc in
        let parts = and_parts (bytes_eq (len ∷ bytes) (name_field (take len bytes))) (is_name (take len bytes)) t in
        let equal = (bytes_eq-Decides (len ∷ bytes) (name_field (take len bytes))).0 parts.0 in
        (ap is_name (sym same) ∙ parts.1, equal ∙ ap name_field same)
    go false t e = absurd cc

pub name_size : (name : List ℕ) → IsTrue (is_name name) → length name ≤ 15
name_size name named =
    let h : nat_le (length name) 15 ≡ true = grind (arith, nat_tests) in
    grind (arith, nat_tests)

name_again : (name : List ℕ) → IsTrue (is_name name) → name_in_field (name_field name) ≡ Some name
name_again name named =
    let front : take (length name) (padded name) ≡ name = take_at name (replicate (15 - length name) 0) (length name) refl in
    let equal : bytes_eq (name_field name) (name_field name) ≡ true = (bytes_eq-Decides (name_field name) (name_field name)).1 refl in
    ap (λ (x : List ℕ). cond (bytes_eq (name_field name) (name_field x) && is_name x) (Some x) None) front
    ∙ ap (λ b. cond (b && is_name name) (Some name) None) equal
    ∙ ap (λ b. cond b (Some name) None) named

name_long : (name : List ℕ) → IsTrue (is_name name) → length (name_field name) ≡ 16
name_long name named = omega (arith, name_size name named, length-append name (replicate (15 - length name) 0), length-replicate {A = ℕ} (15 - length name) 0)

pub names : Codec read_name name_field (λ name. IsTrue (is_name name))
names = of_field errors.BadField bad_field 16 name_in_field name_field (λ name. IsTrue (is_name name)) (record {
  small = omega arith;
  takes = λ bytes name fine size meant. name_meant bytes name meant;
  again = name_again;
  long = name_long;
  some = 97 ∷ [];
  some_fits = refl;
})

-- ---- many of one kind

abbrev pub Each : {A : Type 0} → (A → Type 0) → ℕ → List A → Type 0
Each Fits n xs = (length xs ≡ n) × AllByRecursion Fits xs

abbrev first_of_all : {A : Type 0} → A → List A → A
first_of_all x [] = x
first_of_all x (y ∷ ys) = y

none_of : {A : Type 0} (Fits : A → Type 0) (xs : List A) → xs ≡ [] → Each Fits 0 xs
none_of Fits [] e = (refl, tt)
none_of Fits (x ∷ xs) e = absurd cc

is_none : {A : Type 0} (Fits : A → Type 0) (xs : List A) → Each Fits 0 xs → xs ≡ []
is_none Fits [] h = refl
is_none Fits (x ∷ xs) h = absurd (omega (arith, h.0))

-- the list has this first element, and behind it so many that fit
abbrev FrontIs : {A : Type 0} → (A → Type 0) → A → ℕ → A → List A → Type 0
FrontIs Fits some n x xs = (first_of_all some xs ≡ x) × (length xs ≡ suc n) × AllByRecursion Fits (drop 1 xs)

front_join : {A : Type 0} (Fits : A → Type 0) (some : A) (n : ℕ) (x : A) (others xs : List A) → Each Fits n others → xs ≡ x ∷ others → (drop 1 xs ≡ others) × FrontIs Fits some n x xs
front_join {A} Fits some n x others xs h e =
    let tail : drop 1 xs ≡ others = ap (drop 1) e in
    (tail, (ap (first_of_all some) e, ap length e ∙ ap suc h.0, subst (AllByRecursion Fits) (sym tail) h.1))

front_cut : {A : Type 0} (Fits : A → Type 0) (some : A) (n : ℕ) (x : A) (xs : List A) → FrontIs Fits some n x xs → Each Fits n (drop 1 xs) × (xs ≡ x ∷ drop 1 xs)
front_cut Fits some n x [] h = absurd (omega (arith, h.1))
front_cut {A} Fits some n x (y ∷ ys) h = ((omega (arith, h.1), h.2), ap (λ (z : A). z ∷ ys) h.0)

all_join : {A : Type 0} (Fits : A → Type 0) (some : A) (n : ℕ) (x : A) (xs : List A) → Fits x → FrontIs Fits some n x xs → (first_of_all some xs ≡ x) × Each Fits (suc n) xs
all_join Fits some n x [] f h = absurd (omega (arith, h.1))
all_join Fits some n x (y ∷ ys) f h = (h.0, (h.1, (subst Fits (sym h.0) f, h.2)))

all_cut : {A : Type 0} (Fits : A → Type 0) (some : A) (n : ℕ) (xs : List A) → Each Fits (suc n) xs → Fits (first_of_all some xs) × FrontIs Fits some n (first_of_all some xs) xs
all_cut Fits some n [] h = absurd (omega (arith, h.0))
all_cut Fits some n (y ∷ ys) h = (h.1.0, (refl, h.0, h.1.1))

all_written : {A : Type 0} (Fits : A → Type 0) (write : A → List ℕ) (some : A) (n : ℕ) (xs : List A) → Each Fits (suc n) xs
    → flat_map write xs ≡ write (first_of_all some xs) ++ flat_map write (drop 1 xs)
all_written Fits write some n [] h = absurd (omega (arith, h.0))
all_written Fits write some n (y ∷ ys) h = flat_map-cons write y ys

nothing_written : {A : Type 0} (write : A → List ℕ) (xs : List A) → xs ≡ [] → flat_map write xs ≡ []
nothing_written write xs e = ap (flat_map write) e

pub many_of : {A : Type 0} (one : Reader A) (write : A → List ℕ) (Fits : A → Type 0) → Codec one write Fits → (n : ℕ) → Codec (many one n) (flat_map write) (Each Fits n)
many_of {A} one write Fits c zero =
    let none : List A = [] in
    convert (done none) (λ xs. []) (λ xs. xs ≡ none) (flat_map write) (Each Fits 0) (nothing none) (none_of Fits) (is_none Fits) (nothing_written write)
many_of {A} one write Fits c (suc n) =
    one_then one (λ first. many one n >>= λ others. done (first ∷ others)) (first_of_all c.some) write Fits
    (λ xs. flat_map write (drop 1 xs)) (FrontIs Fits c.some n) (flat_map write) (Each Fits (suc n)) c
    (λ first fits.
    one_then (many one n) (λ others. done (first ∷ others)) (drop 1) (flat_map write) (Each Fits n)
    (λ xs. []) (λ others xs. xs ≡ first ∷ others) (λ xs. flat_map write (drop 1 xs)) (FrontIs Fits c.some n first)
    (many_of one write Fits c n) (λ others all. nothing (first ∷ others)) (record {
      join = λ others xs. front_join Fits c.some n first others xs;
      cut = front_cut Fits c.some n first;
      written = λ xs h. sym (append-nil (flat_map write (drop 1 xs)));
    }))
    (record {
      join = λ x xs. all_join Fits c.some n x xs;
      cut = all_cut Fits c.some n;
      written = all_written Fits write c.some n;
    })
