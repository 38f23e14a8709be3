-- A name and its field.
use Rattle.std.specs.Prelude.{IfSome, IsSome, IsTrue, ◌↔◌}
use Rattle.std.proofs.Common.{get_or, ◌≡◌, ℕ, ◌-◌, ◌≤◌, suc, zero, true, false, cond, eqb, ◌&&◌, List, [], ◌∷◌, ◌++◌, length, take, drop, replicate, Option, Some, None, refl, sym, ap, ◌∙◌, arith}
use Rattle.std.proofs.lemmas.Bool.{eqb-true, and_parts, false_from_ne_true}
use Rattle.std.proofs.lemmas.List.{length-take, length-drop, take-append-drop, drop_at}
use Rattle.std.proofs.lemmas.Slice.Eq.{bytes_eq-Decides}
use Rattle.std.specs.List.{list_all}
use Rattle.std.specs.Str.{bytes_eq}
use Rattle.cmwq_types.specs.Name.{is_name, padded}
use Rattle.cmwq_image.specs.Image.{name_field}
use Rattle.cmwq_image.specs.ImageFault.{name_in_field}

zeros_are : (bytes : List ℕ) → list_all (λ byte. eqb byte 0) bytes ≡ true → bytes ≡ replicate (length bytes) 0
zeros_are [] h = refl
zeros_are (b ∷ bs) h =
    let parts = and_parts (eqb b 0) (list_all (λ byte. eqb byte 0) bs) h in
    let e : b ≡ 0 = eqb-true _ _ parts.0 in
    let rest : bs ≡ replicate (length bs) 0 = zeros_are bs parts.1 in
    ap (λ x. x ∷ bs) e ∙ ap (λ (x : List ℕ). 0 ∷ x) rest

are_zeros : (n : ℕ) → list_all (λ byte. eqb byte 0) (replicate n 0) ≡ true
are_zeros zero = refl
are_zeros (suc n) = are_zeros n

-- the field of the name that these bytes begin with, where zeros are left
field_is : (bytes : List ℕ) (len : ℕ) → length bytes ≡ 15 → len ≤ 15 → bytes_eq (len ∷ bytes) (name_field (take len bytes)) ≡ list_all (λ byte. eqb byte 0) (drop len bytes)
field_is bytes len size fits =
    let front : length (take len bytes) ≡ len = omega (arith, length-take len bytes) in
    let back : length (drop len bytes) ≡ 15 - len = omega (arith, length-drop len bytes) in
    elim (list_all (λ byte. eqb byte 0) (drop len bytes)) as (λ b. list_all (λ byte. eqb byte 0) (drop len bytes) ≡ b → bytes_eq (len ∷ bytes) (name_field (take len bytes)) ≡ b) [
      | true ↦ λ zeros.
          let rest : drop len bytes ≡ replicate (15 - len) 0 = zeros_are (drop len bytes) zeros ∙ ap (λ n. replicate n 0) back in
          let whole : bytes ≡ padded (take len bytes) =
          sym (take-append-drop len bytes) ∙ ap (λ (x : List ℕ). take len bytes ++ x) rest ∙ ap (λ n. take len bytes ++ replicate (15 - n) 0) (sym front) in
          (bytes_eq-Decides (len ∷ bytes) (name_field (take len bytes))).1 (ap (λ n. n ∷ bytes) (sym front) ∙ ap (λ (x : List ℕ). length (take len bytes) ∷ x) whole)
      | false ↦ λ more. false_from_ne_true (bytes_eq (len ∷ bytes) (name_field (take len bytes))) (λ same.
          let equal = (bytes_eq-Decides (len ∷ bytes) (name_field (take len bytes))).0 same in
          let whole : bytes ≡ padded (take len bytes) = ap (drop 1) equal in
          let rest : drop len bytes ≡ replicate (15 - length (take len bytes)) 0 =
          ap (drop len) whole ∙ drop_at (take len bytes) (replicate (15 - length (take len bytes)) 0) len front in
          let zeros : list_all (λ byte. eqb byte 0) (drop len bytes) ≡ true = ap (list_all (λ byte. eqb byte 0)) rest ∙ are_zeros (15 - length (take len bytes)) in
          let never : ⊥ = cc in absurd never)
    ] refl

-- bytes that begin with a length, with zeros behind so many bytes
pub named : (bytes name rest : List ℕ) (len : ℕ) → length bytes ≡ 16 → get_or bytes 0 0 ≡ len → len ≤ 15 → name ≡ take len (drop 1 bytes) → rest ≡ drop len (drop 1 bytes)
    → list_all (λ byte. eqb byte 0) rest ≡ true → name_in_field bytes ≡ cond (is_name name) (Some name) None
named [] name rest len size first fits front back zeros = absurd (omega arith)
named (l ∷ bs) name rest len size first fits front back zeros =
    let size_is : length bs ≡ 15 = omega arith in
    let same : bytes_eq (l ∷ bs) (name_field (take l bs)) ≡ true = field_is bs l size_is (omega arith) ∙ ap (λ n. list_all (λ byte. eqb byte 0) (drop n bs)) first ∙ ap (list_all (λ byte. eqb byte 0)) (sym back) ∙ zeros in
    ap (λ b. cond (b && is_name (take l bs)) (Some (take l bs)) None) same
    ∙ ap (λ (x : List ℕ). cond (is_name x) (Some x) None) (ap (λ n. take n bs) first ∙ sym front)

-- bytes that aren't zeros there
pub unnamed : (bytes rest : List ℕ) (len : ℕ) → length bytes ≡ 16 → get_or bytes 0 0 ≡ len → len ≤ 15 → rest ≡ drop len (drop 1 bytes)
    → list_all (λ byte. eqb byte 0) rest ≡ false → name_in_field bytes ≡ None
unnamed [] rest len size first fits back more = absurd (omega arith)
unnamed (l ∷ bs) rest len size first fits back more =
    let size_is : length bs ≡ 15 = omega arith in
    let differs : bytes_eq (l ∷ bs) (name_field (take l bs)) ≡ false = field_is bs l size_is (omega arith) ∙ ap (λ n. list_all (λ byte. eqb byte 0) (drop n bs)) first ∙ ap (list_all (λ byte. eqb byte 0)) (sym back) ∙ more in
    ap (λ b. cond (b && is_name (take l bs)) (Some (take l bs)) None) differs

-- what a name's reading answers: these bytes, exactly where they are a name
pub name_read : (read : Option (List ℕ)) (name : List ℕ) → IfSome read (λ found. found ≡ name) → (IsSome read ↔ IsTrue (is_name name)) → read ≡ cond (is_name name) (Some name) None
name_read (Some found) name same exact = ap (λ (x : List ℕ). Some x) same ∙ sym (ap (λ b. cond b (Some name) None) (exact.0 refl))
name_read None name same exact = sym (ap (λ b. cond b (Some name) None) (false_from_ne_true (is_name name) (λ h. let never = exact.1 h in cc)))
