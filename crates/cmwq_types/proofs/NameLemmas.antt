-- How a name is kept.
use Rattle.std.proofs.Common.{◌≡◌, ℕ, ◌<◌, List, [], ◌∷◌, ◌++◌, length, take, drop, replicate, sym, ap, ◌∙◌, true, refl, arith, ◌&&◌}
use Rattle.std.proofs.lemmas.Bool.{and_parts}
use Rattle.std.proofs.lemmas.Bool.Decides.{nat_tests}
use Rattle.std.proofs.lemmas.Str.{IsUtf8-from_ascii}
use Rattle.std.proofs.lemmas.Str.Ascii.{IsAscii-nil, IsAscii-cons}
use Rattle.std.specs.List.{list_all}
use Rattle.std.specs.Prelude.{Result, Ok, Err, IsOk, MatchResult, nat_le, slice_index}
use Rattle.std.specs.Str.{IsAscii, IsUtf8}
use Rattle.cmwq_types.specs.declared.limits.TheConstants.{MAX_NAME}
use Rattle.std.proofs.lemmas.List.{drop-replicate}
use Rattle.std.proofs.Math.Seq.{take-append_seam}
use Rattle.cmwq_types.specs.Name.{is_lowercase, is_name, is_name_byte, padded, IsStored}

-- a name's bytes, with what is left of 15 zeros behind them, keep the name
pub IsStored-padded : (name : List ℕ) → is_name name ≡ true → IsStored (name ++ drop (length name) (replicate 15 0)) (length name)
IsStored-padded name named =
    let front : take (length name) (name ++ drop (length name) (replicate 15 0)) ≡ name = take-append_seam name (drop (length name) (replicate 15 0)) in
    record {
      long = ap length front;
      rest = ap (λ zeros. name ++ zeros) (drop-replicate (length name) 15 0) ∙ sym (ap padded front);
      name = ap is_name front ∙ named;
    }

name_byte-below : (byte : ℕ) → is_name_byte byte ≡ true → byte < 128
name_byte-below byte h = grind (arith, nat_tests)

IsAscii-name_bytes : (bytes : List ℕ) → list_all is_name_byte bytes ≡ true → IsAscii bytes
IsAscii-name_bytes [] h = IsAscii-nil
IsAscii-name_bytes (b ∷ bs) h =
    let parts = and_parts (is_name_byte b) (list_all is_name_byte bs) h in
    IsAscii-cons b bs (name_byte-below b parts.0) (IsAscii-name_bytes bs parts.1)

-- a name is text
pub IsUtf8-name : (bytes : List ℕ) → is_name bytes ≡ true → IsUtf8 bytes
IsUtf8-name bytes named =
    let all : list_all is_name_byte bytes ≡ true = (and_parts (nat_le 1 (length bytes) && nat_le (length bytes) MAX_NAME && is_lowercase (slice_index bytes 0)) (list_all is_name_byte bytes) named).1 in
    IsUtf8-from_ascii bytes (IsAscii-name_bytes bytes all)

-- what isn't refused is there
pub accepted : {A E U : Type 0} (r : Result A E) (P : A → Type 0) (Q : E → Type 0) → MatchResult r P (λ e. (¬ U) × Q e) → U → IsOk r
accepted (Ok x) P Q h u = refl
accepted (Err e) P Q h u = absurd (h.0 u)
