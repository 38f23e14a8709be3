-- The names of queues, works and actors, as lists of bytes.
use Rattle.std.specs.Prelude.{◌≡◌, ℕ, ◌-◌, Bool, ◌&&◌, ◌||◌, List, ◌++◌, length, take, replicate, IsTrue, nat_le, ◌==◌, slice_index}
use Rattle.std.specs.List.{list_all}
use Rattle.cmwq_types.specs.declared.limits.TheConstants.{MAX_NAME}

-- `a` to `z`
abbrev pub is_lowercase : ℕ → Bool
is_lowercase byte = nat_le 97 byte && nat_le byte 122

-- `a` to `z`, `0` to `9` or `_`
abbrev pub is_name_byte : ℕ → Bool
is_name_byte byte = is_lowercase byte || (nat_le 48 byte && nat_le byte 57) || (byte == 95)

-- 1 to 15 bytes that may stand in a name, the first of them a letter
abbrev pub is_name : List ℕ → Bool
is_name bytes =
    nat_le 1 (length bytes) && nat_le (length bytes) MAX_NAME && is_lowercase (slice_index bytes 0)
    && list_all is_name_byte bytes

-- the bytes that keep a name: its own, then zeros
abbrev pub padded : List ℕ → List ℕ
padded name = name ++ replicate (MAX_NAME - length name) 0

-- these bytes and this length keep a name
pub record IsStored (bytes : List ℕ) (n : ℕ) : Type 0 where
  pub long : length (take n bytes) ≡ n
  pub rest : bytes ≡ padded (take n bytes)
  pub name : IsTrue (is_name (take n bytes))
