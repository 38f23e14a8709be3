-- What a write that took no bytes comes to.
use Rattle.std.specs.Prelude.{ℕ, zero, suc, Bool, true, false, Result, Ok, Err, nat_lt}

-- a write failed where it answers an error, or took none of some bytes
abbrev pub put_failed : {E : Type 0} → Result ℕ E → ℕ → Bool
put_failed (Ok zero) len = nat_lt 0 len
put_failed (Ok (suc taken)) len = false
put_failed (Err error) len = true
