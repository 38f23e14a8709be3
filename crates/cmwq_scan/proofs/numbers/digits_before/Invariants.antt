use Rattle.std.proofs.Common.{◌≡◌, take, true}
use Rattle.std.specs.Char.{is_ascii_digit}
use Rattle.std.specs.List.{list_all}
use Rattle.std.specs.Str.Parse.{digits_value}
use Rattle.cmwq_scan.proofs.numbers.digits_before.Given as goal

-- the number that the digits so far write
abbrev pub invariant-loop-place : goal.invariant-loop-place
invariant-loop-place l = record {
  digits : list_all is_ascii_digit (take l.place l.bytes) ≡ true;
  value : l.value ≡ digits_value 10 (take l.place l.bytes);
}
