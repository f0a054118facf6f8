use Rattle.std.proofs.Common.{◌≡◌, ◌^◌, ◌≤◌, take}
use Rattle.track_types.specs.Numeral.{magnitude_of}
use Rattle.track_types.proofs.numeral.magnitude.Given as goal

abbrev pub invariant-loop-digit : goal.invariant-loop-digit
invariant-loop-digit l = record {
  within : l.value ≤ 2 ^ 62;
  so_far : l.value ≡ magnitude_of (take l.digit-index l.digits);
}
