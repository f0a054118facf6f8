-- What holds of every version of the format.
use Rattle.std.proofs.Common.{◌≡◌, ℕ, zero, suc, ◌*◌, ◌≤◌, refl, arith}
use Rattle.std.specs.Prelude.{nat_lt, if◌then◌else◌}
use Rattle.std.proofs.lemmas.Bool.Decides.{nat_tests}
use Rattle.track_types.specs.Spelling.{greatest_height, spelling_of, wide_levels}
use Rattle.track_types.specs.declared.limit.TheConstants.{MAX_HEIGHT}
use Rattle.track_types.specs.declared.spelling.Spelling.{Spelling}
use Rattle.track_types.specs.declared.spelling.Spelling.TheVariants.{Parts, PackedParts, Outline}

-- how a version writes, by tests
pub spelling_by_tests : (version : ℕ)
    → spelling_of version ≡ (if nat_lt version 2 then Parts else if nat_lt version 3 then PackedParts else Outline)
spelling_by_tests zero = refl
spelling_by_tests (suc zero) = refl
spelling_by_tests (suc (suc zero)) = refl
spelling_by_tests (suc (suc (suc more))) = grind (arith, nat_tests)

-- at most one level of four is wide
pub wide_levels-few : (spelling : Spelling) (height : ℕ) → 4 * wide_levels spelling height ≤ height
wide_levels-few Parts height = omega arith
wide_levels-few PackedParts height = omega arith
wide_levels-few Outline height = omega arith

-- a tree is at most as high as any may be
pub greatest_height-limit : (spelling : Spelling) → greatest_height spelling ≤ MAX_HEIGHT
greatest_height-limit Parts = omega arith
greatest_height-limit PackedParts = omega arith
greatest_height-limit Outline = omega arith
