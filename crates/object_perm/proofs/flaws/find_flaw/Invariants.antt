use Rattle.std.proofs.Common.{◌≡◌, ℕ, ◌<◌, length, get_or, false, eqb, take}
use Rattle.std.specs.List.{list_any}
use Rattle.object_perm.specs.Permutation.{is_flawed}
use Rattle.object_perm.proofs.flaws.find_flaw.Given as goal

abbrev pub invariant-loop-place : goal.invariant-loop-place
invariant-loop-place l = record {
  same_length : length l.met.items ≡ length l.values;
  met : (value : ℕ) → get_or l.met.items value false ≡ list_any (λ w. eqb w value) (take l.place l.values);
  sound : (place : ℕ) → place < l.place → is_flawed l.values place ≡ false;
}
