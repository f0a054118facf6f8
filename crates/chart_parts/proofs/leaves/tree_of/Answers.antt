use Rattle.std.proofs.Common.{◌≡◌, ◌∙◌, ap, map, rules}
use Rattle.std.specs.Prelude.{◌==◌}
use Rattle.std.specs.List.{dedup}
use Rattle.std.proofs.lemmas.Fn.{dedup_same}
use Rattle.list_laws.proofs.DedupLemmas.{map-dedup}
use Rattle.snapshots.proofs.SoundLemmas.{wide_of-fits}
use Rattle.chart_parts.specs.Leaf.{LeafView}
use Rattle.chart_parts.proofs.leaves.tree_of.Goals as goal
use Rattle.chart_parts.proofs.leaves.tree_of.Goals.{After-as_slice-2}

-- the numbers are those of the leaves, each once
codes_are : (c : After-as_slice-2)
    → c.as_slice-2.result.now ≡ dedup (λ a b. a == b) (map (λ leaf. leaf.code) c.args.leaves.items)
codes_are c =
    let kept = dedup_same _ (λ (a b : LeafView). a.code == b.code) _
    (λ x y b f' x' y' k. search rules) _ _ c.dedup_by_key.ensures.filtered in
    c.as_slice-2.ensures.value ∙ c.in_ok-codes.ensures
    ∙ ap (map (λ leaf. leaf.code)) (c.as_slice.ensures.value ∙ kept)
    ∙ map-dedup (λ leaf. leaf.code) (λ a b. a == b) c.args.leaves.items

pub bits_of_codes-requires-clause-fits : goal.bits_of_codes-requires-clause-fits
bits_of_codes-requires-clause-fits c = rw c.wide_levels-wide.ensures (wide_of-fits c.args.frame)

pub bits_of_codes-requires-clause-ascending : goal.bits_of_codes-requires-clause-ascending
bits_of_codes-requires-clause-ascending c =
    rw (codes_are (goal.at.bits_of_codes-requires-clause-ascending c).After-as_slice-2) c.requires.ascending

pub returns : goal.returns
returns c = record {
  ok = rw (c.wide_levels-wide.ensures, codes_are (goal.at.returns c).After-as_slice-2) at c.bits_of_codes.ensures.ok;
}
