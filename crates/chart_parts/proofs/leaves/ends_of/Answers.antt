use Rattle.std.proofs.Common.{◌≡◌, ◌∙◌, ◌++◌, ◌∷◌, [], ap, arith, length, map, sym}
use Rattle.std.specs.List.{range_with_len}
use Rattle.std.proofs.lemmas.List.{length-map}
use Rattle.std.proofs.lemmas.List.FromFn.{length-map-range_with_len, map-range_with_len_more}
use Rattle.chart_parts.specs.LeafOrder.{ends_of}
use Rattle.chart_parts.specs.PeriodWith.{is_end}
use Rattle.chart_parts.proofs.LeafEndLemmas.{ends_of-map}
use Rattle.chart_parts.proofs.leaves.ends_of.Goals as goal

pub loop-place-preserved : goal.loop-place-preserved
loop-place-preserved c =
    let codes = map (λ leaf. leaf.code) c.args.leaves.now in
    let place = c.loop-place.place in
    c.in_ok-push.ensures.items
    ∙ ap (λ bit. c.loop-place.bits.items ++ bit ∷ []) c.is_end.ensures
    ∙ ap (λ bits. bits ++ is_end codes place ∷ []) c.loop-place.invariant
    ∙ sym (map-range_with_len_more (is_end codes) 0 place place (omega arith))

pub pack-requires : goal.pack-requires
pack-requires c =
    let codes = map (λ leaf. leaf.code) c.args.leaves.now in
    let long = ap length c.loop-place.invariant ∙ length-map-range_with_len (is_end codes) 0 c.loop-place.place in
    omega (arith, long, ap length c.as_slice.ensures.value)

pub returns : goal.returns
returns c =
    let leaves = c.args.leaves.now in
    let codes = map (λ leaf. leaf.code) leaves in
    let whole : c.loop-place.place ≡ length codes = omega (arith, length-map leaves (λ leaf. leaf.code)) in
    let bits : c.as_slice.result.now ≡ ends_of codes =
    c.as_slice.ensures.value ∙ c.loop-place.invariant
    ∙ ap (λ n. map (is_end codes) (range_with_len 0 n)) whole ∙ sym (ends_of-map codes) in
    rw bits at c.pack.ensures.ok
