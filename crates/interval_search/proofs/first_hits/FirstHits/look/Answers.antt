use Rattle.std.proofs.Common.{◌≡◌, ◌<◌, ◌∷◌, List, Bool, true, false, length, ap, refl, ◌∙◌}
use Rattle.std.proofs.Common.{arith, rules, vec_len}
use Rattle.std.specs.List.{sum_by}
use Rattle.std.proofs.lemmas.List.{get_or_default}
use Rattle.std.proofs.lemmas.List.Elements.{All-head}
use Rattle.std.proofs.lemmas.List.Sums.{sum_by-cons}
use Rattle.track_types.specs.declared.hit.Hit.{Hit}
use Rattle.snapshots.specs.Parts.{snapshot_in}
use Rattle.snapshots.specs.Sound.{IsBlock}
use Rattle.snapshots.specs.SoundParts.{IsValid}
use Rattle.snapshots.specs.declared.anchored.Anchored.{Anchored}
use Rattle.slice_search.specs.Sought.{first_stop_in, log_reads}
use Rattle.interval_search.specs.FirstHits.{is_known, IsLooking}
use Rattle.interval_search.proofs.FirstLemmas.{looking-begins, looking-ends, looking-into, looking-skips, next-within}
use Rattle.interval_search.proofs.first_hits.FirstHits.look.Given.{Over}
use Rattle.interval_search.proofs.first_hits.FirstHits.look.Goals as goal
use Rattle.interval_search.proofs.first_hits.FirstHits.look.Goals.{In-Some}

pub loop-block-init : goal.loop-block-init
loop-block-init g c =
    let sought = c.args.sought.now in
    record {
      looking = looking-begins sought.stores.now sought.from sought.to sought.test.now.region c.frame.ensures.valid
          sought.period sought.known (g.W.Lazy.left c.args.blocks.now) c.args.self.now.known.items
          c.args.self.now.found.items c.requires.first c.requires.blocks;
      rules = c.requires.rules;
      may = c.requires.may;
      reads = omega arith;
    }

module _ (g : Over) (c : In-Some g) where
  valid : IsValid c.args.sought.now.stores.now
  valid = c.frame.ensures.valid

  -- the next block is in front of those that are left
  looking : IsLooking c.args.sought.now.stores.now c.args.sought.now.from c.args.sought.now.to
      c.args.sought.now.test.now.region c.args.sought.now.period (c.in-Some.block ∷ g.W.Lazy.left c.draw.new.self)
      c.loop-block.self.known.items c.loop-block.self.found.items
  looking = rw c.in-Some.ensures.found at c.loop-block.invariant.looking

  inside : c.in-Some.block.index < length c.loop-block.self.known.items
  inside =
      let sought = c.args.sought.now in
      next-within sought.stores.now sought.from sought.to sought.test.now.region valid sought.period sought.known
      c.in-Some.block (g.W.Lazy.left c.draw.new.self) c.loop-block.self.known.items c.loop-block.self.found.items looking

  its : IsBlock (snapshot_in c.args.sought.now.stores.now c.args.sought.now.period) c.in-Some.block
  its = All-head (IsBlock (snapshot_in c.args.sought.now.stores.now c.args.sought.now.period)) c.in-Some.block
      (g.W.Lazy.left c.draw.new.self) looking.left_are

pub index-requires : goal.index-requires
index-requires g c =
    let size : vec_len c.loop-block.self.known ≡ length c.loop-block.self.known.items = search rules in
    let less = inside g (goal.at.index-requires g c).In-Some in
    omega (arith, size, less)

pub look_into-requires-clause-block : goal.look_into-requires-clause-block
look_into-requires-clause-block g c = its g (goal.at.look_into-requires-clause-block g c).In-Some

pub look_into-requires-clause-known : goal.look_into-requires-clause-known
look_into-requires-clause-known g c = inside g (goal.at.look_into-requires-clause-known g c).In-Some

pub loop-block-preserved-in-Continue-1 : goal.loop-block-preserved-in-Continue-1
loop-block-preserved-in-Continue-1 g c =
    let sought = c.args.sought.now in
    let at = (goal.at.loop-block-preserved-in-Continue-1 g c).In-Some in
    let block : Anchored = c.in-Some.block in
    let left : List Anchored = g.W.Lazy.left c.draw.new.self in
    let known : List Bool = c.loop-block.self.known.items in
    let found : List Hit = c.loop-block.self.found.items in
    let read : c.index.result.now ≡ is_known known block.index =
    c.index.ensures ∙ get_or_default known block.index c.index.result.now false (inside g at) in
    let gone : is_known known block.index ≡ false = grind (arith, read, c.if-not-index.true) in
    let into = looking-into sought.stores.now sought.from sought.to sought.test.now.region (valid g at) sought.period
    sought.known block left known found (looking g at) gone
    (first_stop_in sought.stores.now sought.period sought.from sought.to sought.test.now.region block) refl in
    let cost = ap (sum_by (log_reads sought.stores.now sought.period sought.from sought.to sought.test.now.region))
    c.in-Some.ensures.found in
    let next =
    sum_by-cons (log_reads sought.stores.now sought.period sought.from sought.to sought.test.now.region) block left in
    record {
      looking = rw (c.in_ok-look_into.ensures.found, c.in_ok-look_into.ensures.known) into;
      rules = c.look_into.ensures.rules ∙ c.loop-block.invariant.rules;
      may = λ read needed. c.loop-block.invariant.may read (c.in-Some.ensures.needs read needed);
      reads = omega (
        arith,
        c.look_into.ensures.cost,
        c.in-Some.ensures.cost,
        c.loop-block.invariant.reads,
        cost,
        next,
      );
    }

pub loop-block-preserved : goal.loop-block-preserved
loop-block-preserved g c =
    let sought = c.args.sought.now in
    let at = (goal.at.loop-block-preserved g c).In-Some in
    let block : Anchored = c.in-Some.block in
    let left : List Anchored = g.W.Lazy.left c.draw.new.self in
    let known : List Bool = c.loop-block.self.known.items in
    let read : c.index.result.now ≡ is_known known block.index =
    c.index.ensures ∙ get_or_default known block.index c.index.result.now false (inside g at) in
    let old : is_known known block.index ≡ true = grind (arith, read, c.if-not-index.false) in
    let cost = ap (sum_by (log_reads sought.stores.now sought.period sought.from sought.to sought.test.now.region))
    c.in-Some.ensures.found in
    let next =
    sum_by-cons (log_reads sought.stores.now sought.period sought.from sought.to sought.test.now.region) block left in
    record {
      looking = looking-skips sought.stores.now sought.from sought.to sought.test.now.region (valid g at) sought.period
          sought.known block left known c.loop-block.self.found.items (looking g at) old;
      rules = c.loop-block.invariant.rules;
      may = λ read needed. c.loop-block.invariant.may read (c.in-Some.ensures.needs read needed);
      reads = omega (arith, c.in-Some.ensures.cost, c.loop-block.invariant.reads, cost, next);
    }

pub returns-clause-first : goal.returns-clause-first
returns-clause-first g c =
    let sought = c.args.sought.now in
    looking-ends sought.stores.now sought.from sought.to sought.test.now.region c.frame.ensures.valid sought.period sought.known
    c.loop-block.self.known.items c.loop-block.self.found.items
    (rw c.in_default.ensures.none at c.loop-block.invariant.looking)
