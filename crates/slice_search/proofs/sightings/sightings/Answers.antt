use Rattle.std.proofs.Common.{◌≡◌, ◌++◌, List, length, ap, subst, sym, arith}
use Rattle.std.specs.List.{sum_by}
use Rattle.std.proofs.lemmas.List.Sums.{sum_by-append}
use Rattle.snapshots.specs.Parts.{snapshot_in}
use Rattle.snapshots.specs.Sound.{IsBlock}
use Rattle.snapshots.specs.declared.anchored.Anchored.{Anchored}
use Rattle.slice_search.specs.Sought.{log_reads}
use Rattle.slice_search.proofs.WalkLemmas.{All-after, All-before, drawn-next, walking-pushed, IsWalking}
use Rattle.slice_search.proofs.sightings.sightings.Given.{Over}
use Rattle.slice_search.proofs.sightings.sightings.Goals as goal
use Rattle.slice_search.proofs.sightings.sightings.Goals.{After-push_reserved}

-- the blocks that are to be searched are the same after the next is drawn
same : (g : Over) (c : After-push_reserved g) → c.push_reserved.new.self.items ++ g.W.Lazy.left c.draw.new.self
    ≡ c.loop-block.group.items ++ g.W.Lazy.left c.loop-block.blocks
same g c = drawn-next c.loop-block.group.items c.push_reserved.new.self.items (g.W.Lazy.left c.loop-block.blocks)
    (g.W.Lazy.left c.draw.new.self) c.in-Some.block c.in-Some.ensures.found c.push_reserved.ensures.items

walking : (g : Over) (c : After-push_reserved g) → IsWalking c.args.sought.now.stores.now c.args.sought.now.period
    c.args.sought.now.from c.args.sought.now.test.now.region (g.W.Lazy.left c.args.blocks.now)
    (c.push_reserved.new.self.items ++ g.W.Lazy.left c.draw.new.self) c.loop-block.found.items
walking g c =
    let sought = c.args.sought.now in
    let all : List Anchored = g.W.Lazy.left c.args.blocks.now in
    subst (λ xs. IsWalking sought.stores.now sought.period sought.from sought.test.now.region all xs
    c.loop-block.found.items) (sym (same g c)) c.loop-block.invariant.walking

pub push_group-requires-clause-blocks : goal.push_group-requires-clause-blocks
push_group-requires-clause-blocks g c =
    let at = (goal.at.push_group-requires-clause-blocks g c).After-push_reserved in
    All-before (IsBlock (snapshot_in c.args.sought.now.stores.now c.args.sought.now.period))
    c.push_reserved.new.self.items (g.W.Lazy.left c.draw.new.self) (walking g at).are

pub loop-block-preserved-in-Continue-branch-2 : goal.loop-block-preserved-in-Continue-branch-2
loop-block-preserved-in-Continue-branch-2 g c =
    let at = (goal.at.loop-block-preserved-in-Continue-branch-2 g c).After-push_reserved in
    let sought = c.args.sought.now in
    let parts = sought.stores.now in
    let region = sought.test.now.region in
    let log = log_reads parts sought.period sought.from sought.from region in
    let left : List Anchored = g.W.Lazy.left c.draw.new.self in
    let group = c.push_reserved.new.self.items in
    let its = c.loop-block.invariant in
    let pushed = c.in_ok-push_group.ensures in
    let none = ap (λ xs. xs ++ left) pushed.empty in
    let are = All-after (IsBlock (snapshot_in parts sought.period)) group left (walking g at).are in
    let next = walking-pushed parts sought.period sought.from region (g.W.Lazy.left c.args.blocks.now) group left
    c.loop-block.found.items c.push_group.new.found.items (walking g at) pushed.found are in
    record {
      walking = subst (λ xs. IsWalking parts sought.period sought.from region (g.W.Lazy.left c.args.blocks.now) xs
          c.push_group.new.found.items) (sym none) next;
      few = omega (arith, ap length pushed.empty);
      room = omega (arith, its.room, c.push_reserved.ensures.capacity, pushed.room);
      may = λ read needed. its.may read (c.in-Some.ensures.needs read needed);
      idle = pushed.none;
      reads = omega (
        arith,
        its.reads,
        c.in-Some.ensures.cost,
        c.push_group.ensures.cost,
        ap (sum_by log) (same g at),
        ap (sum_by log) none,
        sum_by-append log group left,
      );
    }
